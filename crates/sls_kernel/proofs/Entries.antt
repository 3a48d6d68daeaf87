-- The bytes of an entry, read one by one.
use Rattle.std.proofs.Common.{◌≡◌, ℕ, ◌+◌, ◌*◌, ◌/◌, ◌%◌, ◌<◌, List, [], ◌∷◌, ◌++◌, length, slice_index, arith, ◌∙◌}
use Rattle.std.proofs.lemmas.Grind.{common_steps, same_number_lists}
use Rattle.sls_kernel.specs.Words.{IsEntry, byte_of}

-- the first n of these bytes
pub record AreBytes (byte : ℕ → ℕ) (bytes : List ℕ) (n : ℕ) : Type 0 where
  pub size : length bytes ≡ n
  pub each : (k : ℕ) → k < n → slice_index bytes k ≡ byte k

pub bytes_more : (byte : ℕ → ℕ) (bytes : List ℕ) (n x : ℕ) → AreBytes byte bytes n → x ≡ byte n → AreBytes byte (bytes ++ x ∷ []) (n + 1)
bytes_more byte bytes n x are e = record {
  size = grind (arith, common_steps, are.size);
  each = λ k h. grind (arith, common_steps, are.size, are.each k);
}

-- byte k of an entry of a ring's page
abbrev pub entry_byte : (ℕ → ℕ) → ℕ → ℕ → ℕ
entry_byte words number k = byte_of (words (8 * (number % 64) + 1 + k / 8)) (k % 8)

pub same_entry : (words : ℕ → ℕ) (number n : ℕ) (bytes entry : List ℕ) → IsEntry words number entry → n ≡ words (8 * (number % 64)) → AreBytes (entry_byte words number) bytes n → bytes ≡ entry
same_entry words number n bytes entry is e are =
    let size : length bytes ≡ length entry = are.size ∙ e ∙ is.size in
    same_number_lists bytes entry size (λ k h. let within : k < n = omega (arith, are.size) in let room : k < 56 = omega (arith, is.most) in are.each k within ∙ is.bytes k room)
