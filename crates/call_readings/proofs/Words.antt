-- Numbers in the bytes of words and pages.
use Rattle.std.specs.Prelude.{◌≡◌, ℕ, zero, suc, ◌+◌, ◌*◌, ◌/◌, ◌%◌, ◌^◌, ◌<◌, ◌≤◌, Bool, true, false}
use Rattle.std.proofs.Common.{refl, sym, ap, ◌∙◌, arith}
use Rattle.std.proofs.lemmas.Nat.{mod-pow-add, shr-shr}
use Rattle.sls_base.specs.declared.limits.TheConstants.{PAGE_BYTES, PAGES}
use Rattle.pmem_model.specs.Memory.{Memory, word_at}
use Rattle.pmem_layout.specs.Places.{frame_at, runtime_frame}
use Rattle.kobj_table.specs.Slots.{bytes_of}
use Rattle.call_readings.specs.Content.{byte_of, number_in, is_page_home, Reads}

byte_is : (word k : ℕ) → k < 8 → byte_of word k ≡ word / 2 ^ (8 * k) % 2 ^ 8
byte_is word zero h = omega arith
byte_is word (suc zero) h = refl
byte_is word (suc (suc zero)) h = refl
byte_is word (suc (suc (suc zero))) h = refl
byte_is word (suc (suc (suc (suc zero)))) h = refl
byte_is word (suc (suc (suc (suc (suc zero))))) h = refl
byte_is word (suc (suc (suc (suc (suc (suc zero)))))) h = refl
byte_is word (suc (suc (suc (suc (suc (suc (suc zero))))))) h = refl
byte_is word (suc (suc (suc (suc (suc (suc (suc (suc k)))))))) h = absurd (omega arith)

-- the number in the bytes of a word
pub number_of_word : (word k n : ℕ) → k + n ≤ 8 → number_in (byte_of word) k n ≡ word / 2 ^ (8 * k) % 2 ^ (8 * n)
number_of_word word k zero h = omega arith
number_of_word word k (suc n) h =
    let rest = number_of_word word (k + 1) n (omega arith) in
    let first = byte_is word k (omega arith) in
    let up : word / 2 ^ (8 * (k + 1)) ≡ word / 2 ^ (8 * k) / 2 ^ 8 = ap (λ e. word / 2 ^ e) (omega arith) ∙ sym (shr-shr word (8 * k) 8) in
    let split : word / 2 ^ (8 * k) % 2 ^ (8 * suc n) ≡ (word / 2 ^ (8 * k) / 2 ^ 8 % 2 ^ (8 * n)) * 2 ^ 8 + word / 2 ^ (8 * k) % 2 ^ 8 =
    ap (λ e. word / 2 ^ (8 * k) % 2 ^ e) (omega arith) ∙ mod-pow-add (word / 2 ^ (8 * k)) (8 * n) 8 in
    rw (rest, first, up, split) (omega arith)

-- bytes that are alike make one number
pub number_alike : (f g : ℕ → ℕ) (a b n : ℕ) → ((j : ℕ) → j < n → f (a + j) ≡ g (b + j)) → number_in f a n ≡ number_in g b n
number_alike f g a b zero same = refl
number_alike f g a b (suc n) same =
    let first : f a ≡ g b = (let e = same 0 (omega arith) in grind (arith, e)) in
    let rest = number_alike f g (a + 1) (b + 1) n (λ j h. let e = same (1 + j) (omega arith) in grind (arith, e)) in
    rw (first, rest) refl

-- zeros make zero
pub number_of_zeros : (f : ℕ → ℕ) (a n : ℕ) → ((j : ℕ) → f j ≡ 0) → 0 ≡ number_in f a n
number_of_zeros f a zero none = refl
number_of_zeros f a (suc n) none = (let rest = sym (number_of_zeros f (a + 1) n none) in rw (none a, rest) refl)

pub zeros_of_none : (content : ℕ → ℕ → ℕ) (m : Memory) (page : ℕ) (fresh : Bool) → Reads content m → PAGES ≤ page → (j : ℕ) → bytes_of content page fresh j ≡ 0
zeros_of_none content m page true reads past j = refl
zeros_of_none content m page false reads past j = reads.none page j past

-- the number on a page is that in one of its words
pub number_of_page : (content : ℕ → ℕ → ℕ) (m : Memory) (page offset size : ℕ) → Reads content m → page < PAGES → is_page_home m page ≡ true
    → offset < PAGE_BYTES → offset % 8 + size ≤ 8
    → number_in (content page) offset size ≡ number_in (byte_of (word_at m (frame_at (runtime_frame page) + offset / 8)).cached) (offset % 8) size
number_of_page content m page offset size reads inside home within fits =
    number_alike (content page) (byte_of (word_at m (frame_at (runtime_frame page) + offset / 8)).cached) offset (offset % 8) size
    (λ j l.
    let row : (offset + j) / 8 ≡ offset / 8 = omega (arith, l, fits) in
    let column : (offset + j) % 8 ≡ offset % 8 + j = omega (arith, l, fits) in
    reads.home page (offset + j) inside (omega (arith, l, fits, within)) home ∙ rw (row, column) refl)

pub power_of_bytes : (n : ℕ) → n ≤ 4 → 2 ^ (8 * n) ≤ 2 ^ 32
power_of_bytes zero h = omega arith
power_of_bytes (suc zero) h = omega arith
power_of_bytes (suc (suc zero)) h = omega arith
power_of_bytes (suc (suc (suc zero))) h = omega arith
power_of_bytes (suc (suc (suc (suc zero)))) h = omega arith
power_of_bytes (suc (suc (suc (suc (suc n))))) h = absurd (omega arith)
