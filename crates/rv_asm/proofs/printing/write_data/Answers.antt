use Rattle.std.proofs.Common.{Result, Ok, Err, OnOk, MatchResult, ◌≡◌, ℕ, ◌<◌, ◌-◌, ◌/◌, ◌%◌, ◌^◌, ◌++◌, [], List, false, codes, refl, arith}
use Rattle.std.proofs.lemmas.Fmt.{hex_byte}
use Rattle.std.specs.Fmt.{digits, padded_integral, format_spec}
use Rattle.rv_asm.specs.Printed.{data_text}
use Rattle.rv_asm.proofs.printing.write_data.Goals as goal

-- a byte as two digits
abbrev padded : ℕ → List ℕ
padded byte = padded_integral (format_spec 32 0 4 2 (2 ^ 64 - 1)) false [] (digits 16 false byte)

-- the four bytes of a word are its eight digits
four_bytes : (w : ℕ) → w < 2 ^ 32 → codes ".word 0x" ++ (padded (w / 16777216 % 256) ++ (padded (w / 65536 % 256) ++ (padded (w / 256 % 256) ++ (padded (w % 256) ++ codes "\n")))) ≡ data_text w ++ codes "\n"
unfolding data_text
four_bytes w low =
    let a = hex_byte false (w / 16777216 % 256) (omega arith) in
    let b = hex_byte false (w / 65536 % 256) (omega arith) in
    let c = hex_byte false (w / 256 % 256) (omega arith) in
    let d = hex_byte false (w % 256) (omega arith) in
    let d7 : w / 16777216 % 256 / 16 ≡ w / 16 / 16 / 16 / 16 / 16 / 16 / 16 % 16 = omega arith in
    let d6 : w / 16777216 % 256 % 16 ≡ w / 16 / 16 / 16 / 16 / 16 / 16 % 16 = omega arith in
    let d5 : w / 65536 % 256 / 16 ≡ w / 16 / 16 / 16 / 16 / 16 % 16 = omega arith in
    let d4 : w / 65536 % 256 % 16 ≡ w / 16 / 16 / 16 / 16 % 16 = omega arith in
    let d3 : w / 256 % 256 / 16 ≡ w / 16 / 16 / 16 % 16 = omega arith in
    let d2 : w / 256 % 256 % 16 ≡ w / 16 / 16 % 16 = omega arith in
    let d1 : w % 256 / 16 ≡ w / 16 % 16 = omega arith in
    let d0 : w % 256 % 16 ≡ w % 16 = omega arith in
    rw (a, b, c, d) (rw (d7, d6, d5, d4, d3, d2, d1, d0) refl)

on_ok : {A E : Type 0} (r : Result A E) (P : Type 0) (Q : E → Type 0) → MatchResult r (λ _. P) Q → OnOk r P
on_ok (Ok x) P Q h = h
on_ok (Err e) P Q h = tt

pub returns : goal.returns
returns c =
    let layout = rw (c.laid_out.ensures, c.laid_out-2.ensures, c.laid_out-3.ensures, c.laid_out-4.ensures, c.in_radix.ensures, c.in_radix-2.ensures, c.in_radix-3.ensures, c.in_radix-4.ensures) at c.write.ensures.bytes in
    let bytes = rw (c.to_be_bytes.ensures) at layout in
    let low : c.args.word < 2 ^ 32 = omega arith in
    on_ok c.write.result _ _ (rw (four_bytes c.args.word low) at bytes)
