-- Operands in each shape, read where their parts are known.
use Rattle.std.proofs.Common.{◌≡◌, ℕ, ◌*◌, ◌^◌, false, Some, Ok, List, refl}
use Rattle.rv_asm.specs.declared.number.Number.{Number}
use Rattle.rv_asm.specs.Text.{one_operand, two_operands, three_operands}
use Rattle.rv_asm.specs.Operand.{register_of, number_of, within, is_name, memory_of}
use Rattle.rv_asm.specs.Statement.{Offset, upper, access, immediate, registers, data_word, jump, branch}

pub upper_read : (text a b : List ℕ) (n : Number) (rd high : ℕ) → two_operands text ≡ Some (a, b) → number_of b ≡ Some n → register_of a ≡ Some rd → within 0 1048575 n ≡ Some high → upper text ≡ Ok (rd, 2 ^ 12 * high)
unfolding upper
upper_read text a b n rd high parts number first in_range = rw (parts, number, first, in_range) refl

pub access_read : (text a b c d : List ℕ) (n : Number) (r base imm : ℕ) → two_operands text ≡ Some (a, b) → memory_of b ≡ Some (c, d) → number_of c ≡ Some n → register_of a ≡ Some r → register_of d ≡ Some base → within 2048 2047 n ≡ Some imm → access text ≡ Ok (r, base, imm)
unfolding access
access_read text a b c d n r base imm parts memory number first second in_range =
    rw (parts, memory, number, first, second, in_range) refl

pub immediate_read : (below above : ℕ) (text a b c : List ℕ) (n : Number) (rd rs1 imm : ℕ) → three_operands text ≡ Some (a, b, c) → number_of c ≡ Some n → register_of a ≡ Some rd → register_of b ≡ Some rs1 → within below above n ≡ Some imm → immediate below above text ≡ Ok (rd, rs1, imm)
unfolding immediate
immediate_read below above text a b c n rd rs1 imm parts number first second in_range =
    rw (parts, number, first, second, in_range) refl

pub registers_read : (text a b c : List ℕ) (rd rs1 rs2 : ℕ) → three_operands text ≡ Some (a, b, c) → register_of a ≡ Some rd → register_of b ≡ Some rs1 → register_of c ≡ Some rs2 → registers text ≡ Ok (rd, rs1, rs2)
unfolding registers
registers_read text a b c rd rs1 rs2 parts first second third = rw (parts, first, second, third) refl

pub data_read : (text a : List ℕ) (n : Number) (w : ℕ) → one_operand text ≡ Some a → number_of a ≡ Some n → within 0 4294967295 n ≡ Some w → data_word text ≡ Ok w
unfolding data_word
data_read text a n w part number in_range = rw (part, number, in_range) refl

pub jump_read : (text a b : List ℕ) (n : Number) (rd : ℕ) → two_operands text ≡ Some (a, b) → is_name b ≡ false → number_of b ≡ Some n → register_of a ≡ Some rd → jump text ≡ Ok (rd, Offset n)
unfolding jump
jump_read text a b n rd parts no_name number first = rw (parts, no_name, number, first) refl

pub branch_read : (text a b c : List ℕ) (n : Number) (rs1 rs2 : ℕ) → three_operands text ≡ Some (a, b, c) → is_name c ≡ false → number_of c ≡ Some n → register_of a ≡ Some rs1 → register_of b ≡ Some rs2 → branch text ≡ Ok (rs1, rs2, Offset n)
unfolding branch
branch_read text a b c n rs1 rs2 parts no_name number first second =
    rw (parts, no_name, number, first, second) refl
