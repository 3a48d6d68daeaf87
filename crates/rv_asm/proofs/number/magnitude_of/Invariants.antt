use Rattle.std.proofs.Common.{◌≡◌, ◌^◌, true, min, take}
use Rattle.std.specs.List.{list_all}
use Rattle.std.specs.Char.{is_digit}
use Rattle.std.specs.Str.Parse.{digits_value}
use Rattle.rv_asm.proofs.number.magnitude_of.Given as goal

-- digits so far, and their value
abbrev pub invariant-loop-byte : goal.invariant-loop-byte
invariant-loop-byte l = record {
  digits : list_all (λ c. is_digit c l.base) (take l.byte-index l.digits) ≡ true;
  value : l.magnitude ≡ min (digits_value l.base (take l.byte-index l.digits)) (2 ^ 32);
}
