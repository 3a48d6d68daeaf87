use Rattle.std.proofs.Common.{◌≡◌, ◌<◌, ◌^◌, take, true}
use Rattle.std.specs.Str.Parse.{digits_value}
use Rattle.job_script.specs.Text.{all_digits}
use Rattle.job_script.proofs.number.value_of.Given as goal

-- the bytes so far are digits, and this is their value
abbrev pub invariant-loop-byte : goal.invariant-loop-byte
invariant-loop-byte l = record {
  digits : all_digits l.radix (take l.byte-index l.field) ≡ true;
  value : l.value ≡ digits_value l.radix (take l.byte-index l.field);
  fits : l.value < 2 ^ 64;
}
