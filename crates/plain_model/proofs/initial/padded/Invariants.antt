use Rattle.std.proofs.Common.{◌≡◌, length}
use Rattle.plain_model.specs.Initial.{slots_with}
use Rattle.plain_model.proofs.initial.padded.Given as goal

abbrev pub invariant-loop : goal.invariant-loop
invariant-loop l = record {
  count : length l.padded.items ≡ l.counter;
  same : slots_with l.padded.items ≡ slots_with l.fn.slots.items;
}
