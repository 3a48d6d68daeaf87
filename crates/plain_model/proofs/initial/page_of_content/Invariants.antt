use Rattle.std.proofs.Common.{◌≡◌, ℕ, ◌+◌, ◌<◌, length, slice_index}
use Rattle.plain_model.proofs.initial.page_of_content.Given as goal

abbrev pub invariant-loop-at : goal.invariant-loop-at
invariant-loop-at l = record {
  count : length l.bytes.items ≡ l.at;
  same : (i : ℕ) → i < l.at → slice_index l.bytes.items i ≡ slice_index l.content (l.from + i);
}
