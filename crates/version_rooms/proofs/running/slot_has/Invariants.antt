use Rattle.std.proofs.Common.{◌≡◌, ◌+◌, ◌<◌, ℕ, slice_index}
use Rattle.pmem_model.specs.Memory.{word_at}
use Rattle.version_rooms.proofs.running.slot_has.Given as goal

abbrev pub invariant-loop-j : goal.invariant-loop-j
invariant-loop-j l = (k : ℕ) → k < l.j → (word_at l.nvm (l.at + k)).cached ≡ slice_index l.words k
