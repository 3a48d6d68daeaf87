use Rattle.std.proofs.Common.{◌≡◌, ℕ, ◌+◌, ◌*◌, ◌/◌, ◌%◌, ◌<◌, ◌^◌, slice_index}
use Rattle.pmem_model.specs.Memory.{word_at}
use Rattle.sls_kernel.specs.Words.{frame_place}
use Rattle.sls_kernel.proofs.record.halves_at.Given as goal

abbrev pub invariant-loop-j : goal.invariant-loop-j
invariant-loop-j l =
    (j : ℕ) → j < l.j → slice_index l.half-items j ≡ (word_at l.nvm (frame_place l.frame + j / 2)).cached / 2 ^ (32 * (j % 2)) % 2 ^ 32
