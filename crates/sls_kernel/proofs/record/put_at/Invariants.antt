use Rattle.std.proofs.Common.{◌≡◌, ℕ, ◌+◌, ◌<◌, slice_index}
use Rattle.pmem_model.specs.Memory.{word_at}
use Rattle.sls_kernel.specs.Words.{frame_place}
use Rattle.sls_kernel.proofs.record.put_at.Given as goal

abbrev pub invariant-loop-channel : goal.invariant-loop-channel
invariant-loop-channel l =
    (c : ℕ) → c < l.channel → slice_index l.count-items c ≡ (word_at l.nvm (frame_place l.frame + (17 + c))).cached
