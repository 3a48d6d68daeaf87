use Rattle.std.proofs.Common.{◌+◌}
use Rattle.pmem_model.specs.Memory.{word_at}
use Rattle.sls_kernel.specs.Words.{frame_place}
use Rattle.sls_kernel.proofs.Entries.{AreBytes, entry_byte}
use Rattle.sls_kernel.proofs.ring.durable_entry.Given as goal

abbrev pub invariant-loop-k : goal.invariant-loop-k
invariant-loop-k l = AreBytes (entry_byte (λ i. (word_at l.nvm (frame_place l.frame + i)).durable) l.number) l.entry.items l.k
