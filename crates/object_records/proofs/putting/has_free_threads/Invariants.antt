use Rattle.std.proofs.Common.{◌<◌, ℕ, get_or}
use Rattle.link_lists.specs.Lists.{IsFree}
use Rattle.object_records.specs.Records.{threads_of}
use Rattle.object_records.proofs.putting.has_free_threads.Given as goal

abbrev pub invariant-loop-thread : goal.invariant-loop-thread
invariant-loop-thread l = (j : ℕ) → j < l.thread-index → IsFree l.objects.links (get_or (threads_of l.obj) j 0)
