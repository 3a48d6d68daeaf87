-- Schedulers.
use Rattle.std.proofs.Common.{◌≡◌, ℕ, List, slice_index, Option}
use Rattle.kobj_codec.specs.declared.obj.Scheduler.{Scheduler}
use Rattle.kobj_codec.specs.declared.obj.Obj.TheVariants as objs
use Rattle.kobj_codec.specs.Objects.{IsScheduler}
use Rattle.kobj_codec.specs.Records.{IsRecord}

-- what runs on the cores of a scheduler in range that the words are the record of
abbrev pub RunningOf : List ℕ → List (Option (ℕ × ℕ)) → Type 0
RunningOf words running = (s : Scheduler) × IsScheduler s × IsRecord (slice_index words) (objs.Scheduler s) × (s.running ≡ running)
