use Rattle.std.proofs.Common.{◌≡◌, map, ◌++◌, take, drop}
use Rattle.object_records.specs.Marks as marks
use Rattle.object_records.proofs.marks.mark_memory.Given as goal

abbrev pub invariant-loop-p : goal.invariant-loop-p
invariant-loop-p l = l.p-items ≡ map (marks.page_marked l.page l.fresh) (take l.p-index l.initial.p-items) ++ drop l.p-index l.initial.p-items
