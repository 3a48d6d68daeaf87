use Rattle.std.proofs.Common.{◌∙◌, sym, true≢false}
use Rattle.tree_restore.proofs.Putting.{free_threads, passed_records, put_records}
use Rattle.tree_restore.proofs.records.put_back_one.Goals as goal

pub put_back-requires-clause-free : goal.put_back-requires-clause-free
put_back-requires-clause-free c = c.has_free_threads.ensures.0 c.if-has_free_threads.true

pub returns-then-has_free_threads-clause-records : goal.returns-then-has_free_threads-clause-records
returns-then-has_free_threads-clause-records c = λ saved read have.
    let put = c.put_back.ensures in
    put_records c.args.objects.now c.put_back.new.objects c.args.id saved.objects put.other_slots put.other_lists
    (put.record ∙ (sym c.in-Some.is ∙ c.read_record.ensures.record saved read)) have

pub returns-else-has_free_threads-clause-records : goal.returns-else-has_free_threads-clause-records
returns-else-has_free_threads-clause-records c = λ saved read have.
    let is = sym (c.read_record.ensures.record saved read) ∙ c.in-Some.is in
    let free = free_threads c.records_tell_tables.ensures.lists c.lists_are_apart.ensures.apart c.args.objects.now c.args.id saved c.in-Some.obj c.requires.empty read.whole have is in
    absurd (true≢false (sym (c.has_free_threads.ensures.1 free) ∙ c.if-has_free_threads.false))

pub returns-in_default-clause-records : goal.returns-in_default-clause-records
returns-in_default-clause-records c = λ saved read have.
    passed_records c.args.objects.now c.args.id saved.objects c.requires.empty (sym (c.read_record.ensures.record saved read) ∙ c.in_default.is) have
