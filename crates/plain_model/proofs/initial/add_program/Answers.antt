use Rattle.std.proofs.Common.{◌∙◌, ◌+◌, refl, ap, map, arith}
use Rattle.std.proofs.lemmas.List.{map_push}
use Rattle.plain_model.specs.Initial as plain
use Rattle.plain_state.specs.Slow.{object_of}
use Rattle.plain_model.proofs.SlowInitial.{behind_more}
use Rattle.plain_model.proofs.initial.add_program.Goals as goal

pub loop-j-preserved : goal.loop-j-preserved
loop-j-preserved c =
    let thread = plain.program_thread c.args.program.now c.args.n in
    let list = c.loop-j.list.items in
    behind_more thread (map object_of c.add_memories.new.list.items) (map object_of list) (map object_of c.push-in-loop-j.new.self.items) (object_of c.program_thread.result) 0 c.loop-j.j (c.loop-j.j + 1)
    c.loop-j.invariant (ap (map object_of) c.in_ok-push-3.ensures.items ∙ map_push object_of list c.program_thread.result) (c.program_thread.ensures ∙ ap thread (omega arith)) refl
