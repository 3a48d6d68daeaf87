use Rattle.std.proofs.Common.{◌≡◌, ◌∙◌, Some, None, rules}
use Rattle.rv_table.specs.Decoded.{decoded}
use Rattle.plain_state.specs.States.{thread_at}
use Rattle.plain_state.specs.Instructions.{obeyed}
use Rattle.plain_state.specs.Ticks.{stores_to}
use Rattle.plain_state.specs.SlowReach.{word_at_pc}
use Rattle.plain_model.specs.SlowWorld.{world_of}
use Rattle.plain_model.proofs.SlowReaches.{stores_there, stores_nowhere}
use Rattle.plain_model.proofs.world.World.stores_by.Goals as goal

pub returns-in-Some : goal.returns-in-Some
unfolding world_of
returns-in-Some c =
    let w = world_of c.args.self.now in
    let thread = thread_at w.now c.args.id in
    let word : Some c.in-Some.word ≡ word_at_pc w.now thread = search rules in
    let told : c.stores_to.result ≡ stores_to w.now (obeyed w c.args.id thread (decoded c.in-Some.word)) c.args.page = search rules in
    told ∙ stores_there w c.args.id thread c.in-Some.word c.args.page word

pub returns-in-None : goal.returns-in-None
unfolding world_of
returns-in-None c =
    let w = world_of c.args.self.now in
    let thread = thread_at w.now c.args.id in
    let none : None ≡ word_at_pc w.now thread = search rules in
    stores_nowhere w c.args.id thread c.args.page none
