use Rattle.std.proofs.Common.{◌≡◌, ◌∙◌, Some, None, rules}
use Rattle.sls_base.specs.declared.rights.TheConstants.{READ}
use Rattle.rv_table.specs.Decoded.{decoded}
use Rattle.plain_state.specs.States.{thread_at}
use Rattle.plain_state.specs.Memory.{places_of}
use Rattle.plain_state.specs.Instructions.{obeyed, fetched, seen_by}
use Rattle.plain_state.specs.SlowReach.{IsReach, is_any_on, word_at_pc}
use Rattle.plain_model.specs.SlowWorld.{world_of}
use Rattle.plain_model.proofs.SlowReaches.{either_first, either_second, loads_there, loads_nowhere}
use Rattle.plain_model.proofs.world.World.loads_by.Goals as goal

pub returns-in_default : goal.returns-in_default
unfolding world_of
returns-in_default c =
    let w = world_of c.args.self.now in
    let thread = thread_at w.now c.args.id in
    let none : None ≡ word_at_pc w.now thread = search rules in
    loads_nowhere w c.args.id thread c.args.page none

pub returns-then-is_on_page : goal.returns-then-is_on_page
unfolding world_of
returns-then-is_on_page c =
    let w = world_of c.args.self.now in
    let thread = thread_at w.now c.args.id in
    let word : Some c.in-Some.word ≡ word_at_pc w.now thread = search rules in
    let is : IsReach w.now thread c.reach.result (obeyed w c.args.id thread (decoded c.in-Some.word)) = search rules in
    let told : c.is_on_page.result ≡ is_any_on w.now c.args.page (fetched w.now thread) = search rules in
    either_first _ _ _ told c.if-is_on_page.true ∙ loads_there w c.args.id thread c.in-Some.word c.args.page c.reach.result word is

pub returns-else-is_on_page : goal.returns-else-is_on_page
unfolding world_of
returns-else-is_on_page c =
    let w = world_of c.args.self.now in
    let thread = thread_at w.now c.args.id in
    let r = c.reach.result in
    let word : Some c.in-Some.word ≡ word_at_pc w.now thread = search rules in
    let is : IsReach w.now thread r (obeyed w c.args.id thread (decoded c.in-Some.word)) = search rules in
    let told : c.is_on_page.result ≡ is_any_on w.now c.args.page (fetched w.now thread) = search rules in
    let loads : c.is_on_page-else-is_on_page.result ≡ is_any_on w.now c.args.page (places_of (seen_by w.now thread) READ r.loads.at r.loads.count) = search rules in
    either_second _ _ _ _ told c.if-is_on_page.false loads ∙ loads_there w c.args.id thread c.in-Some.word c.args.page r word is
