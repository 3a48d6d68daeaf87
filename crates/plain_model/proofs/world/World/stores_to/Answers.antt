use Rattle.std.proofs.Common.{◌≡◌, ◌∙◌, rules}
use Rattle.sls_base.specs.declared.rights.TheConstants.{WRITE}
use Rattle.plain_state.specs.Memory.{places_of}
use Rattle.plain_state.specs.Instructions.{seen_by}
use Rattle.plain_state.specs.Slow.{state_of}
use Rattle.plain_state.specs.SlowReach.{is_any_on}
use Rattle.plain_model.specs.SlowWorld.{world_of}
use Rattle.plain_model.proofs.SlowReaches.{either_first, either_second, is_stored}
use Rattle.plain_model.proofs.world.World.stores_to.Goals as goal

pub returns-then-is_on_page : goal.returns-then-is_on_page
unfolding world_of
returns-then-is_on_page c = λ e is.
    let s = state_of c.args.self.now.running in
    let r = c.args.reach.now in
    let told : c.is_on_page.result ≡ is_any_on s c.args.page (places_of (seen_by s c.args.thread.now) WRITE r.stores.at r.stores.count) = search rules in
    either_first _ _ _ told c.if-is_on_page.true ∙ is_stored s c.args.thread.now r e c.args.page is

pub returns-else-is_on_page : goal.returns-else-is_on_page
unfolding world_of
returns-else-is_on_page c = λ e is.
    let s = state_of c.args.self.now.running in
    let r = c.args.reach.now in
    let told : c.is_on_page.result ≡ is_any_on s c.args.page (places_of (seen_by s c.args.thread.now) WRITE r.stores.at r.stores.count) = search rules in
    either_second _ _ _ _ told c.if-is_on_page.false (c.is_ring_page.ensures e.output is.channel) ∙ is_stored s c.args.thread.now r e c.args.page is
