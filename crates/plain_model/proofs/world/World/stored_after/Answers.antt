use Rattle.std.proofs.Common.{◌==◌, ℕ, Bool, List, ap, ◌∙◌}
use Rattle.std.specs.List.{list_any}
use Rattle.plain_state.specs.declared.effect.ByteStore.{ByteStore}
use Rattle.plain_state.specs.Memory.{page_at}
use Rattle.plain_state.specs.Ticks.{puts_to_page}
use Rattle.plain_state.specs.Slow.{state_of, effect_of}
use Rattle.plain_model.specs.SlowWorld.{world_of, is_in}
use Rattle.plain_model.proofs.SlowWorlds.{two_in, any_added}
use Rattle.plain_model.proofs.world.World.stored_after.Goals as goal

pub returns : goal.returns
unfolding world_of effect_of
returns c = λ page.
    let running = c.args.self.now.running in
    let is_on : ByteStore → Bool = λ (store : ByteStore). (page_at (state_of running).objects store.place).number == page in
    two_in (is_in c.args.self.now.stored.items page) (is_in c.in_ok-stored.stored.items page) (is_in c.with_stored.new.numbers.items page) (is_in c.with_page_put.new.numbers.items page)
    (list_any is_on c.args.effect.now.stores.items) (puts_to_page c.args.effect.now.output page)
    (ap (λ (l : List ℕ). is_in l page) (c.in_ok-stored.ensures.items ∙ c.as_slice.ensures.value))
    (c.in_ok-with_stored.ensures page ∙ any_added is_on (is_in c.in_ok-stored.stored.items page) c.as_slice-2.ensures.value)
    (c.in_ok-with_page_put.ensures page)
