use Rattle.std.proofs.Common.{◌==◌, ℕ, List, ap, map, ◌∙◌, Bool}
use Rattle.std.specs.Prelude.{◌||◌}
use Rattle.std.specs.List.{list_any}
use Rattle.plain_state.specs.declared.effect.ByteStore.{ByteStore}
use Rattle.plain_state.specs.declared.slow_effect.Change.{Change as SlowChange}
use Rattle.plain_state.specs.Effects.{Change}
use Rattle.plain_state.specs.Ticks.{puts_to_ring}
use Rattle.plain_state.specs.Slow.{effect_of, change_of}
use Rattle.plain_model.specs.SlowWorld.{world_of, is_in}
use Rattle.plain_model.proofs.SlowWorlds.{five_in, any_added, any_changed}
use Rattle.plain_model.proofs.world.World.changed_after.Goals as goal

pub returns : goal.returns
unfolding world_of effect_of
returns c = λ i.
    let e = c.args.effect.now in
    let changes : SlowChange → Bool = λ (change : SlowChange). change.id == i in
    let writes : ByteStore → Bool = λ (store : ByteStore). store.place.memory == i in
    five_in (is_in c.args.self.now.changed.items i) (is_in c.in_ok-changed.changed.items i) (is_in c.with_number.new.numbers.items i) (is_in c.with_number-2.new.numbers.items i)
    (is_in c.with_changed.new.numbers.items i) (is_in c.with_written.new.numbers.items i) (is_in c.with_ring_put.new.numbers.items i)
    (list_any (λ (change : Change). change.id == i) (map change_of e.changes.items)) (list_any writes e.stores.items) (puts_to_ring e.output i) 1 c.args.thread i
    (ap (λ (l : List ℕ). is_in l i) (c.in_ok-changed.ensures.items ∙ c.as_slice.ensures.value))
    (c.in_ok-with_number.ensures i ∙ ap (λ (k : ℕ). is_in c.in_ok-changed.changed.items i || (k == i)) c.from.ensures)
    (c.in_ok-with_number-2.ensures i ∙ ap (λ (k : ℕ). is_in c.with_number.new.numbers.items i || (k == i)) c.from-2.ensures)
    (c.in_ok-with_changed.ensures i ∙ any_added changes (is_in c.with_number-2.new.numbers.items i) c.as_slice-2.ensures.value ∙ ap (λ b. is_in c.with_number-2.new.numbers.items i || b) (any_changed i e.changes.items))
    (c.in_ok-with_written.ensures i ∙ any_added writes (is_in c.with_changed.new.numbers.items i) c.as_slice-3.ensures.value)
    (c.in_ok-with_ring_put.ensures i)
