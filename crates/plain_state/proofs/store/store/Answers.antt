use Rattle.std.proofs.Common.{◌≡◌, ℕ, ◌<◌, ◌∙◌, length, sym, subst, ap, rules, slice_index_or, slice_set}
use Rattle.plain_state.specs.Memory.{memory_with, with_store}
use Rattle.plain_state.specs.Slow.{slot_of, objects_of}
use Rattle.plain_state.proofs.SlowMemory.{stored}
use Rattle.plain_state.proofs.store.store.Goals as goal

pub returns : goal.returns
returns c =
    let objects = c.args.objects.now in
    let within : c.from.result < length objects = search rules in
    subst (λ (k : ℕ). objects_of (slice_set objects k c.store_in_object.new.object) ≡ with_store (objects_of objects) c.args.store) (sym c.from.ensures)
    (stored objects c.args.store c.store_in_object.new.object c.index-objects-from.result (subst (λ (k : ℕ). k < length objects) c.from.ensures within)
    (c.store_in_object.ensures ∙ ap (λ (k : ℕ). memory_with (slot_of (slice_index_or objects k c.index-objects-from.result)) c.args.store.place c.args.store.value) c.from.ensures))
