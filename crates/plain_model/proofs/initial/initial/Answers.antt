use Rattle.std.proofs.Common.{◌≡◌, ℕ, List, Option, ◌∙◌, ap, map, replicate, None, rules}
use Rattle.std.specs.Prelude.{slice_get}
use Rattle.plain_state.specs.declared.objects.Occupant.{Occupant}
use Rattle.plain_model.specs.Initial as plain
use Rattle.plain_state.specs.Slow.{object_of, objects_of, state_of}
use Rattle.plain_model.proofs.SlowInitial.{first_state, threads_same}
use Rattle.plain_model.proofs.initial.initial.Goals as goal

pub returns : goal.returns
unfolding state_of
returns c =
    let objects = plain.image_objects c.args.image.now.programs.items in
    let empty : ℕ → List (Option Occupant) = λ n. replicate n None in
    let cores : c.in_ok-vec.field-0.items ≡ replicate c.from.result None = c.in_ok-vec.ensures.items_if_clones_equal (λ y h. search rules) in
    first_state (objects_of c.in_ok-by_number.field-0.items) (slice_get objects) c.in_ok-thread_numbers.field-0.items (plain.thread_numbers objects) c.in_ok-vec.field-0.items (replicate c.args.cores None)
    c.new.result.items c.new-2.result.items
    (c.in_ok-by_number.ensures.objects ∙ ap slice_get c.in_ok-list.ensures.objects)
    (c.in_ok-thread_numbers.ensures ∙ threads_same c.as_slice.result.now objects (ap (map object_of) c.as_slice.ensures.value ∙ c.in_ok-list.ensures.objects))
    (cores ∙ ap empty c.from.ensures)
    c.new.ensures.items c.new-2.ensures.items
