use Rattle.std.proofs.Common.{◌≡◌, ◌∙◌, ℕ, true, false, ap, sym, arith}
use Rattle.std.specs.Prelude.{◌==◌, ◌&&◌, ◌||◌, nat_lt, is_some, slice_index_or}
use Rattle.std.specs.List.{list_any, range_with_len}
use Rattle.std.proofs.lemmas.List.{get_or_default}
use Rattle.std.proofs.lemmas.Bool.{lt-ltb, le-ltb}
use Rattle.link_lists.specs.Lists.{list_at}
use Rattle.plain_model.specs.Objects.{page_numbers, every_object}
use Rattle.plain_model.specs.Worlds.{has_page}
use Rattle.kobj_table.specs.declared.slot.Slot.{Slot}
use Rattle.kobj_table.specs.declared.slot.Slot.TheVariants.{Empty}
use Rattle.kobj_table.specs.Slots.{object_of}
use Rattle.kobj_table.specs.Objects.{object_at, slot_at, state_of}
use Rattle.call_readings.specs.NumberSets.{uses_object, uses_page}
use Rattle.call_readings.specs.Kernel.{world_of}
use Rattle.call_readings.proofs.SameObjects.{counted}
use Rattle.call_readings.proofs.Recounts.{one_below, one_further, at_one}
use Rattle.call_readings.proofs.numbers.NumbersInUse.of.Goals as goal

pub loop-id-preserved : goal.loop-id-preserved
loop-id-preserved c =
    let objects = c.args.objects.now in
    let id = c.loop-id.id in
    let threads = list_at objects.links id in
    let all = c.type_inv.slot-items in
    let held = slice_index_or objects.slots id c.slot-item.result in
    let slot : slot_at objects id ≡ held = get_or_default objects.slots id Empty c.slot-item.result (omega (arith, all)) in (
      λ content other.
          let there = λ (i : ℕ). is_some (object_at content objects i) in
          let object : is_some (object_of content held threads) ≡ there id = ap (λ (s : Slot). is_some (object_of content s threads)) (sym slot) in
          one_below id other (there other) (uses_object c.loop-id.numbers other) (uses_object c.take_slot.new.self other) (c.loop-id.invariant.0 content other)
          (c.take_slot.ensures.objects content threads other ∙ ap (λ b. uses_object c.loop-id.numbers other || ((other == id) && b)) object
          ∙ ap (λ b. uses_object c.loop-id.numbers other || b) (at_one there other id)),
      λ content page inside.
          let p = λ (i : ℕ). list_any (λ (number : ℕ). number == page) (page_numbers (object_at content objects i)) in
          let pages : list_any (λ (number : ℕ). number == page) (page_numbers (object_of content held threads)) ≡ p id =
          ap (λ (s : Slot). list_any (λ (number : ℕ). number == page) (page_numbers (object_of content s threads))) (sym slot) in
          one_further p id (uses_page c.loop-id.numbers page) (uses_page c.take_slot.new.self page) (c.loop-id.invariant.1 content page inside)
          (c.take_slot.ensures.pages content threads page inside ∙ ap (λ b. uses_page c.loop-id.numbers page || b) pages),
      λ page past. c.take_slot.ensures.no_page page past ∙ c.loop-id.invariant.2 page past,
    )

pub returns-clause-objects : goal.returns-clause-objects
unfolding state_of
returns-clause-objects c rest id inside =
    let end : c.loop-id.id ≡ 128 = omega arith in
    let below : nat_lt id c.loop-id.id ≡ true = lt-ltb id c.loop-id.id (omega (arith, end, inside)) in
    c.loop-id.invariant.0 rest.content id ∙ ap (λ b. b && is_some (object_at rest.content c.args.objects.now id)) below

pub returns-clause-pages : goal.returns-clause-pages
unfolding state_of has_page every_object
returns-clause-pages c rest page inside =
    let end : c.loop-id.id ≡ 128 = omega arith in
    let p = λ (i : ℕ). list_any (λ (number : ℕ). number == page) (page_numbers (object_at rest.content c.args.objects.now i)) in
    c.loop-id.invariant.1 rest.content page inside ∙ ap (λ (n : ℕ). list_any p (range_with_len 0 n)) end

pub returns-clause-no_object : goal.returns-clause-no_object
returns-clause-no_object c id past =
    let content : ℕ → ℕ → ℕ = λ page offset. 0 in
    let end : c.loop-id.id ≡ 128 = omega arith in
    let above : nat_lt id c.loop-id.id ≡ false = le-ltb id c.loop-id.id (omega (arith, end, past)) in
    c.loop-id.invariant.0 content id ∙ ap (λ b. b && is_some (object_at content c.args.objects.now id)) above

pub returns-clause-counted : goal.returns-clause-counted
unfolding world_of
returns-clause-counted c w rest in_range apart same =
    counted c.loop-id.numbers (world_of c.args.objects.now rest w) in_range apart same
    (returns-clause-objects c rest) (returns-clause-no_object c) (returns-clause-pages c rest) c.loop-id.invariant.2
