use Rattle.std.proofs.Common.{◌≡◌, ◌+◌, ◌∙◌, [], ◌∷◌, Option, Some, List, ap, sym, subst, map, refl, arith}
use Rattle.std.specs.List.{range_with_len}
use Rattle.std.proofs.lemmas.List.FromFn.{length-map-range_with_len, map-range_with_len_more}
use Rattle.plain_state.specs.declared.objects.Capability.{Capability}
use Rattle.plain_model.specs.Objects as plain
use Rattle.plain_model.specs.Objects.{Object}
use Rattle.plain_model.specs.Initial.{root_group}
use Rattle.kobj_table.specs.declared.slot.Slot.{Slot}
use Rattle.first_state.specs.Filled.{IsFilled}
use Rattle.first_state.proofs.FillsUp.{IsMarked, marked_more, unmarked, nothing_filled, output_is, outputs_more}
use Rattle.first_state.proofs.objects.fixed_objects.Goals as goal

pub loop-channel-init : goal.loop-channel-init
loop-channel-init c =
    let root = root_group c.args.programs.now in
    record {
      filled = λ content.
          (let none = nothing_filled content c.new-objects.result c.new-objects.ensures.slots c.new-objects.ensures.lists in
          let one = c.add.ensures.filled content [] root none refl (ap (λ (s : List (Option Capability)). Some (plain.Group s)) c.root_group.ensures) in
          c.add-2.ensures.filled content (root ∷ []) plain.Scheduler one refl refl);
      marked = λ parts.
          marked_more parts c.add.new.objects c.add-2.new.objects 1 _ c.add-2.ensures.slot c.add-2.ensures.others (unmarked parts)
          (marked_more parts c.new-objects.result c.add.new.objects 0 _ c.add.ensures.slot c.add.ensures.others (unmarked parts)
          (λ i. subst (IsMarked parts) (sym (c.new-objects.ensures.slots i)) (unmarked parts)));
      free = λ j from. c.add-2.ensures.free j (omega (arith, from));
      scheduler = c.add-2.ensures.slot;
      outputs = λ channel below. absurd (omega (arith, below));
    }

pub loop-channel-preserved : goal.loop-channel-preserved
loop-channel-preserved c =
    let root = root_group c.args.programs.now in
    let l = c.loop-channel in
    let rings : List Object = map plain.OutputRing (range_with_len 0 l.channel) in
    let count = length-map-range_with_len plain.OutputRing 0 l.channel in
    let added = c.add-in-loop-channel.ensures in
    let front : 0 + l.channel ≡ l.channel = omega arith in
    record {
      filled = λ content.
          subst (λ (some : List Object). IsFilled content c.add-in-loop-channel.new.objects (root ∷ plain.Scheduler ∷ some)) (sym (map-range_with_len_more plain.OutputRing 0 l.channel l.channel front))
          (added.filled content (root ∷ plain.Scheduler ∷ rings) (plain.OutputRing l.channel) (l.invariant.filled content) (omega arith)
          (output_is content c.output_ring.result l.channel c.output_ring.ensures c.loop-channel-test.true));
      marked = λ parts. marked_more parts l.objects c.add-in-loop-channel.new.objects _ (Slot.Ring c.output_ring.result) added.slot added.others (unmarked parts) (l.invariant.marked parts);
      free = λ j from. added.free j (omega (arith, from));
      scheduler = added.others 1 (λ e. absurd (omega (arith, e))) ∙ l.invariant.scheduler;
      outputs = λ channel below. outputs_more l.objects c.add-in-loop-channel.new.objects c.output_ring.result l.channel channel l.invariant.outputs added.slot c.output_ring.ensures added.others below;
    }

pub add-requires-3-clause-free : goal.add-requires-3-clause-free
add-requires-3-clause-free c j from = c.loop-channel.invariant.free j (omega (arith, from, c.loop-channel.auto.channel-end))

pub returns-clause-filled : goal.returns-clause-filled
returns-clause-filled c content =
    let root = root_group c.args.programs.now in
    let at : c.loop-channel.channel ≡ 4 = omega (arith, c.loop-channel-test.false, c.loop-channel.auto.channel-end) in
    let filled = subst (λ n. IsFilled content c.loop-channel.objects (root ∷ plain.Scheduler ∷ map plain.OutputRing (range_with_len 0 n))) at (c.loop-channel.invariant.filled content) in
    c.add-3.ensures.filled content (root ∷ plain.Scheduler ∷ map plain.OutputRing (range_with_len 0 4)) plain.InputRing filled refl refl
