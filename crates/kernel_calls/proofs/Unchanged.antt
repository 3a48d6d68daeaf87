-- What a tick doesn't change has its slot and its list as before.
use Rattle.std.specs.Prelude.{◌≡◌, ◌≢◌, ℕ, zero, suc, ◌+◌, ◌==◌, ◌||◌, true, false, List, length, Option, Some, None}
use Rattle.std.proofs.Common.{refl, ap, sym, subst, ◌∙◌, arith, inl, inr}
use Rattle.std.proofs.lemmas.Bool.{cases_Bool, cases_lt, eqb-true, eqb-false, ne_eqb, false≢true}
use Rattle.sls_base.specs.declared.fixed.TheConstants.{FIRST_OUTPUT_RING, INPUT_RING, SCHEDULER}
use Rattle.sls_base.specs.declared.limits.TheConstants.{OUTPUT_CHANNELS}
use Rattle.sls_base.specs.declared.thread.Ring.{Ring}
use Rattle.link_lists.specs.Lists.{list_at}
use Rattle.pmem_model.specs.Memory.{Memory}
use Rattle.plain_state.specs.declared.effect.Output.{Output}
use Rattle.plain_state.specs.declared.objects.Kind.TheVariants.{GroupKind}
use Rattle.plain_state.specs.Objects.{Object, OutputRing, InputRing, Scheduler, is_kind}
use Rattle.plain_state.specs.States.{State}
use Rattle.plain_state.specs.Worlds.{World, put_count}
use Rattle.plain_state.specs.Ticks.{Chosen, chosen, effect_for, puts_on, puts_to_ring, tick, writes}
use Rattle.plain_laws.specs.Fixed.{HasFixedObjects, is_single}
use Rattle.plain_laws.specs.Ticks.{ChangesOnly}
use Rattle.plain_laws.proofs.Changes.{tick_changes}
use Rattle.kobj_table.specs.declared.slot.Slot.{Slot}
use Rattle.kobj_table.specs.Slots.{has_list, is_scheduler, object_of}
use Rattle.kobj_table.specs.Objects.{Rest, slot_at, object_at}
use Rattle.object_records.specs.Untold.{IsToldSame, IsUntoldKept, KeepsUntold, count_in}
use Rattle.object_records.proofs.Ranged.{scheduler_alone}
use Rattle.object_records.proofs.Untold.{slots_same}
use Rattle.call_readings.specs.Kernel.{CountsEntries}
use Rattle.kernel_calls.specs.declared.calls.Calls.{Calls}
use Rattle.kernel_calls.specs.Kernel.{Holds}
use Rattle.kernel_calls.proofs.Unrefused.{or_false}
use Rattle.kernel_calls.proofs.Putting.{output_ring, ring_there}
use Rattle.kernel_calls.proofs.JustSaved.{object_held}

-- An output's ring stands at its number.
output_place : (s : State) (i channel : ℕ) → HasFixedObjects s → s.objects i ≡ Some (OutputRing channel) → i ≡ FIRST_OUTPUT_RING + channel
output_place s zero channel fixed e = absurd (false≢true (ap (is_kind GroupKind) (sym e) ∙ fixed.root))
output_place s (suc zero) channel fixed e = let never : Some Scheduler ≡ Some (OutputRing channel) = sym fixed.scheduler ∙ e in absurd (cc)
output_place s (suc (suc i)) channel fixed e =
    elim (cases_lt i 4) [
      | inl lt ↦
          let same : FIRST_OUTPUT_RING + i ≡ suc (suc i) = omega arith in
          let ring : s.objects (suc (suc i)) ≡ Some (OutputRing i) = subst (λ (k : ℕ). s.objects k ≡ Some (OutputRing i)) same (fixed.outputs i lt) in
          let both : Some (OutputRing i) ≡ Some (OutputRing channel) = sym ring ∙ e in
          let channel_is : i ≡ channel = cc in
          sym same ∙ ap (λ (k : ℕ). FIRST_OUTPUT_RING + k) channel_is
      | inr past ↦ elim (cases_lt 4 i) [
        | inl lt ↦ absurd (false≢true (sym (fixed.above (suc (suc i)) (omega arith)) ∙ ap is_single e))
        | inr le ↦
            let same : INPUT_RING ≡ suc (suc i) = omega arith in
            let ring : s.objects (suc (suc i)) ≡ Some InputRing = subst (λ (k : ℕ). s.objects k ≡ Some InputRing) same fixed.input in
            let never : Some InputRing ≡ Some (OutputRing channel) = sym ring ∙ e in absurd (cc)
      ]
    ]

-- where nothing is put on its ring, nothing is put on the channel
no_put : (output : Option Output) (channel i : ℕ) → i ≡ FIRST_OUTPUT_RING + channel → puts_to_ring output i ≡ false → puts_on output channel ≡ false
no_put None channel i is none = refl
no_put (Some output) channel i is none =
    ne_eqb output.channel channel (λ same. eqb-false (FIRST_OUTPUT_RING + output.channel) i none (ap (λ (k : ℕ). FIRST_OUTPUT_RING + k) same ∙ sym is))

-- a ring counts as many where as many were put
same_count : (old : Slot) (ring : Ring) (v w : World) → IsUntoldKept old (Slot.Ring ring) → CountsEntries old w → CountsEntries (Slot.Ring ring) v →
    (ring.channel ≢ OUTPUT_CHANNELS → put_count v ring.channel ≡ put_count w ring.channel) → ring.count ≡ count_in old
same_count old ring v w kept counts counts' puts =
    let was : CountsEntries (Slot.Ring kept.0) w = subst (λ (s : Slot). CountsEntries s w) kept.1 counts in
    let count : kept.0.count ≡ count_in old = sym (ap count_in kept.1) in
    elim (cases_Bool (ring.channel == OUTPUT_CHANNELS)) [
      | inl input ↦ elim kept.2.count [
        | inl same ↦ same ∙ count
        | inr more ↦ (let is = eqb-true ring.channel OUTPUT_CHANNELS input in let below = more.0 in absurd (omega (arith, is, below)))
      ]
      | inr output ↦
          (let other = eqb-false ring.channel OUTPUT_CHANNELS output in
          counts'.1 other ∙ puts other ∙ ap (put_count w) kept.2.channel ∙ sym (was.1 (λ same. other (kept.2.channel ∙ same))) ∙ count)
    ]

scheduler_object : (content : ℕ → ℕ → ℕ) (slot : Slot) (threads : List ℕ) → is_scheduler slot ≡ true → object_of content slot threads ≡ Some Scheduler
scheduler_object content (Slot.Scheduler cores) threads is = refl
scheduler_object content Slot.Empty threads is = absurd (false≢true is)
scheduler_object content (Slot.Group group) threads is = absurd (false≢true is)
scheduler_object content (Slot.Thread thread) threads is = absurd (false≢true is)
scheduler_object content (Slot.Space space) threads is = absurd (false≢true is)
scheduler_object content (Slot.Memory memory) threads is = absurd (false≢true is)
scheduler_object content (Slot.Connection connection) threads is = absurd (false≢true is)
scheduler_object content (Slot.Notification note) threads is = absurd (false≢true is)
scheduler_object content (Slot.Ring ring) threads is = absurd (false≢true is)

-- an object that has a list has the same where it is the same
list_told : (before after : ℕ → ℕ → ℕ) (slot : Slot) (threads threads' : List ℕ) → object_of after slot threads' ≡ object_of before slot threads → has_list slot ≡ true → threads' ≡ threads
list_told before after (Slot.Connection connection) threads threads' same has = cc
list_told before after (Slot.Notification note) threads threads' same has = cc
list_told before after Slot.Empty threads threads' same has = absurd (false≢true has)
list_told before after (Slot.Group group) threads threads' same has = absurd (false≢true has)
list_told before after (Slot.Thread thread) threads threads' same has = absurd (false≢true has)
list_told before after (Slot.Space space) threads threads' same has = absurd (false≢true has)
list_told before after (Slot.Memory memory) threads threads' same has = absurd (false≢true has)
list_told before after (Slot.Ring ring) threads threads' same has = absurd (false≢true has)
list_told before after (Slot.Scheduler cores) threads threads' same has = absurd (false≢true has)

-- what doesn't count as changed is neither the scheduler nor the thread, and isn't written
unwritten : (w : World) (core : ℕ) (c : Chosen) (i : ℕ) → chosen w.now core ≡ Some c → (tick w core).changed i ≡ false →
    ((i == SCHEDULER) ≡ false) × ((i == c.occupant.thread) ≡ false) × (writes (effect_for w c) i ≡ false)
unwritten w core c i is unchanged =
    let all : (w.changed i || ((i == SCHEDULER) || ((i == c.occupant.thread) || writes (effect_for w c) i))) ≡ false = rw is at unchanged in
    let now = (or_false (w.changed i) _ all).1 in
    let beside = or_false (i == SCHEDULER) _ now in
    let other = or_false (i == c.occupant.thread) _ beside.1 in
    (beside.0, other.0, other.1)

module _ (k n : Calls) (accepted : List ℕ) (m m' : Memory) (before after : Rest) (w : World) (core : ℕ) (c : Chosen) (is : chosen w.now core ≡ Some c)
    (h : Holds k accepted m before w) (h' : Holds n accepted m' after (tick w core)) (kept : KeepsUntold k.runtime.objects n.runtime.objects) (i : ℕ) (unchanged : (tick w core).changed i ≡ false) where
  only : ChangesOnly w core c
  only = tick_changes w core c is

  no_scheduler : i ≢ SCHEDULER
  no_scheduler = eqb-false i SCHEDULER (unwritten w core c i is unchanged).0

  writes_not : writes (effect_for w c) i ≡ false
  writes_not = (unwritten w core c i is unchanged).2

  same_object : object_at after.content n.runtime.objects i ≡ object_at before.content k.runtime.objects i
  same_object =
      sym (object_held n accepted m' after (tick w core) h' i) ∙ only.objects i (eqb-false i c.occupant.thread (unwritten w core c i is unchanged).1) writes_not
      ∙ object_held k accepted m before w h i

  same_puts : (ring : Ring) → slot_at n.runtime.objects i ≡ Slot.Ring ring → ring.channel ≢ OUTPUT_CHANNELS → put_count (tick w core) ring.channel ≡ put_count w ring.channel
  same_puts ring there other =
      let object : (tick w core).now.objects i ≡ Some (OutputRing ring.channel) =
      object_held n accepted m' after (tick w core) h' i ∙ ring_there after.content n.runtime.objects i ring there ∙ ap (λ (x : Object). Some x) (output_ring ring.channel other) in
      let place = output_place (tick w core).now i ring.channel h'.sound.fixed.0 object in
      let none = (or_false _ (puts_to_ring (effect_for w c).output i) (or_false _ _ writes_not).1).1 in
      let out = only.out ring.channel (no_put (effect_for w c).output ring.channel i place none) in
      ap (λ (base : ℕ → ℕ). base ring.channel + length ((tick w core).now.out ring.channel)) only.base ∙ ap (λ (l : List (List ℕ)). w.base ring.channel + length l) out

  scheduler_place : is_scheduler (slot_at n.runtime.objects i) ≡ true → i ≡ SCHEDULER
  scheduler_place there =
      scheduler_alone (tick w core).now i h'.sound.fixed.0
      (object_held n accepted m' after (tick w core) h' i ∙ scheduler_object after.content (slot_at n.runtime.objects i) (list_at n.runtime.objects.links i) there)

  told_same : IsToldSame before.content after.content k.runtime.objects n.runtime.objects i
  told_same = record {
    object = same_object;
    count = λ ring there. same_count (slot_at k.runtime.objects i) ring (tick w core) w (subst (λ (s : Slot). IsUntoldKept (slot_at k.runtime.objects i) s) there (kept.each i))
        (h.attached.rings i) (subst (λ (s : Slot). CountsEntries s (tick w core)) there (h'.attached.rings i)) (same_puts ring there);
    cores = λ there. absurd (no_scheduler (scheduler_place there));
    queue = λ there. absurd (no_scheduler (scheduler_place there));
  }

  pub slot_unchanged : slot_at n.runtime.objects i ≡ slot_at k.runtime.objects i
  slot_unchanged = slots_same before.content after.content k.runtime.objects n.runtime.objects i (kept.each i) told_same

  pub list_unchanged : list_at n.runtime.objects.links i ≡ list_at k.runtime.objects.links i
  list_unchanged =
      elim (cases_Bool (has_list (slot_at k.runtime.objects i))) [
        | inl has ↦
            list_told before.content after.content (slot_at k.runtime.objects i) (list_at k.runtime.objects.links i) (list_at n.runtime.objects.links i)
            (ap (λ (s : Slot). object_of after.content s (list_at n.runtime.objects.links i)) (sym slot_unchanged) ∙ same_object) has
        | inr none ↦ h'.strays i no_scheduler (ap has_list slot_unchanged ∙ none) ∙ sym (h.strays i no_scheduler none)
      ]
