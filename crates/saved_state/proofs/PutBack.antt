-- Objects that were put back from records are the state that these say, and can be saved again.
use Rattle.std.proofs.Common.{◌≡◌, ◌≢◌, ℕ, ◌+◌, ◌<◌, Bool, true, false, List, [], length, slice_index_or, Option, Some, refl, ap, sym, ◌∙◌, subst, arith}
use Rattle.std.specs.Prelude.{IfSome}
use Rattle.std.proofs.lemmas.Bool.{ne_eqb}
use mathlib.Core.Path.{fun_ext}
use Rattle.sls_base.specs.declared.limits.TheConstants.{OUTPUT_CHANNELS}
use Rattle.sls_base.specs.declared.fixed.TheConstants.{FIRST_OUTPUT_RING, INPUT_RING, SCHEDULER}
use Rattle.link_lists.specs.Lists.{list_at}
use Rattle.durable_state.specs.Parts.{Parts}
use Rattle.plain_model.specs.Objects as plain
use Rattle.plain_model.specs.Objects.{page_of_channel}
use Rattle.plain_model.specs.States.{State}
use Rattle.plain_model.specs.Worlds.{World, accepted_count}
use Rattle.plain_model.specs.Sweep.{swept}
use Rattle.plain_laws.specs.Fixed.{HasFixedObjects}
use Rattle.plain_laws.specs.Bounds.{HasRoom}
use Rattle.kobj_table.specs.declared.slot.Slot.{Slot}
use Rattle.kobj_table.specs.declared.objects.Objects.{Objects}
use Rattle.kobj_table.specs.Slots.{object_of, ring_of, is_scheduler}
use Rattle.kobj_table.specs.Objects.{Rest, slot_at, state_of, HasNoStrays}
use Rattle.kobj_codec.specs.declared.obj.Obj.{Obj}
use Rattle.kobj_codec.specs.Objects.{IsObj}
use Rattle.object_records.specs.Records.{record_of, record_at, slot_of, object_in, is_scheduler_in, state_of_records, HasOwnLists}
use Rattle.object_records.specs.Ranges.{IsOutputRing, IsSoundState, IsUntoldInRange}
use Rattle.call_readings.specs.Kernel.{CountsEntries}
use Rattle.out_gate.specs.Entries.{HasEntry}
use Rattle.saved_state.specs.State.{AreOfRecords, ArePartsOf, content_of, rest_of}
use Rattle.saved_state.specs.Running.{ArePutBack, CanBeSaved}
use Rattle.saved_state.proofs.Records.{objects_are}
use Rattle.saved_state.proofs.Slots.{scheduler_slot, scheduler_cores, scheduler_told, untold_of, input_slot, output_at, slot_count, slot_channel}

module _ (object_told : (content : ℕ → ℕ → ℕ) (slot : Slot) (threads : List ℕ) → object_in content (record_of slot threads) ≡ object_of content slot threads)
    (state_told : (o : Objects) (rest : Rest) → is_scheduler (slot_at o SCHEDULER) ≡ true → state_of o rest ≡ state_of_records (record_at o) rest)
    (o : Objects) (base accepted : ℕ → ℕ) (p : Parts) (s : State) (h : ArePartsOf base accepted p s) (put : ArePutBack o p) where
  same_records : record_at o ≡ p.objects
  same_records = fun_ext put.records

  object_is : (i : ℕ) → object_of (content_of p.pages) (slot_at o i) (list_at o.links i) ≡ s.objects i
  object_is i =
      sym (object_told (content_of p.pages) (slot_at o i) (list_at o.links i))
      ∙ (ap (λ (told : Option Obj). object_in (content_of p.pages) told) (put.records i)
      ∙ sym (objects_are p.objects p.pages s h.state i))

  scheduler_there : is_scheduler (slot_at o SCHEDULER) ≡ true
  scheduler_there = scheduler_slot (content_of p.pages) (slot_at o SCHEDULER) (list_at o.links SCHEDULER) (object_is SCHEDULER ∙ h.sound.fixed.scheduler)

  pub state_put_back : state_of o (rest_of p.pages s) ≡ s
  state_put_back =
      state_told o (rest_of p.pages s) scheduler_there
      ∙ (ap (λ (records : ℕ → Option Obj). state_of_records records (rest_of p.pages s)) same_records
      ∙ sym h.state)

  module _ (slot_told : (slot : Slot) (threads : List ℕ) (obj : Obj) → record_of slot threads ≡ Some obj → slot_of obj ≡ slot)
      (decoded : (obj : Obj) → IsObj obj → IsUntoldInRange (slot_of obj))
      (none_stray : (o : Objects) → HasOwnLists o → ((i : ℕ) → i ≢ SCHEDULER → is_scheduler (slot_at o i) ≡ false) → HasNoStrays o)
      (one_scheduler : (records : ℕ → Option Obj) (rest : Rest) (i : ℕ) → HasFixedObjects (state_of_records records rest) → is_scheduler_in (records i) ≡ true → i ≡ SCHEDULER)
      (in_range : (i : ℕ) → IfSome (p.objects i) IsObj) where
    untold : (i : ℕ) → IsUntoldInRange (slot_at o i)
    untold i = untold_of decoded (slot_at o i) (list_at o.links i) (subst (λ (told : Option Obj). IfSome told IsObj) (sym (put.records i)) (in_range i))

    -- Schedulers.

    fixed_told : HasFixedObjects (state_of_records p.objects (rest_of p.pages s))
    fixed_told = subst HasFixedObjects h.state h.sound.fixed

    other_slot : (i : ℕ) (b : Bool) → is_scheduler (slot_at o i) ≡ b → i ≢ SCHEDULER → is_scheduler (slot_at o i) ≡ false
    other_slot i false e other = e
    other_slot i true e other =
        absurd (other (one_scheduler p.objects (rest_of p.pages s) i fixed_told
        (ap is_scheduler_in (sym (put.records i)) ∙ (sym (scheduler_told (slot_at o i) (list_at o.links i)) ∙ e))))

    -- Rings.

    output_told : (channel : ℕ) (lt : channel < OUTPUT_CHANNELS) → slot_at o (FIRST_OUTPUT_RING + channel) ≡ Slot.Ring (h.rings channel lt).0
    output_told channel lt =
        sym (slot_told _ (list_at o.links (FIRST_OUTPUT_RING + channel)) (Obj.Ring (h.rings channel lt).0) (put.records (FIRST_OUTPUT_RING + channel) ∙ (h.rings channel lt).1))

    output_slot : (channel : ℕ) → channel < OUTPUT_CHANNELS → IsOutputRing channel (slot_at o (FIRST_OUTPUT_RING + channel))
    output_slot channel lt =
        let ring = (h.rings channel lt).0 in
        let is = (h.rings channel lt).2 in
        record {
          fresh = ring.fresh;
          count = ring.count;
          is = output_told channel lt
              ∙ (ap (λ (c : ℕ). Slot.Ring (record { channel = c; fresh = ring.fresh; count = ring.count; page = ring.page })) is.channel_is
              ∙ ap (λ (page : ℕ). Slot.Ring (record { channel = channel; fresh = ring.fresh; count = ring.count; page = page })) is.page);
        }

    counted_at : (id channel : ℕ) → channel < OUTPUT_CHANNELS → FIRST_OUTPUT_RING + channel ≡ id
        → (slot_channel (slot_at o id) ≡ channel) × (slot_count (slot_at o id) ≡ base channel + length (s.out channel))
    counted_at id channel lt e =
        let told : slot_at o id ≡ Slot.Ring (h.rings channel lt).0 = ap (λ (k : ℕ). slot_at o k) (sym e) ∙ output_told channel lt in
        (ap slot_channel told ∙ (h.rings channel lt).2.channel_is, ap slot_count told ∙ (h.rings channel lt).2.count)

    put_on : (id : ℕ) (slot : Slot) → slot_at o id ≡ slot → slot_channel slot ≢ OUTPUT_CHANNELS → object_of (content_of p.pages) slot (list_at o.links id) ≡ Some (ring_of (slot_channel slot))
        → slot_count slot ≡ base (slot_channel slot) + length (s.out (slot_channel slot))
    put_on id slot e other ring =
        let out : Some (ring_of (slot_channel slot)) ≡ Some (plain.OutputRing (slot_channel slot)) = (let apart = ne_eqb (slot_channel slot) OUTPUT_CHANNELS other in rw apart refl) in
        let there : s.objects id ≡ Some (plain.OutputRing (slot_channel slot)) =
        sym (object_is id) ∙ (ap (λ (x : Slot). object_of (content_of p.pages) x (list_at o.links id)) e ∙ (ring ∙ out)) in
        let at = output_at s id (slot_channel slot) h.sound.fixed there in
        let counts = counted_at id at.0 at.1 at.2 in
        let channel : slot_channel slot ≡ at.0 = ap slot_channel (sym e) ∙ counts.0 in
        subst (λ (c : ℕ). slot_count slot ≡ base c + length (s.out c)) (sym channel) (ap slot_count (sym e) ∙ counts.1)

    counts_of : (w : World) → w.base ≡ base → (id : ℕ) (slot : Slot) → slot_at o id ≡ slot → CountsEntries slot (record w { now = state_of o (rest_of p.pages s) })
    unfolding state_of
    counts_of w same id (Slot.Ring ring) e =
        let is = subst IsUntoldInRange e (untold id) in
        (is.channel, λ other. put_on id (Slot.Ring ring) e other refl ∙ ap (λ (b : ℕ → ℕ). b ring.channel + length (s.out ring.channel)) (sym same))
    counts_of w same id Slot.Empty e = tt
    counts_of w same id (Slot.Group group) e = tt
    counts_of w same id (Slot.Thread thread) e = tt
    counts_of w same id (Slot.Space space) e = tt
    counts_of w same id (Slot.Memory memory) e = tt
    counts_of w same id (Slot.Connection c) e = tt
    counts_of w same id (Slot.Notification note) e = tt
    counts_of w same id (Slot.Scheduler cores) e = tt

    pub saved_again : (w : World) → w.base ≡ base → accepted_count w ≡ accepted → HasRoom w s → CanBeSaved o (rest_of p.pages s) p.pages w
    saved_again w same counted room = record {
      sound = subst IsSoundState (sym state_put_back) h.sound;
      swept = subst (λ (x : State). swept x ≡ x) (sym state_put_back) h.swept;
      slots = (let scheduler = scheduler_cores (slot_at o SCHEDULER) scheduler_there in record {
        cores = scheduler.0;
        scheduler = scheduler.1;
        cores_are = subst IsUntoldInRange scheduler.1 (untold SCHEDULER);
        outputs = output_slot;
        input = input_slot (content_of p.pages) (slot_at o INPUT_RING) (list_at o.links INPUT_RING) (object_is INPUT_RING ∙ h.sound.fixed.input) (untold INPUT_RING);
      });
      strays = none_stray o put.own (λ i other. other_slot i (is_scheduler (slot_at o i)) refl other);
      words = record {
        told = subst (λ (records : ℕ → Option Obj). AreOfRecords records p.pages) (sym same_records) h.pages;
        agree = λ page offset is. refl;
      };
      rings = λ id. counts_of w same id (slot_at o id) refl;
      room = subst (HasRoom w) (sym state_put_back) room;
      entries = λ channel i lt from inside.
          subst (λ (b : ℕ → ℕ). HasEntry (content_of p.pages (page_of_channel channel)) (b channel + i) (slice_index_or (s.out channel) i [])) (sym same)
          ((h.rings channel lt).2.entries i (let a = ap (λ (f : ℕ → ℕ). f channel) counted in let b = ap (λ (f : ℕ → ℕ). f channel) same in omega (arith, a, b, from)) inside);
      channels = h.channels;
    }
