-- Running objects that can be saved are the parts of the state that they are.
use Rattle.std.proofs.Common.{◌≡◌, ◌==◌, ℕ, zero, suc, ◌+◌, ◌<◌, ◌≤◌, Bool, true, false, List, length, Option, Some, None, refl, ap, sym, ◌∙◌, subst, arith, inl, inr, lit≤}
use Rattle.std.specs.Prelude.{is_some}
use Rattle.std.proofs.lemmas.Bool.{false≢true, cases_lt}
use Rattle.std.proofs.lemmas.Option.{none-some}
use Rattle.sls_base.specs.declared.limits.TheConstants.{OBJECTS, OUTPUT_CHANNELS}
use Rattle.sls_base.specs.declared.fixed.TheConstants.{FIRST_OUTPUT_RING, FIRST_PROGRAM_OBJECT, INPUT_RING, SCHEDULER}
use Rattle.link_lists.specs.Lists.{list_at}
use Rattle.plain_state.specs.declared.objects.Kind.TheVariants.{GroupKind}
use Rattle.plain_model.specs.Objects.{is_kind, page_of_channel}
use Rattle.plain_model.specs.Worlds.{World, accepted_count}
use Rattle.kobj_table.specs.declared.slot.Slot.{Slot}
use Rattle.kobj_table.specs.declared.objects.Objects.{Objects}
use Rattle.kobj_table.specs.Slots.{object_of, ring_of, is_scheduler}
use Rattle.kobj_table.specs.Objects.{Rest, slot_at, state_of}
use Rattle.kobj_codec.specs.declared.obj.Obj.{Obj}
use Rattle.object_records.specs.Records.{record_of, record_at, state_of_records, SameBytes}
use Rattle.object_records.specs.Ranges.{IsUntoldInRange}
use Rattle.call_readings.specs.Kernel.{CountsEntries}
use Rattle.saved_state.specs.State.{ArePartsOf, HasRing, content_of, rest_of}
use Rattle.saved_state.specs.Running.{AreNumbersOf, CanBeSaved, parts_of}
use Rattle.saved_state.proofs.Contents.{read_is_content}

-- Slots and their records.

told_alike : (content : ℕ → ℕ → ℕ) (slot : Slot) (threads : List ℕ) → is_some (object_of content slot threads) ≡ is_some (record_of slot threads)
told_alike content Slot.Empty threads = refl
told_alike content (Slot.Group group) threads = refl
told_alike content (Slot.Thread thread) threads = refl
told_alike content (Slot.Space space) threads = refl
told_alike content (Slot.Memory memory) threads = refl
told_alike content (Slot.Connection c) threads = refl
told_alike content (Slot.Notification note) threads = refl
told_alike content (Slot.Ring ring) threads = refl
told_alike content (Slot.Scheduler cores) threads = refl

none_told : (content : ℕ → ℕ → ℕ) (slot : Slot) (threads : List ℕ) → object_of content slot threads ≡ None → record_of slot threads ≡ None
none_told content Slot.Empty threads e = refl
none_told content (Slot.Group group) threads e = absurd (none-some _ (sym e))
none_told content (Slot.Thread thread) threads e = absurd (none-some _ (sym e))
none_told content (Slot.Space space) threads e = absurd (none-some _ (sym e))
none_told content (Slot.Memory memory) threads e = absurd (none-some _ (sym e))
none_told content (Slot.Connection c) threads e = absurd (none-some _ (sym e))
none_told content (Slot.Notification note) threads e = absurd (none-some _ (sym e))
none_told content (Slot.Ring ring) threads e = absurd (none-some _ (sym e))
none_told content (Slot.Scheduler cores) threads e = absurd (none-some _ (sym e))

-- a ring is no group
ring_kind : (channel : ℕ) (b : Bool) → (channel == OUTPUT_CHANNELS) ≡ b → is_kind GroupKind (Some (ring_of channel)) ≡ false
ring_kind channel true e = rw e refl
ring_kind channel false e = rw e refl

-- of a group nothing is untold
group_untold : (content : ℕ → ℕ → ℕ) (slot : Slot) (threads : List ℕ) → is_kind GroupKind (object_of content slot threads) ≡ true → IsUntoldInRange slot
group_untold content Slot.Empty threads is = tt
group_untold content (Slot.Group group) threads is = tt
group_untold content (Slot.Thread thread) threads is = tt
group_untold content (Slot.Space space) threads is = tt
group_untold content (Slot.Memory memory) threads is = tt
group_untold content (Slot.Connection c) threads is = tt
group_untold content (Slot.Notification note) threads is = tt
group_untold content (Slot.Ring ring) threads is = absurd (false≢true (sym (ring_kind ring.channel (ring.channel == OUTPUT_CHANNELS) refl) ∙ is))
group_untold content (Slot.Scheduler cores) threads is = absurd (false≢true is)

module _ (o : Objects) (rest : Rest) (pages : ℕ → Option (ℕ → ℕ)) (w : World) (h : CanBeSaved o rest pages w) where
  -- Records.

  none_past : (i : ℕ) → OBJECTS ≤ i → record_at o i ≡ None
  unfolding state_of
  none_past i past = none_told rest.content (slot_at o i) (list_at o.links i) (h.sound.in_range i past)

  told_below : (i : ℕ) (obj : Obj) → record_at o i ≡ Some obj → i < OBJECTS
  told_below i obj e = elim (cases_lt i OBJECTS) [
    | inl lt ↦ lt
    | inr past ↦ absurd (none-some obj (sym (none_past i past) ∙ e))
  ]

  same_bytes : (i : ℕ) (obj : Obj) → record_at o i ≡ Some obj → SameBytes rest.content (content_of pages) obj
  same_bytes i obj e page offset reads = h.words.agree page offset (read_is_content (record_at o) i obj page (told_below i obj e) e reads)

  module _ (stands : is_scheduler (slot_at o SCHEDULER) ≡ true → state_of o rest ≡ state_of_records (record_at o) rest)
      (fresh : ((i : ℕ) (obj : Obj) → record_at o i ≡ Some obj → SameBytes rest.content (content_of pages) obj)
      → state_of_records (record_at o) (record rest { content = content_of pages }) ≡ state_of_records (record_at o) rest) where
    of_records : state_of o rest ≡ state_of_records (record_at o) (rest_of pages (state_of o rest))
    unfolding state_of
    of_records = stands (ap is_scheduler h.slots.scheduler) ∙ sym (fresh same_bytes)

  -- Rings.

  counted : (channel : ℕ) (lt : channel < OUTPUT_CHANNELS) → (h.slots.outputs channel lt).count ≡ w.base channel + length (rest.out channel)
  unfolding state_of
  counted channel lt =
      let counts = subst (λ (slot : Slot). CountsEntries slot (record w { now = state_of o rest })) (h.slots.outputs channel lt).is (h.rings (FIRST_OUTPUT_RING + channel)) in
      counts.1 (λ e. absurd (omega (arith, e, lt)))

  ring_told : (channel : ℕ) → channel < OUTPUT_CHANNELS
      → HasRing channel (w.base channel) (accepted_count w channel) (content_of pages (page_of_channel channel)) ((state_of o rest).out channel) (record_at o (FIRST_OUTPUT_RING + channel))
  unfolding state_of
  ring_told channel lt =
      let ring = h.slots.outputs channel lt in
      let count = counted channel lt in (
        record { channel = channel; fresh = ring.fresh; count = ring.count; page = page_of_channel channel },
        ap (λ (slot : Slot). record_of slot (list_at o.links (FIRST_OUTPUT_RING + channel))) ring.is,
        record {
          channel_is = refl;
          page = refl;
          count = count;
          begun = omega arith;
          put = omega (arith, count, h.room.accepted channel);
          room = omega (arith, count, h.room.ring channel);
          entries = λ i from inside. h.entries channel i lt (omega (arith, from)) inside;
        },
      )

  -- What no plain state tells.

  fixed_untold : (i : ℕ) → i < FIRST_PROGRAM_OBJECT → IsUntoldInRange (slot_at o i)
  unfolding state_of
  fixed_untold zero lt = group_untold rest.content (slot_at o 0) (list_at o.links 0) h.sound.fixed.root
  fixed_untold (suc zero) lt = subst IsUntoldInRange (sym h.slots.scheduler) h.slots.cores_are
  fixed_untold (suc (suc i)) lt = elim (cases_lt i OUTPUT_CHANNELS) [
    | inl below ↦
        let ring = h.slots.outputs i below in
        let same : FIRST_OUTPUT_RING + i ≡ suc (suc i) = omega arith in
        let count = counted i below in
        let most = h.room.count i in
        subst (λ (k : ℕ). IsUntoldInRange (slot_at o k)) same
        (subst IsUntoldInRange (sym ring.is) (record { channel = omega (arith, below); count = omega (arith, count, most); page = omega (arith, below); input = inl below }))
    | inr past ↦
        let same : INPUT_RING ≡ suc (suc i) = omega (arith, past, lt) in
        subst (λ (k : ℕ). IsUntoldInRange (slot_at o k)) same
        (subst IsUntoldInRange (sym h.slots.input) (record { channel = lit≤ tt; count = lit≤ tt; page = lit≤ tt; input = inr (refl, refl, refl) }))
  ]

  pub untold : ((i : ℕ) → FIRST_PROGRAM_OBJECT ≤ i → IsUntoldInRange (slot_at o i)) → (i : ℕ) → IsUntoldInRange (slot_at o i)
  untold others i = elim (cases_lt i FIRST_PROGRAM_OBJECT) [
    | inl lt ↦ fixed_untold i lt
    | inr above ↦ others i above
  ]

  -- All parts.

  pub are_parts : (numbers : ℕ → Bool) → AreNumbersOf numbers (state_of o rest)
      → (is_scheduler (slot_at o SCHEDULER) ≡ true → state_of o rest ≡ state_of_records (record_at o) rest)
      → (((i : ℕ) (obj : Obj) → record_at o i ≡ Some obj → SameBytes rest.content (content_of pages) obj)
      → state_of_records (record_at o) (record rest { content = content_of pages }) ≡ state_of_records (record_at o) rest)
      → ArePartsOf w.base (accepted_count w) (parts_of o numbers pages (state_of o rest)) (state_of o rest)
  unfolding state_of
  are_parts numbers used stands fresh = record {
    state = of_records stands fresh;
    sound = h.sound;
    swept = h.swept;
    cores = refl;
    none = none_past;
    used_objects = λ i lt. used.objects i lt ∙ told_alike rest.content (slot_at o i) (list_at o.links i);
    used_pages = used.pages;
    pages = h.words.told;
    rings = ring_told;
    channels = h.channels;
  }
