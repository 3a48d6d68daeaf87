-- What becomes of records where a page that was fresh is marked as one that has content.
use Rattle.std.specs.Prelude.{◌≡◌, ◌≢◌, ℕ, ◌+◌, ◌<◌, ◌≤◌, ◌==◌, ◌&&◌, ◌||◌, not, nat_lt, Bool, true, false, if◌then◌else◌, List, [], ◌∷◌, map, Contains, Some}
use Rattle.std.specs.List.{list_any}
use Rattle.std.proofs.Common.{refl, ap, sym, ◌∙◌, subst, arith, inl, inr}
use Rattle.std.proofs.lemmas.Bool.{cases_eq, cases_lt, cases_Bool, eq-eqb, ne_eqb, eqb-true, lt-ltb}
use Rattle.sls_base.specs.declared.limits.TheConstants.{OBJECTS, OUTPUT_CHANNELS}
use Rattle.sls_base.specs.declared.fixed.TheConstants.{FIRST_OUTPUT_RING, INPUT_RING, SCHEDULER}
use Rattle.sls_base.specs.declared.thread.Ring.{Ring}
use Rattle.sls_base.proofs.ListTests.{any_in, in_any, any_same, in_range, range_in, or_left, or_right, or_cases, and_left}
use Rattle.link_lists.specs.Lists.{list_at}
use Rattle.mem_space.specs.declared.memory.MemPage.{MemPage}
use Rattle.plain_state.specs.Objects.{Page, every_object, page_numbers}
use Rattle.plain_state.specs.Worlds.{World, has_page}
use Rattle.plain_laws.specs.Sound.{AreApart}
use Rattle.kobj_table.specs.declared.slot.Slot.{Slot}
use Rattle.kobj_table.specs.declared.objects.Objects.{Objects}
use Rattle.kobj_table.specs.Objects.{Rest, slot_at, state_of}
use Rattle.kobj_table.specs.Slots.{object_of, page_of, ring_of}
use Rattle.call_readings.specs.Kernel.{CountsEntries}
use Rattle.object_records.specs.Records.{record_of, record_at}
use Rattle.object_records.specs.Marks.{marked, page_marked, ring_marked}
use Rattle.object_records.specs.Pages.{has_content_in, is_content}
use Rattle.object_records.specs.Ranges.{HasFixedSlots, IsOutputRing}

-- Rings stand in their places.

-- a ring is of a channel that there is, and an output ring has the page of its channel
abbrev pub IsRingInPlace : Slot → Type 0
IsRingInPlace (Slot.Ring ring) =
    (ring.channel ≤ OUTPUT_CHANNELS) × (ring.channel < OUTPUT_CHANNELS → ring.page ≡ ring.channel)
IsRingInPlace slot = Unit {0}

abbrev pub has_it : ℕ → MemPage → Bool
has_it page p = (p.page == page) && not p.fresh

-- a channel has a page
abbrev pub channel_has : ℕ → ℕ → Bool
channel_has page channel = list_any (λ number. number == page) (page_numbers (Some (ring_of channel)))

none_of : (a : Bool) → (a && false) ≡ false
none_of true = refl
none_of false = refl

or_off : (b : Bool) → (b || false) ≡ b
or_off true = refl
or_off false = refl

pub input_has_none : (page channel : ℕ) → channel ≡ OUTPUT_CHANNELS → channel_has page channel ≡ false
input_has_none page channel is = rw is refl

pub output_has : (page channel : ℕ) → channel < OUTPUT_CHANNELS → channel_has page channel ≡ (channel == page)
output_has page channel lt =
    let isnt : (channel == OUTPUT_CHANNELS) ≡ false = ne_eqb channel OUTPUT_CHANNELS (λ e. absurd (omega arith)) in
    rw isnt (or_off (channel == page))

ring_object : (content : ℕ → ℕ → ℕ) (ring : Ring) (threads : List ℕ) → ring.channel < OUTPUT_CHANNELS
    → Contains (page_numbers (object_of content (Slot.Ring ring) threads)) ring.channel
ring_object content ring threads lt =
    let isnt : (ring.channel == OUTPUT_CHANNELS) ≡ false =
    ne_eqb ring.channel OUTPUT_CHANNELS (λ e. absurd (omega arith)) in
    rw isnt (0, omega arith, refl)

page_in : Slot → ℕ
page_in (Slot.Ring ring) = ring.page
page_in slot = 0

module _ (o : Objects) (rest : Rest) (fixed : HasFixedSlots o) (apart : AreApart (state_of o rest)) where
  contains_own : (i : ℕ) (ring : Ring) → slot_at o i ≡ Slot.Ring ring → ring.channel < OUTPUT_CHANNELS
      → Contains (page_numbers ((state_of o rest).objects i)) ring.channel
  unfolding state_of
  contains_own i ring is lt =
      subst (λ (s : Slot). Contains (page_numbers (object_of rest.content s (list_at o.links i))) ring.channel)
      (sym is) (ring_object rest.content ring (list_at o.links i) lt)

  output_page : (i : ℕ) (ring : Ring) → slot_at o i ≡ Slot.Ring ring → ring.channel < OUTPUT_CHANNELS
      → ring.page ≡ ring.channel
  unfolding page_in
  output_page i ring is lt =
      let output = fixed.outputs ring.channel lt in
      let fixed_ring : Ring =
      record { channel = ring.channel; fresh = output.fresh; count = output.count; page = ring.channel } in
      let there = contains_own (FIRST_OUTPUT_RING + ring.channel) fixed_ring output.is lt in
      let same : i ≡ FIRST_OUTPUT_RING + ring.channel =
      apart.apart i (FIRST_OUTPUT_RING + ring.channel) ring.channel (contains_own i ring is lt) there in
      ap page_in (sym is) ∙ ap (λ (k : ℕ). page_in (slot_at o k)) same ∙ ap page_in output.is

  in_place_at : (i : ℕ) (slot : Slot) (w : World) → slot_at o i ≡ slot → CountsEntries slot w → IsRingInPlace slot
  in_place_at i (Slot.Ring ring) w is counts = (counts.0, output_page i ring is)
  in_place_at i Slot.Empty w is counts = tt
  in_place_at i (Slot.Group group) w is counts = tt
  in_place_at i (Slot.Thread thread) w is counts = tt
  in_place_at i (Slot.Space space) w is counts = tt
  in_place_at i (Slot.Memory memory) w is counts = tt
  in_place_at i (Slot.Connection c) w is counts = tt
  in_place_at i (Slot.Notification note) w is counts = tt
  in_place_at i (Slot.Scheduler cores) w is counts = tt

  pub in_place : (w : World) → ((i : ℕ) → CountsEntries (slot_at o i) w) → (i : ℕ) → IsRingInPlace (slot_at o i)
  in_place w counts i = in_place_at i (slot_at o i) w refl (counts i)

-- Content, where a page is marked so.

module _ (page : ℕ) where
  other_it : (other : ℕ) (p : MemPage) → other ≢ page → has_it other (page_marked page false p) ≡ has_it other p
  other_it other p ne = elim (cases_eq p.page page) [
    | inl here ↦
        let is : (p.page == page) ≡ true = eq-eqb p.page page here in
        let isnt : (p.page == other) ≡ false = ne_eqb p.page other (λ e. ne (sym e ∙ here)) in
        rw (is, isnt) refl
    | inr there ↦ (let isnt : (p.page == page) ≡ false = ne_eqb p.page page there in rw isnt refl)
  ]

  other_pages : (other : ℕ) (items : List MemPage) → other ≢ page
      → list_any (has_it other) (map (page_marked page false) items) ≡ list_any (has_it other) items
  other_pages other [] ne = refl
  other_pages other (p ∷ items) ne =
      ap (λ (b : Bool). b || list_any (has_it other) (map (page_marked page false) items)) (other_it other p ne)
      ∙ ap (λ (b : Bool). has_it other p || b) (other_pages other items ne)

  abbrev is_marked : Ring → Bool
  is_marked ring = (ring.page == page) && nat_lt ring.channel OUTPUT_CHANNELS

  other_ring : (other : ℕ) (ring : Ring) (b : Bool) → is_marked ring ≡ b → other ≢ page → IsRingInPlace (Slot.Ring ring)
      → (not (if b then record ring { fresh = false } else ring).fresh && channel_has other ring.channel)
      ≡ (not ring.fresh && channel_has other ring.channel)
  other_ring other ring false e ne place = refl
  other_ring other ring true e ne place =
      let at : ring.page ≡ page =
      eqb-true ring.page page (and_left (ring.page == page) (nat_lt ring.channel OUTPUT_CHANNELS) e) in
      elim (cases_lt ring.channel OUTPUT_CHANNELS) [
        | inl lt ↦
            (let isnt : (ring.channel == other) ≡ false =
            ne_eqb ring.channel other (λ same. ne (sym same ∙ sym (place.1 lt) ∙ at)) in
            let none : channel_has other ring.channel ≡ false = output_has other ring.channel lt ∙ isnt in
            none ∙ sym (ap (λ (b : Bool). not ring.fresh && b) none ∙ none_of (not ring.fresh)))
        | inr ge ↦
            (let none = input_has_none other ring.channel (omega (arith, place.0)) in
            none ∙ sym (ap (λ (b : Bool). not ring.fresh && b) none ∙ none_of (not ring.fresh)))
      ]

  ring_channel : (ring : Ring) (b : Bool) → (if b then record ring { fresh = false } else ring).channel ≡ ring.channel
  ring_channel ring true = refl
  ring_channel ring false = refl

  ring_other : (other : ℕ) (ring : Ring) → other ≢ page → IsRingInPlace (Slot.Ring ring)
      → (not (ring_marked page false ring).fresh && channel_has other (ring_marked page false ring).channel)
      ≡ (not ring.fresh && channel_has other ring.channel)
  ring_other other ring ne place =
      ap (λ (channel : ℕ). not (ring_marked page false ring).fresh && channel_has other channel)
      (ring_channel ring (is_marked ring))
      ∙ other_ring other ring (is_marked ring) refl ne place

  other_slot : (other : ℕ) (slot : Slot) (threads : List ℕ) → other ≢ page → IsRingInPlace slot
      → has_content_in (record_of (marked page false slot) threads) other
      ≡ has_content_in (record_of slot threads) other
  other_slot other Slot.Empty threads ne place = refl
  other_slot other (Slot.Group group) threads ne place = refl
  other_slot other (Slot.Thread thread) threads ne place = refl
  other_slot other (Slot.Space space) threads ne place = refl
  other_slot other (Slot.Memory memory) threads ne place = other_pages other memory.pages.items ne
  other_slot other (Slot.Connection c) threads ne place = refl
  other_slot other (Slot.Notification note) threads ne place = refl
  other_slot other (Slot.Ring ring) threads ne place = ring_other other ring ne place
  other_slot other (Slot.Scheduler cores) threads ne place = refl

  -- an object that has the page has content on it then

  own_pages : (content : ℕ → ℕ → ℕ) (items : List MemPage)
      → list_any (λ number. number == page) (map (λ (p : Page). p.number) (map (page_of content) items)) ≡ true
      → list_any (has_it page) (map (page_marked page false) items) ≡ true
  own_pages content [] is = absurd (cc)
  own_pages content (p ∷ items) is = elim (or_cases (p.page == page) _ is) [
    | inl here ↦ or_left (has_it page (page_marked page false p)) _ (own_page p here)
    | inr there ↦ or_right (has_it page (page_marked page false p)) _ (own_pages content items there)
  ]
    where
      own_page : (p : MemPage) → (p.page == page) ≡ true → has_it page (page_marked page false p) ≡ true
      own_page p here = rw here (rw here refl)

  own_ring : (ring : Ring) → IsRingInPlace (Slot.Ring ring) → channel_has page ring.channel ≡ true
      → (not (ring_marked page false ring).fresh && channel_has page (ring_marked page false ring).channel) ≡ true
  own_ring ring place has = elim (cases_lt ring.channel OUTPUT_CHANNELS) [
    | inr ge ↦ absurd (let none = input_has_none page ring.channel (omega (arith, place.0)) in cc)
    | inl lt ↦
        (let here : (ring.channel == page) ≡ true = sym (output_has page ring.channel lt) ∙ has in
        let at : (ring.page == page) ≡ true = ap (λ (n : ℕ). n == page) (place.1 lt) ∙ here in
        let output : nat_lt ring.channel OUTPUT_CHANNELS ≡ true = lt-ltb ring.channel OUTPUT_CHANNELS lt in
        let marks : is_marked ring ≡ true = rw (at, output) refl in
        ap (λ (b : Bool). not (if b then record ring { fresh = false } else ring).fresh
        && channel_has page (if b then record ring { fresh = false } else ring).channel) marks ∙ has)
  ]

  own_slot : (content : ℕ → ℕ → ℕ) (slot : Slot) (threads : List ℕ) → IsRingInPlace slot
      → list_any (λ number. number == page) (page_numbers (object_of content slot threads)) ≡ true
      → has_content_in (record_of (marked page false slot) threads) page ≡ true
  own_slot content Slot.Empty threads place is = absurd (cc)
  own_slot content (Slot.Group group) threads place is = absurd (cc)
  own_slot content (Slot.Thread thread) threads place is = absurd (cc)
  own_slot content (Slot.Space space) threads place is = absurd (cc)
  own_slot content (Slot.Memory memory) threads place is = own_pages content memory.pages.items is
  own_slot content (Slot.Connection c) threads place is = absurd (cc)
  own_slot content (Slot.Notification note) threads place is = absurd (cc)
  own_slot content (Slot.Ring ring) threads place is = own_ring ring place is
  own_slot content (Slot.Scheduler cores) threads place is = absurd (cc)

  module _ (o n : Objects)
      (slots : (i : ℕ) → i < OBJECTS → slot_at n i ≡ marked page false (slot_at o i)) (links : n.links ≡ o.links)
      (places : (i : ℕ) → IsRingInPlace (slot_at o i)) where
    record_now : (i other : ℕ) → i < OBJECTS
        → has_content_in (record_at n i) other
        ≡ has_content_in (record_of (marked page false (slot_at o i)) (list_at o.links i)) other
    record_now i other lt =
        ap (λ (s : Slot). has_content_in (record_of s (list_at n.links i)) other) (slots i lt)
        ∙ rw links refl

    pub other_content : (other : ℕ) → other ≢ page → is_content (record_at n) other ≡ is_content (record_at o) other
    unfolding is_content every_object
    other_content other ne =
        any_same (λ i. has_content_in (record_at n i) other) (λ i. has_content_in (record_at o i) other) every_object
        (λ i among. record_now i other (omega (arith, (range_in 0 OBJECTS i among).1))
        ∙ other_slot other (slot_at o i) (list_at o.links i) ne (places i))

    pub own_content : (rest : Rest) → has_page (state_of o rest) page ≡ true → is_content (record_at n) page ≡ true
    unfolding is_content every_object has_page state_of
    own_content rest has =
        let found = in_any (λ i. list_any (λ number. number == page)
        (page_numbers ((state_of o rest).objects i))) every_object has in
        let i = found.0 in
        any_in (λ k. has_content_in (record_at n k) page) every_object i found.1
        (record_now i page (omega (arith, (range_in 0 OBJECTS i found.1).1))
        ∙ own_slot rest.content (slot_at o i) (list_at o.links i) (places i) found.2)

-- Where no record has content on a page, it is fresh there.
pub none_at : (o : Objects) (page i : ℕ) → is_content (record_at o) page ≡ false → i < OBJECTS
    → has_content_in (record_at o i) page ≡ false
unfolding is_content every_object
none_at o page i none lt = elim (cases_Bool (has_content_in (record_at o i) page)) [
  | inr fails ↦ fails
  | inl passes ↦
      absurd (let some = any_in (λ k. has_content_in (record_at o k) page) every_object i
      (in_range 0 OBJECTS i (omega arith) (omega (arith, lt))) passes in cc)
]

-- The fixed slots.

output_marked : (page channel : ℕ) (slot : Slot) → IsOutputRing channel slot
    → IsOutputRing channel (marked page false slot)
output_marked page channel slot is =
    subst (λ (s : Slot). IsOutputRing channel (marked page false s)) (sym is.is)
    (by ((channel == page) && nat_lt channel OUTPUT_CHANNELS) refl)
  where
    by : (b : Bool) → ((channel == page) && nat_lt channel OUTPUT_CHANNELS) ≡ b
        → IsOutputRing channel (marked page false
        (Slot.Ring (record { channel = channel; fresh = is.fresh; count = is.count; page = channel })))
    by true e = record { fresh = false; count = is.count; is = rw e refl }
    by false e = record { fresh = is.fresh; count = is.count; is = rw e refl }

pub fixed_marked : (page : ℕ) (o n : Objects) → ((i : ℕ) → i < OBJECTS → slot_at n i ≡ marked page false (slot_at o i))
    → HasFixedSlots o → HasFixedSlots n
fixed_marked page o n slots fixed = record {
  cores = fixed.cores;
  scheduler = slots SCHEDULER (omega arith) ∙ ap (marked page false) fixed.scheduler;
  cores_are = fixed.cores_are;
  outputs = λ channel lt. subst (IsOutputRing channel) (sym (slots (FIRST_OUTPUT_RING + channel) (omega (arith, lt))))
      (output_marked page channel (slot_at o (FIRST_OUTPUT_RING + channel)) (fixed.outputs channel lt));
  input = slots INPUT_RING (omega arith) ∙ ap (marked page false) fixed.input ∙ input_marked page;
}
  where
    input_marked : (page : ℕ)
        → marked page false (Slot.Ring (record { channel = OUTPUT_CHANNELS; fresh = false; count = 0; page = 0 }))
        ≡ Slot.Ring (record { channel = OUTPUT_CHANNELS; fresh = false; count = 0; page = 0 })
    input_marked page = rw (none_of (0 == page)) refl
