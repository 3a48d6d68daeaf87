-- The record that an object had before its pages were prepared is the same after a step of a page.
use Rattle.std.specs.Prelude.{◌≡◌, ◌≢◌, ℕ, ◌==◌, ◌&&◌, ◌||◌, not, nat_lt, Bool, true, false, if◌then◌else◌, List, [], ◌∷◌, map}
use Rattle.std.specs.List.{list_any}
use Rattle.std.proofs.Common.{refl, ap, sym, ◌∙◌, inl, inr}
use Rattle.std.proofs.lemmas.Bool.{cases_eq, cases_lt, eq-eqb, ne_eqb, lt-ltb, le-ltb}
use mathlib.Core.Path.{fun_ext}
use Rattle.sls_base.specs.declared.limits.TheConstants.{OUTPUT_CHANNELS}
use Rattle.sls_base.specs.declared.thread.Ring.{Ring}
use Rattle.sls_base.proofs.ListTests.{or_false}
use Rattle.link_lists.specs.Lists.{list_at}
use Rattle.mem_space.specs.declared.memory.MemPage.{MemPage}
use Rattle.kobj_table.specs.declared.slot.Slot.{Slot}
use Rattle.kobj_table.specs.declared.objects.Objects.{Objects}
use Rattle.kobj_table.specs.Objects.{slot_at}
use Rattle.object_records.specs.Records.{record_of}
use Rattle.object_records.specs.Marks.{marked, page_marked, ring_marked}
use Rattle.object_records.specs.Pages.{has_content_in}
use Rattle.version_rooms.specs.declared.rooms.Rooms.{Rooms}
use Rattle.core_turns.specs.Marks.{was_fresh, slot_again, record_again}
use Rattle.core_turns.proofs.Marking.{IsRingInPlace, has_it, channel_has, output_has}

-- By the pages that were fresh.

abbrev page_by : (ℕ → Bool) → MemPage → MemPage
page_by was p = record p { fresh = p.fresh || was p.page }

abbrev ring_by : (ℕ → Bool) → Ring → Ring
ring_by was ring = record ring { fresh = ring.fresh || was ring.page && nat_lt ring.channel OUTPUT_CHANNELS }

abbrev slot_by : (ℕ → Bool) → Slot → Slot
slot_by was (Slot.Memory memory) =
    Slot.Memory (record { pages = record { items = map (page_by was) memory.pages.items } })
slot_by was (Slot.Ring ring) = Slot.Ring (ring_by was ring)
slot_by was slot = slot

again_by : (r : Rooms) (slot : Slot) → slot_again r slot ≡ slot_by (was_fresh r) slot
again_by r Slot.Empty = refl
again_by r (Slot.Group group) = refl
again_by r (Slot.Thread thread) = refl
again_by r (Slot.Space space) = refl
again_by r (Slot.Memory memory) = refl
again_by r (Slot.Connection c) = refl
again_by r (Slot.Notification note) = refl
again_by r (Slot.Ring ring) = refl
again_by r (Slot.Scheduler cores) = refl

-- Where the same pages were fresh, slots are the same again.
pub same_again : (r t : Rooms) (slot : Slot) → ((page : ℕ) → was_fresh t page ≡ was_fresh r page)
    → slot_again t slot ≡ slot_again r slot
same_again r t slot same =
    let was : (λ page. was_fresh t page) ≡ (λ page. was_fresh r page) = fun_ext same in
    again_by t slot ∙ ap (λ (f : ℕ → Bool). slot_by f slot) was ∙ sym (again_by r slot)

-- Where a page was marked that was fresh and is zeroed.

off_both : (a b : Bool) → (a && false) ≡ (b && false)
off_both true true = refl
off_both true false = refl
off_both false true = refl
off_both false false = refl

or_true : (a : Bool) → (a || true) ≡ true
or_true true = refl
or_true false = refl

fresh_if : (a b : Bool) → a ≡ true → (a && not b) ≡ false → b ≡ true
fresh_if a true e f = refl
fresh_if a false e f = let never : true ≡ false = rw e at f in cc

module _ (page : ℕ) (was now : ℕ → Bool) (others : (i : ℕ) → i ≢ page → now i ≡ was i)
    (fresh : was page ≡ false) (zeroed : now page ≡ true) where
  page_same : (p : MemPage) → has_it page p ≡ false → page_by now (page_marked page false p) ≡ page_by was p
  page_same p none = elim (cases_eq p.page page) [
    | inl here ↦
        let is : (p.page == page) ≡ true = eq-eqb p.page page here in
        let stale : p.fresh ≡ true = fresh_if (p.page == page) p.fresh is none in
        let marks : page_marked page false p ≡ record p { fresh = false } = rw is refl in
        let zero : now p.page ≡ true = ap now here ∙ zeroed in
        ap (page_by now) marks
        ∙ ap (λ (b : Bool). record p { fresh = b }) zero
        ∙ sym (ap (λ (b : Bool). record p { fresh = b || was p.page }) stale)
    | inr there ↦
        let isnt : (p.page == page) ≡ false = ne_eqb p.page page there in
        let marks : page_marked page false p ≡ p = rw isnt refl in
        ap (page_by now) marks ∙ ap (λ (b : Bool). record p { fresh = p.fresh || b }) (others p.page there)
  ]

  pages_same : (items : List MemPage) → list_any (has_it page) items ≡ false
      → map (page_by now) (map (page_marked page false) items) ≡ map (page_by was) items
  pages_same [] none = refl
  pages_same (p ∷ items) none =
      let both = or_false (has_it page p) (list_any (has_it page) items) none in
      ap (λ (q : MemPage). q ∷ map (page_by now) (map (page_marked page false) items)) (page_same p both.0)
      ∙ ap (λ (l : List MemPage). page_by was p ∷ l) (pages_same items both.1)

  ring_same : (ring : Ring) → IsRingInPlace (Slot.Ring ring)
      → (not ring.fresh && channel_has page ring.channel) ≡ false
      → ring_by now (ring_marked page false ring) ≡ ring_by was ring
  ring_same ring place none = elim (cases_lt ring.channel OUTPUT_CHANNELS) [
    | inr ge ↦
        let input : nat_lt ring.channel OUTPUT_CHANNELS ≡ false = le-ltb ring.channel OUTPUT_CHANNELS ge in
        let marks : ring_marked page false ring ≡ ring =
        ap (λ (b : Bool). if (ring.page == page) && b then record ring { fresh = false } else ring) input
        ∙ ap (λ (b : Bool). if b then record ring { fresh = false } else ring)
        (off_both (ring.page == page) false) in
        ap (ring_by now) marks
        ∙ ap (λ (b : Bool). record ring { fresh = ring.fresh || now ring.page && b }) input
        ∙ ap (λ (b : Bool). record ring { fresh = ring.fresh || b }) (off_both (now ring.page) (was ring.page))
        ∙ sym (ap (λ (b : Bool). record ring { fresh = ring.fresh || was ring.page && b }) input)
    | inl lt ↦
        let output : nat_lt ring.channel OUTPUT_CHANNELS ≡ true = lt-ltb ring.channel OUTPUT_CHANNELS lt in
        elim (cases_eq ring.page page) [
          | inl here ↦
              let is : (ring.page == page) ≡ true = eq-eqb ring.page page here in
              let channel : (ring.channel == page) ≡ true = eq-eqb ring.channel page (sym (place.1 lt) ∙ here) in
              let stale : ring.fresh ≡ true =
              stale_if ring.fresh (channel_has page ring.channel)
              (output_has page ring.channel lt ∙ channel) none in
              let marks : ring_marked page false ring ≡ record ring { fresh = false } = rw (is, output) refl in
              ap (ring_by now) marks
              ∙ ap (λ (b : Bool). record ring { fresh = b && nat_lt ring.channel OUTPUT_CHANNELS })
              (ap now here ∙ zeroed)
              ∙ ap (λ (b : Bool). record ring { fresh = b }) output
              ∙ sym (ap (λ (b : Bool).
              record ring { fresh = b || was ring.page && nat_lt ring.channel OUTPUT_CHANNELS }) stale)
          | inr there ↦
              let isnt : (ring.page == page) ≡ false = ne_eqb ring.page page there in
              let marks : ring_marked page false ring ≡ ring = rw isnt refl in
              ap (ring_by now) marks
              ∙ ap (λ (b : Bool). record ring { fresh = ring.fresh || b && nat_lt ring.channel OUTPUT_CHANNELS })
              (others ring.page there)
        ]
  ]
    where
      stale_if : (f h : Bool) → h ≡ true → (not f && h) ≡ false → f ≡ true
      stale_if true h e g = refl
      stale_if false h e g = let never : true ≡ false = sym e ∙ g in cc

  slot_same : (slot : Slot) (threads : List ℕ) → IsRingInPlace slot
      → has_content_in (record_of slot threads) page ≡ false → slot_by now (marked page false slot) ≡ slot_by was slot
  slot_same Slot.Empty threads place none = refl
  slot_same (Slot.Group group) threads place none = refl
  slot_same (Slot.Thread thread) threads place none = refl
  slot_same (Slot.Space space) threads place none = refl
  slot_same (Slot.Memory memory) threads place none =
      ap (λ (items : List MemPage). Slot.Memory (record { pages = record { items = items } }))
      (pages_same memory.pages.items none)
  slot_same (Slot.Connection c) threads place none = refl
  slot_same (Slot.Notification note) threads place none = refl
  slot_same (Slot.Ring ring) threads place none = ap (λ (r : Ring). Slot.Ring r) (ring_same ring place none)
  slot_same (Slot.Scheduler cores) threads place none = refl

pub marked_again : (r t : Rooms) (page : ℕ) (slot : Slot) (threads : List ℕ)
    → ((i : ℕ) → i ≢ page → was_fresh t i ≡ was_fresh r i) → was_fresh r page ≡ false → was_fresh t page ≡ true
    → IsRingInPlace slot → has_content_in (record_of slot threads) page ≡ false
    → slot_again t (marked page false slot) ≡ slot_again r slot
marked_again r t page slot threads others fresh zeroed place none =
    again_by t (marked page false slot)
    ∙ slot_same page (was_fresh r) (was_fresh t) others fresh zeroed slot threads place none ∙ sym (again_by r slot)

-- The records of objects.
pub record_same : (r t : Rooms) (o n : Objects) (i : ℕ) → slot_again t (slot_at n i) ≡ slot_again r (slot_at o i)
    → list_at n.links i ≡ list_at o.links i → record_again t n i ≡ record_again r o i
record_same r t o n i slot list =
    ap (λ (s : Slot). record_of s (list_at n.links i)) slot ∙ ap (record_of (slot_again r (slot_at o i))) list
