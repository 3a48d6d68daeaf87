-- Where pages are marked as fresh that were zeroed alone, objects have the records that they had before.
use Rattle.std.specs.Prelude.{◌≡◌, ℕ, ◌<◌, ◌==◌, ◌||◌, ◌&&◌, Bool, true, false, if◌then◌else◌, List, [], ◌∷◌, map}
use Rattle.std.specs.List.{list_any}
use Rattle.std.proofs.Common.{refl, ap, sym, ◌∙◌, arith, inl, inr}
use Rattle.std.proofs.lemmas.Bool.{cases_lt, eq-eqb, lt-ltb, le-ltb}
use Rattle.sls_base.specs.declared.limits.TheConstants.{OUTPUT_CHANNELS, PAGES}
use Rattle.sls_base.specs.declared.thread.Ring.{Ring}
use Rattle.sls_base.proofs.ListTests.{or_left, or_right}
use Rattle.mem_space.specs.declared.memory.MemPage.{MemPage}
use Rattle.plain_model.specs.Objects.{Page}
use Rattle.plain_model.specs.Objects.{page_numbers}
use Rattle.kobj_table.specs.declared.slot.Slot.{Slot}
use Rattle.kobj_table.specs.Slots.{object_of, page_of}
use Rattle.page_store.specs.declared.stage.PageStage.{PageStage}
use Rattle.page_store.specs.declared.stage.PageStage.TheVariants as stages
use Rattle.page_store.specs.declared.stage.Origin.TheVariants.{Zeros, Copy}
use Rattle.page_store.specs.declared.stage.Writes.TheVariants.{Nothing, Stored, Flushed}
use Rattle.page_store.specs.Stages.{stage_of}
use Rattle.version_rooms.specs.declared.rooms.Rooms.{Rooms}
use Rattle.leader_helper.specs.Sweep.{freshened, is_zeroed_alone, is_zeroed_below, page_freshened, ring_freshened}
use Rattle.leader_helper.proofs.Contents.{IsRingInPlace}
use Rattle.core_turns.specs.Marks.{is_zeroed, page_again, ring_again, slot_again, was_fresh}
use Rattle.checkpoint_turns.proofs.BeginRunning.{below_is}

zeroed_same : (stage : PageStage) → is_zeroed_alone stage ≡ is_zeroed stage
zeroed_same stages.Fresh = refl
zeroed_same stages.Protected = refl
zeroed_same (stages.Preparing core next) = refl
zeroed_same (stages.Writable Zeros Nothing) = refl
zeroed_same (stages.Writable Zeros Stored) = refl
zeroed_same (stages.Writable Zeros Flushed) = refl
zeroed_same (stages.Writable Copy writes) = refl

these_are : (r : Rooms) (page : ℕ) → page < PAGES → is_zeroed_below r PAGES page ≡ was_fresh r page
these_are r page below = below_is r page below ∙ zeroed_same (stage_of r.pages page)

pages_alike : (r : Rooms) (content : ℕ → ℕ → ℕ) (items : List MemPage)
    → ((page : ℕ) → list_any (λ number. number == page)
    (map (λ (p : Page). p.number) (map (page_of content) items)) ≡ true → page < PAGES)
    → map (page_freshened (is_zeroed_below r PAGES)) items ≡ map (page_again r) items
pages_alike r content [] inside = refl
pages_alike r content (p ∷ items) inside =
    let below = inside p.page (or_left (p.page == p.page) _ (eq-eqb p.page p.page refl)) in
    ap (λ (b : Bool). record p { fresh = p.fresh || b } ∷ map (page_freshened (is_zeroed_below r PAGES)) items)
    (these_are r p.page below)
    ∙ ap (λ (all : List MemPage). page_again r p ∷ all)
    (pages_alike r content items (λ page is. inside page (or_right (p.page == page) _ is)))

and_true : (b : Bool) → (b && true) ≡ b
and_true true = refl
and_true false = refl

or_none : (a b : Bool) → (a || (b && false)) ≡ a
or_none true b = refl
or_none false true = refl
or_none false false = refl

ring_alike : (r : Rooms) (ring : Ring) → IsRingInPlace (Slot.Ring ring)
    → ring_freshened (is_zeroed_below r PAGES) ring ≡ ring_again r ring
ring_alike r ring place = elim (cases_lt ring.channel OUTPUT_CHANNELS) [
  | inl below ↦
      let is = lt-ltb ring.channel OUTPUT_CHANNELS below in
      let here = place.1 below in
      let inside : ring.page < PAGES = omega (arith, here, below) in
      ap (λ (b : Bool). if b then record ring { fresh = ring.fresh || is_zeroed_below r PAGES ring.page } else ring) is
      ∙ ap (λ (b : Bool). record ring { fresh = ring.fresh || b })
      (these_are r ring.page inside ∙ sym (and_true (was_fresh r ring.page))
      ∙ sym (ap (λ (b : Bool). was_fresh r ring.page && b) is))
  | inr past ↦
      let isnt = le-ltb ring.channel OUTPUT_CHANNELS past in
      ap (λ (b : Bool). if b then record ring { fresh = ring.fresh || is_zeroed_below r PAGES ring.page } else ring)
      isnt
      ∙ ap (λ (b : Bool). record ring { fresh = b })
      (sym (or_none ring.fresh (was_fresh r ring.page))
      ∙ sym (ap (λ (b : Bool). ring.fresh || (was_fresh r ring.page && b)) isnt))
]

pub slot_alike : (r : Rooms) (content : ℕ → ℕ → ℕ) (slot : Slot) (threads : List ℕ) → IsRingInPlace slot
    → ((page : ℕ) → list_any (λ number. number == page) (page_numbers (object_of content slot threads)) ≡ true
    → page < PAGES)
    → freshened (is_zeroed_below r PAGES) slot ≡ slot_again r slot
slot_alike r content Slot.Empty threads place inside = refl
slot_alike r content (Slot.Group group) threads place inside = refl
slot_alike r content (Slot.Thread thread) threads place inside = refl
slot_alike r content (Slot.Space space) threads place inside = refl
slot_alike r content (Slot.Memory memory) threads place inside =
    ap (λ (items : List MemPage). Slot.Memory (record { pages = record { items = items } }))
    (pages_alike r content memory.pages.items inside)
slot_alike r content (Slot.Connection c) threads place inside = refl
slot_alike r content (Slot.Notification note) threads place inside = refl
slot_alike r content (Slot.Ring ring) threads place inside = ap Slot.Ring (ring_alike r ring place)
slot_alike r content (Slot.Scheduler cores) threads place inside = refl
