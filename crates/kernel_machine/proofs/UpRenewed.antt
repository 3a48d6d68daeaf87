-- When the machine is up, the pages that may be stored to are those with a slot of the version.
use Rattle.std.specs.Prelude.{◌≡◌, ◌≢◌, ◌↔◌, ℕ, ◌<◌, nat_lt, true, false, List, Option, Some, None, is_some}
use Rattle.std.proofs.Common.{refl, ap, sym, subst, ◌∙◌, arith, inl, inr}
use Rattle.std.proofs.lemmas.Bool.{cases_Bool, lt-ltb, ltb-true}
use Rattle.sls_base.specs.declared.limits.TheConstants.{OBJECTS, PAGES}
use Rattle.sls_base.proofs.ListTests.{and_both, and_left, and_right}
use Rattle.pmem_model.specs.Memory.{Memory, word_at}
use Rattle.pmem_layout.specs.declared.number.Number.TheVariants.{Object}
use Rattle.pmem_layout.specs.declared.places.TheConstants.{NUMBERS}
use Rattle.pmem_layout.specs.Numbers.{index_of}
use Rattle.plain_state.specs.States.{State}
use Rattle.plain_state.specs.Worlds.{World, has_page}
use Rattle.plain_model.specs.Play.{cut}
use Rattle.plain_laws.specs.Sound.{AreApart}
use Rattle.kobj_codec.specs.declared.obj.Obj.{Obj}
use Rattle.kobj_table.specs.declared.objects.Objects.{Objects}
use Rattle.kobj_table.specs.Objects.{state_of}
use Rattle.object_records.specs.Records.{record_at}
use Rattle.object_records.specs.Pages.{is_content}
use Rattle.page_store.specs.declared.stage.Origin.{Origin}
use Rattle.page_store.specs.declared.stage.Origin.TheVariants.{Zeros, Copy}
use Rattle.page_store.specs.declared.stage.Writes.{Writes}
use Rattle.page_store.specs.declared.stage.Writes.TheVariants.{Nothing, Stored, Flushed}
use Rattle.page_store.specs.declared.stage.PageStage.{PageStage}
use Rattle.page_store.specs.declared.stage.PageStage.TheVariants as stages
use Rattle.page_store.specs.Slots.{Slot, HasSlot, IsUntagged}
use Rattle.page_store.specs.Stages.{stage_of, state_at, state_of as page_state, IsAsRecovered}
use Rattle.durable_state.specs.Parts.{Parts, PartsStand}
use Rattle.leader_helper.proofs.Contents.{content_inside}
use Rattle.core_turns.specs.declared.running.Running.{Running}
use Rattle.core_turns.specs.Runs.{Runs, objects_of}
use Rattle.machine_contract.specs.Shown.{durable_of}
use Rattle.kernel_machine.specs.Formats.{HaveContent, IsTagged}
use Rattle.kernel_machine.specs.Sides.{is_writable_at, writable_by}
use Rattle.kernel_machine.proofs.UpSaved.{content_saved, content_there, same_content}

same_option : (a b : Option Obj) → is_some a ≡ is_some b → ((x y : Obj) → a ≡ Some x → b ≡ Some y → x ≡ y) → a ≡ b
same_option None None alike same = refl
same_option None (Some y) alike same = absurd (cc)
same_option (Some x) None alike same = absurd (cc)
same_option (Some x) (Some y) alike same = ap (λ (z : Obj). Some z) (same x y refl refl)

some_words : (words : Option (ℕ → ℕ)) → is_some words ≡ true → words ≢ None
some_words None is e = let no : false ≡ true = is in cc
some_words (Some content) is e = cc

-- Stages of pages that were recovered.

writable_copy : (stage : PageStage) → IsAsRecovered stage → is_writable_at (state_at stage) ≡ true
    → stage ≡ stages.Writable Copy Nothing
writable_copy stages.Fresh is writable = absurd (cc)
writable_copy stages.Protected is writable = absurd (cc)
writable_copy (stages.Preparing core next) is writable = absurd is
writable_copy (stages.Writable Copy Nothing) is writable = refl
writable_copy (stages.Writable Copy Stored) is writable = absurd is
writable_copy (stages.Writable Copy Flushed) is writable = absurd is
writable_copy (stages.Writable Zeros Nothing) is writable = absurd is
writable_copy (stages.Writable Zeros Stored) is writable = absurd is
writable_copy (stages.Writable Zeros Flushed) is writable = absurd is

writable_else : (stage : PageStage) → IsAsRecovered stage → (stage ≡ stages.Fresh → ⊥)
    → (stage ≡ stages.Protected → ⊥) → is_writable_at (state_at stage) ≡ true
writable_else stages.Fresh is stale guarded = absurd (stale refl)
writable_else stages.Protected is stale guarded = absurd (guarded refl)
writable_else (stages.Preparing core next) is stale guarded = absurd is
writable_else (stages.Writable origin writes) is stale guarded = refl

module _ (k : Running) (accepted : List ℕ) (m : Memory) (w : World) (h : Runs k accepted m w) (off : cut w ≡ w)
    (stages_are : (page : ℕ) → page < PAGES → IsAsRecovered (stage_of k.rooms.pages page))
    (stand : PartsStand (durable_of (word_at m)) w.version h.saved)
    (untagged : (page : ℕ) → page < PAGES → stage_of k.rooms.pages page ≡ stages.Protected → (slot : Slot)
    → IsUntagged (word_at m) page slot w.version)
    (tagged : (page : ℕ) (origin : Origin) (writes : Writes) → page < PAGES
    → stage_of k.rooms.pages page ≡ stages.Writable origin writes → h.saved.pages page ≢ None
    → (slot : Slot) × HasSlot (durable_of (word_at m)) page slot w.version)
    (numbers : (q : Parts) → PartsStand (durable_of (word_at m)) w.version q → (n : ℕ) → n < NUMBERS
    → q.numbers n ≡ h.saved.numbers n)
    (objects : (q : Parts) → PartsStand (durable_of (word_at m)) w.version q → (id : ℕ) (x y : Obj) → id < OBJECTS
    → q.objects id ≡ Some x → h.saved.objects id ≡ Some y → x ≡ y) where
  abbrev o : Objects
  o = objects_of k

  -- the page isn't fresh exactly where it has content
  has_content : (page : ℕ) → page < PAGES → (stage_of k.rooms.pages page ≡ stages.Fresh → ⊥)
      → is_content (record_at o) page ≡ true
  has_content page below stale = elim (cases_Bool (is_content (record_at o) page)) [
    | inl has ↦ has
    | inr none ↦ absurd (stale ((h.fresh page below).1 none))
  ]

  there : (page : ℕ) → is_content (record_at o) page ≡ true → has_page w.now page ≡ true
  there page has =
      subst (λ (s : State). has_page s page ≡ true) (sym h.holds.now) (content_there o h.rest page has)

  tagged_there : (page : ℕ) → writable_by k page ≡ true
      → (has_page w.now page ≡ true) × IsTagged (durable_of (word_at m)) w.version page
  tagged_there page is =
      let test = is_writable_at (page_state k.rooms.pages page) in
      let below = ltb-true page PAGES (and_left (nat_lt page PAGES) test is) in
      let stage = writable_copy (stage_of k.rooms.pages page) (stages_are page below)
      (and_right (nat_lt page PAGES) test is) in
      let has = has_content page below (λ fresh. (let both = sym fresh ∙ stage in cc)) in
      let saved : is_content h.saved.objects page ≡ true =
      sym (content_saved k accepted m w h off stages_are page) ∙ has in
      let some = some_words (h.saved.pages page) (h.are.pages.each page below ∙ saved) in
      let slot = tagged page Copy Nothing below stage some in (
        there page has,
        record {
          content = record {
            parts = h.saved;
            stand = stand;
            used = h.are.used_objects;
            none = h.are.none;
            content = saved;
          };
          slot = slot.0;
          tagged = slot.1;
        },
      )

  -- other parts of the same words have the same objects
  same_objects : (page : ℕ) (q : HaveContent (durable_of (word_at m)) w.version page) (id : ℕ) → id < OBJECTS
      → q.parts.objects id ≡ h.saved.objects id
  same_objects page q id below =
      same_option (q.parts.objects id) (h.saved.objects id)
      (sym (q.used id below)
      ∙ (numbers q.parts q.stand (index_of (Object id)) (omega (arith, below)) ∙ h.are.used_objects id below))
      (λ x y there_x there_y. objects q.parts q.stand id x y below there_x there_y)

  content_of_tagged : (page : ℕ) → IsTagged (durable_of (word_at m)) w.version page
      → is_content (record_at o) page ≡ true
  content_of_tagged page is =
      content_saved k accepted m w h off stages_are page
      ∙ (sym (same_content is.content.parts.objects h.saved.objects (same_objects page is.content) page)
      ∙ is.content.content)

  apart : AreApart (state_of o h.rest)
  apart = subst AreApart h.holds.now h.holds.sound.apart.0

  writable_there : (page : ℕ) → IsTagged (durable_of (word_at m)) w.version page → writable_by k page ≡ true
  writable_there page is =
      let has = content_of_tagged page is in
      let below = content_inside o h.rest page apart has in
      and_both (nat_lt page PAGES) (is_writable_at (page_state k.rooms.pages page)) (lt-ltb page PAGES below)
      (writable_else (stage_of k.rooms.pages page) (stages_are page below)
      (λ fresh. (let none = (h.fresh page below).0 fresh in let both : true ≡ false = sym has ∙ none in cc))
      (λ protected. (untagged page below protected is.slot).1 is.tagged))

  pub renewed : (page : ℕ) → (writable_by k page ≡ true)
      ↔ ((has_page w.now page ≡ true) × IsTagged (durable_of (word_at m)) w.version page)
  renewed page = (λ is. tagged_there page is, λ both. writable_there page both.1)
