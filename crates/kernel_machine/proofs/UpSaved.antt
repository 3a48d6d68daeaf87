-- Where nothing was stored since the saved version, running objects have their saved records.
use Rattle.std.specs.Prelude.{◌≡◌, ℕ, suc, ◌<◌, ◌==◌, ◌&&◌, ◌||◌, nat_lt, Bool, true, false, List, [], ◌∷◌, map, All, Option, IfSome}
use Rattle.std.specs.List.{list_any}
use Rattle.std.proofs.Common.{refl, ap, sym, subst, ◌∙◌, arith}
use Rattle.std.proofs.Math.Bool.{or-false}
use Rattle.sls_base.specs.declared.limits.TheConstants.{OBJECTS, OUTPUT_CHANNELS, PAGES}
use Rattle.sls_base.specs.declared.thread.Ring.{Ring}
use Rattle.sls_base.proofs.ListTests.{any_in, any_same, in_any}
use Rattle.link_lists.specs.Lists.{list_at}
use Rattle.mem_space.specs.declared.memory.MemPage.{MemPage}
use Rattle.pmem_model.specs.Memory.{Memory, word_at}
use Rattle.plain_state.specs.Worlds.{World, has_page}
use Rattle.plain_model.specs.Objects.{every_object, page_numbers}
use Rattle.plain_model.specs.Play.{cut}
use Rattle.plain_laws.proofs.Reaches.{object_below}
use Rattle.kobj_codec.specs.declared.obj.Obj.{Obj}
use Rattle.kobj_codec.specs.Objects.{IsObj, IsPage}
use Rattle.kobj_table.specs.declared.slot.Slot.{Slot}
use Rattle.kobj_table.specs.declared.objects.Objects.{Objects}
use Rattle.kobj_table.specs.Objects.{Rest, slot_at, state_of}
use Rattle.object_records.specs.Records.{record_at, record_of}
use Rattle.object_records.specs.Pages.{has_content_in, is_content}
use Rattle.page_store.specs.Stages.{stage_of, IsAsRecovered}
use Rattle.version_rooms.specs.declared.rooms.Rooms.{Rooms}
use Rattle.leader_helper.proofs.Contents.{content_on_own}
use Rattle.core_turns.specs.declared.running.Running.{Running}
use Rattle.core_turns.specs.Marks.{page_again, record_again, ring_again, slot_again, was_fresh}
use Rattle.core_turns.specs.Runs.{Runs, objects_of}
use Rattle.core_turns.proofs.Recovered.{not_zeroed, saved_in_range}

-- A page on which an object has content is one of its state.
pub content_there : (o : Objects) (rest : Rest) (page : ℕ) → is_content (record_at o) page ≡ true
    → has_page (state_of o rest) page ≡ true
unfolding is_content has_page state_of
content_there o rest page is =
    let found = in_any (λ i. has_content_in (record_at o i) page) every_object is in
    let i = found.0 in
    any_in (λ j. list_any (λ number. number == page) (page_numbers ((state_of o rest).objects j))) every_object i
    found.1 (content_on_own rest.content (slot_at o i) (list_at o.links i) (list_at o.links i) page found.2)

-- Records that are the same below the last number have content on the same pages.
pub same_content : (a b : ℕ → Option Obj) → ((i : ℕ) → i < OBJECTS → a i ≡ b i) → (page : ℕ)
    → is_content a page ≡ is_content b page
unfolding is_content
same_content a b same page =
    any_same (λ i. has_content_in (a i) page) (λ i. has_content_in (b i) page) every_object
    (λ i inside. ap (λ (told : Option Obj). has_content_in told page) (same i (object_below i inside)))

-- Where no page was zeroed slots are as they were.
module _ (r : Rooms) (stages : (page : ℕ) → page < PAGES → IsAsRecovered (stage_of r.pages page)) where
  none_zeroed : (page : ℕ) → page < PAGES → was_fresh r page ≡ false
  none_zeroed page below = not_zeroed (stage_of r.pages page) (stages page below)

  page_back : (p : MemPage) → p.page < PAGES → page_again r p ≡ p
  page_back p below =
      ap (λ (fresh : Bool). record { page = p.page; fresh = fresh })
      (ap (λ (b : Bool). p.fresh || b) (none_zeroed p.page below) ∙ or-false p.fresh)

  pages_back : (pages : List MemPage) → All IsPage (map (page_again r) pages) → map (page_again r) pages ≡ pages
  pages_back [] all = refl
  pages_back (p ∷ pages) all =
      let first : page_again r p ≡ p = page_back p (all 0 (page_again r p) (omega arith)) in
      let rest : map (page_again r) pages ≡ pages =
      pages_back pages (λ k d below. all (suc k) d (omega (arith, below))) in
      ap (λ (x : MemPage). x ∷ map (page_again r) pages) first ∙ ap (λ (l : List MemPage). p ∷ l) rest

  ring_back : (ring : Ring) → ring.page < PAGES → ring_again r ring ≡ ring
  ring_back ring below =
      ap (λ (fresh : Bool). record { channel = ring.channel; fresh = fresh; count = ring.count; page = ring.page })
      (ap (λ (b : Bool). ring.fresh || b && nat_lt ring.channel OUTPUT_CHANNELS) (none_zeroed ring.page below)
      ∙ or-false ring.fresh)

  slot_back : (slot : Slot) (threads : List ℕ) → IfSome (record_of (slot_again r slot) threads) IsObj
      → slot_again r slot ≡ slot
  slot_back (Slot.Memory memory) threads is =
      ap (λ (items : List MemPage). Slot.Memory (record { pages = record { items = items } }))
      (pages_back memory.pages.items is.pages)
  slot_back (Slot.Ring ring) threads is = ap Slot.Ring (ring_back ring is.page)
  slot_back Slot.Empty threads is = refl
  slot_back (Slot.Group group) threads is = refl
  slot_back (Slot.Thread thread) threads is = refl
  slot_back (Slot.Space space) threads is = refl
  slot_back (Slot.Connection connection) threads is = refl
  slot_back (Slot.Notification note) threads is = refl
  slot_back (Slot.Scheduler cores) threads is = refl

module _ (k : Running) (accepted : List ℕ) (m : Memory) (w : World) (h : Runs k accepted m w) (off : cut w ≡ w)
    (stages : (page : ℕ) → page < PAGES → IsAsRecovered (stage_of k.rooms.pages page)) where
  abbrev o : Objects
  o = objects_of k

  record_saved : (i : ℕ) → i < OBJECTS → record_at o i ≡ h.saved.objects i
  record_saved i below =
      let again = h.unchanged i below (sym (ap (λ (x : World). x.changed i) off)) in
      let in_range = saved_in_range k.rooms (word_at m) w.version h.saved h.pages h.at_rest h.are.none i in
      let here : IfSome (record_again k.rooms o i) IsObj =
      subst (λ (told : Option Obj). IfSome told IsObj) (sym again) in_range in
      ap (λ (slot : Slot). record_of slot (list_at o.links i))
      (sym (slot_back k.rooms stages (slot_at o i) (list_at o.links i) here))
      ∙ again

  pub content_saved : (page : ℕ) → is_content (record_at o) page ≡ is_content h.saved.objects page
  content_saved page = same_content (record_at o) h.saved.objects record_saved page
