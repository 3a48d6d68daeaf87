-- A page that a space has at an address, whatever the content of pages is.
use Rattle.std.specs.Prelude.{◌≡◌, ◌≢◌, ℕ, zero, suc, ◌<◌, ◌==◌, Bool, true, false, if◌then◌else◌, List, [], ◌∷◌, find, map, Option, Some, None, option_map, slice_get, slice_index_or}
use Rattle.std.proofs.Common.{refl, ap, sym, ◌∙◌, arith}
use Rattle.sls_base.specs.declared.limits.TheConstants.{OUTPUT_CHANNELS, PAGES}
use Rattle.mem_space.specs.declared.memory.MemPage.{MemPage}
use Rattle.plain_state.specs.declared.objects.Region.{Region}
use Rattle.plain_state.specs.declared.effect.Place.{Place}
use Rattle.plain_state.specs.Objects.{InputRing, OutputRing, Page, pages_of, regions_of}
use Rattle.plain_state.specs.Memory.{covers, no_page, page_at, place_in, place_of}
use Rattle.plain_laws.specs.Sound.{AreApart}
use Rattle.kobj_table.specs.declared.objects.Objects.{Objects}
use Rattle.kobj_table.specs.declared.slot.Slot.{Slot}
use Rattle.kobj_table.specs.Slots.{memory_in, object_of, page_of, bytes_of}
use Rattle.kobj_table.specs.Objects.{slot_at, object_at, Rest, state_of}
use Rattle.link_lists.specs.Lists.{list_at}
use Rattle.page_bytes.specs.Bytes.{IsStoredAt, SeesPage}
use Rattle.page_bytes.proofs.Stores.{has_page, on_page}

-- a content in which each page has ones
ones : ℕ → ℕ → ℕ
ones page offset = 1

-- a page that isn't fresh has one of them
has_one : (page : MemPage) → page.fresh ≡ false → bytes_of ones page.page page.fresh 0 ≡ 1
unfolding ones
has_one page stored = rw stored refl

not_zero : (page : MemPage) (q : Page) → page.fresh ≡ false → q ≡ page_of ones page → q.byte 0 ≢ 0
not_zero page q stored is none =
    let byte : q.byte 0 ≡ 1 = ap (λ (p : Page). p.byte 0) is ∙ has_one page stored in
    absurd (omega (arith, byte, none))

fresh_alike : (fresh : Bool) (number : ℕ) (page : MemPage) → page.fresh ≡ false → page_of ones (record { page = number; fresh = fresh }) ≡ page_of ones page → fresh ≡ false
fresh_alike false number page stored is = refl
fresh_alike true number page stored is = absurd (not_zero page _ stored is refl)

-- the page that it is
one_page : (p page : MemPage) → page.fresh ≡ false → page_of ones p ≡ page_of ones page → p ≡ page
one_page p page stored is =
    let number : p.page ≡ page.page = ap (λ (q : Page). q.number) is in
    let fresh : p.fresh ≡ page.fresh = fresh_alike p.fresh p.page page stored is ∙ sym stored in
    ap (λ (n : ℕ). record { page = n; fresh = p.fresh }) number ∙ ap (λ (f : Bool). record { page = page.page; fresh = f }) fresh

found_in : (pages : List MemPage) (k : ℕ) (page : MemPage) → page.fresh ≡ false
    → slice_index_or (map (page_of ones) pages) k no_page ≡ page_of ones page → slice_get pages k ≡ Some page
found_in [] k page stored is = absurd (not_zero page no_page stored is refl)
found_in (p ∷ pages) zero page stored is = ap (λ (q : MemPage). Some q) (one_page p page stored is)
found_in (p ∷ pages) (suc k) page stored is = found_in pages k page stored is

ring_pages : (input : Bool) (channel : ℕ) → pages_of (Some (if input then InputRing else OutputRing channel)) ≡ []
ring_pages true channel = refl
ring_pages false channel = refl

in_slot : (slot : Slot) (listed : List ℕ) (k : ℕ) (page : MemPage) → page.fresh ≡ false
    → slice_index_or (pages_of (object_of ones slot listed)) k no_page ≡ page_of ones page → slice_get (memory_in slot).pages.items k ≡ Some page
in_slot Slot.Empty listed k page stored is = absurd (not_zero page no_page stored is refl)
in_slot (Slot.Group g) listed k page stored is = absurd (not_zero page no_page stored is refl)
in_slot (Slot.Thread t) listed k page stored is = absurd (not_zero page no_page stored is refl)
in_slot (Slot.Space s) listed k page stored is = absurd (not_zero page no_page stored is refl)
in_slot (Slot.Memory m) listed k page stored is = found_in m.pages.items k page stored is
in_slot (Slot.Connection c) listed k page stored is = absurd (not_zero page no_page stored is refl)
in_slot (Slot.Notification n) listed k page stored is = absurd (not_zero page no_page stored is refl)
in_slot (Slot.Ring r) listed k page stored is =
    let none = ring_pages (r.channel == OUTPUT_CHANNELS) r.channel in
    absurd (not_zero page no_page stored (sym (ap (λ (pages : List Page). slice_index_or pages k no_page) none) ∙ is) refl)
in_slot (Slot.Scheduler c) listed k page stored is = absurd (not_zero page no_page stored is refl)

-- The regions of a space don't hang on the content of pages.

regions_alike : (first second : ℕ → ℕ → ℕ) (slot : Slot) (listed : List ℕ) → regions_of (object_of first slot listed) ≡ regions_of (object_of second slot listed)
regions_alike first second Slot.Empty listed = refl
regions_alike first second (Slot.Group g) listed = refl
regions_alike first second (Slot.Thread t) listed = refl
regions_alike first second (Slot.Space s) listed = refl
regions_alike first second (Slot.Memory m) listed = refl
regions_alike first second (Slot.Connection c) listed = refl
regions_alike first second (Slot.Notification n) listed = refl
regions_alike first second (Slot.Ring r) listed = refl
regions_alike first second (Slot.Scheduler c) listed = refl

-- Where it stands.
pub record StandsAt (o : Objects) (content : ℕ → ℕ → ℕ) (space right at : ℕ) (page : MemPage) : Type 0 where
  pub region : Region
  pub found : find (covers right at) (regions_of (object_at content o space)) ≡ Some region
  pub stands : IsStoredAt o (place_in at region) page

stands_in : (o : Objects) (content : ℕ → ℕ → ℕ) (space right at : ℕ) (page : MemPage) → page.fresh ≡ false
    → (found : Option Region) → find (covers right at) (regions_of (object_at content o space)) ≡ found
    → Some (page_of ones page) ≡ option_map (page_at (object_at ones o)) (option_map (place_in at) found) → StandsAt o content space right at page
stands_in o content space right at page stored None f seen = absurd (cc)
stands_in o content space right at page stored (Some region) f seen =
    let is : page_of ones page ≡ page_at (object_at ones o) (place_in at region) = cc in
    let there = in_slot (slot_at o region.memory) (list_at o.links region.memory) (place_in at region).page page stored (sym is) in
    record { region = region; found = f; stands = record { there = there; stored = stored } }

pub stands_at : (o : Objects) (content : ℕ → ℕ → ℕ) (space right at : ℕ) (page : MemPage) → SeesPage o space right at page → page.fresh ≡ false
    → StandsAt o content space right at page
stands_at o content space right at page sees stored =
    stands_in o content space right at page stored (find (covers right at) (regions_of (object_at content o space))) refl
    (sees ones ∙ ap (λ (r : List Region). option_map (page_at (object_at ones o)) (place_of r right at))
    (regions_alike ones content (slot_at o space) (list_at o.links space)))

-- the number of a page that stands somewhere is one that there is
pub in_range : (o : Objects) (rest : Rest) (place : Place) (page : MemPage) → AreApart (state_of o rest) → IsStoredAt o place page → page.page < PAGES
in_range o rest place page apart stands =
    let at = on_page o rest apart place page stands in
    apart.in_range place.memory page.page (has_page o rest apart place.memory at.pages place.page page.page at.there at.within at.number)
