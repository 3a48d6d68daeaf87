-- Pages whose content is no part of the state.
use Rattle.std.specs.Prelude.{◌≡◌, ◌≢◌, ℕ, zero, suc, ◌<◌, Bool, true, false, List, [], ◌∷◌, map, length, Contains, Option, Some, slice_get, slice_index_or}
use Rattle.std.proofs.Common.{refl, ap, subst, ◌∙◌, arith}
use Rattle.std.proofs.lemmas.Bool.{ne_eqb}
use Rattle.std.proofs.lemmas.Option.{slice_get_within, get_or_from_slice_get}
use mathlib.Core.Path.{fun_ext}
use Rattle.mem_space.specs.declared.memory.MemPage.{MemPage}
use Rattle.plain_state.specs.Memory.{place_in}
use Rattle.plain_state.specs.Objects.{Memory, Object, OutputRing, Page, page_numbers, page_of_channel}
use Rattle.kobj_table.specs.declared.objects.Objects.{Objects}
use Rattle.kobj_table.specs.declared.slot.Slot.{Slot}
use Rattle.kobj_table.specs.Slots.{memory_in, object_of, page_of}
use Rattle.kobj_table.specs.Objects.{slot_at, object_at, Rest, state_of}
use Rattle.plain_laws.specs.Sound.{AreApart}
use Rattle.link_lists.specs.Lists.{list_at}
use Rattle.page_bytes.specs.Bytes.{IsSameOnPages, SeesPage, with_bytes}
use Rattle.page_bytes.proofs.Contents.{no_mem}
use Rattle.page_bytes.proofs.Seen.{stands_at}
use Rattle.page_bytes.proofs.Stores.{length_numbers, number_at}

-- the pages of a list
abbrev Alike : (ℕ → ℕ → ℕ) → (ℕ → ℕ → ℕ) → List MemPage → Type 0
Alike first second pages = (page : MemPage) (offset : ℕ) → Contains pages page → page.fresh ≡ false → first page.page offset ≡ second page.page offset

page_alike : (first second : ℕ → ℕ → ℕ) (number : ℕ) (fresh : Bool) → (fresh ≡ false → (offset : ℕ) → first number offset ≡ second number offset)
    → page_of first (record { page = number; fresh = fresh }) ≡ page_of second (record { page = number; fresh = fresh })
page_alike first second number true same = refl
page_alike first second number false same = ap (λ (f : ℕ → ℕ). record { number = number; byte = f }) (fun_ext (λ offset. same refl offset))

pages_alike : (first second : ℕ → ℕ → ℕ) (pages : List MemPage) → Alike first second pages → map (page_of first) pages ≡ map (page_of second) pages
pages_alike first second [] same = refl
pages_alike first second (p ∷ pages) same =
    let head = page_alike first second p.page p.fresh (λ stored offset. same p offset (0, omega arith, refl) stored) in
    let tail = pages_alike first second pages (λ page offset has stored. same page offset (suc has.0, omega (arith, has.1), has.2) stored) in
    rw head (rw tail refl)

object_alike : (first second : ℕ → ℕ → ℕ) (slot : Slot) (listed : List ℕ) → Alike first second (memory_in slot).pages.items
    → object_of first slot listed ≡ object_of second slot listed
object_alike first second Slot.Empty listed same = refl
object_alike first second (Slot.Group g) listed same = refl
object_alike first second (Slot.Thread t) listed same = refl
object_alike first second (Slot.Space s) listed same = refl
object_alike first second (Slot.Memory m) listed same = ap (λ (ps : List Page). Some (Memory ps)) (pages_alike first second m.pages.items same)
object_alike first second (Slot.Connection c) listed same = refl
object_alike first second (Slot.Notification n) listed same = refl
object_alike first second (Slot.Ring r) listed same = refl
object_alike first second (Slot.Scheduler c) listed same = refl

pub objects_alike : (o : Objects) (first second : ℕ → ℕ → ℕ) → IsSameOnPages o first second → object_at first o ≡ object_at second o
objects_alike o first second same = fun_ext (λ i. object_alike first second (slot_at o i) (list_at o.links i) (λ page offset has stored. same i page offset has stored))

-- The page of an output ring, where each page is of one object alone.

any_default : (pages : List MemPage) (k : ℕ) (d e : MemPage) → k < length pages → slice_index_or pages k d ≡ slice_index_or pages k e
any_default [] k d e inside = absurd (omega (arith, inside))
any_default (p ∷ pages) zero d e inside = refl
any_default (p ∷ pages) (suc k) d e inside = any_default pages k d e (omega (arith, inside))

has_number : (content : ℕ → ℕ → ℕ) (slot : Slot) (listed : List ℕ) (page : MemPage) → Contains (memory_in slot).pages.items page
    → Contains (page_numbers (object_of content slot listed)) page.page
has_number content Slot.Empty listed page has = absurd (omega (arith, has.1))
has_number content (Slot.Group g) listed page has = absurd (omega (arith, has.1))
has_number content (Slot.Thread t) listed page has = absurd (omega (arith, has.1))
has_number content (Slot.Space s) listed page has = absurd (omega (arith, has.1))
has_number content (Slot.Memory m) listed page has =
    let pages = m.pages.items in
    let k = has.0 in (
      k,
      rw (length_numbers content pages) has.1,
      number_at content pages k page.page has.1 ∙ ap (λ (p : MemPage). p.page) (any_default pages k no_mem page has.1 ∙ has.2),
    )
has_number content (Slot.Connection c) listed page has = absurd (omega (arith, has.1))
has_number content (Slot.Notification n) listed page has = absurd (omega (arith, has.1))
has_number content (Slot.Ring r) listed page has = absurd (omega (arith, has.1))
has_number content (Slot.Scheduler c) listed page has = absurd (omega (arith, has.1))

no_ring : (content : ℕ → ℕ → ℕ) (slot : Slot) (listed : List ℕ) (page : MemPage) (channel : ℕ) → Contains (memory_in slot).pages.items page
    → object_of content slot listed ≢ Some (OutputRing channel)
no_ring content Slot.Empty listed page channel has e = absurd (omega (arith, has.1))
no_ring content (Slot.Group g) listed page channel has e = absurd (omega (arith, has.1))
no_ring content (Slot.Thread t) listed page channel has e = absurd (omega (arith, has.1))
no_ring content (Slot.Space s) listed page channel has e = absurd (omega (arith, has.1))
no_ring content (Slot.Memory m) listed page channel has e = absurd (cc)
no_ring content (Slot.Connection c) listed page channel has e = absurd (omega (arith, has.1))
no_ring content (Slot.Notification n) listed page channel has e = absurd (omega (arith, has.1))
no_ring content (Slot.Ring r) listed page channel has e = absurd (omega (arith, has.1))
no_ring content (Slot.Scheduler c) listed page channel has e = absurd (omega (arith, has.1))

ring_has : (object : Option Object) (channel : ℕ) → object ≡ Some (OutputRing channel) → Contains (page_numbers object) (page_of_channel channel)
ring_has object channel is = rw is (0, omega arith, refl)

-- no page of a memory object is that of a ring
pub ring_apart : (o : Objects) (rest : Rest) (i id channel : ℕ) (page : MemPage) → AreApart (state_of o rest) → object_at rest.content o id ≡ Some (OutputRing channel)
    → Contains (memory_in (slot_at o i)).pages.items page → page.page ≢ page_of_channel channel
unfolding state_of
ring_apart o rest i id channel page apart ring has same =
    let own : Contains (page_numbers (object_at rest.content o i)) page.page = has_number rest.content (slot_at o i) (list_at o.links i) page has in
    let here : Contains (page_numbers (object_at rest.content o i)) (page_of_channel channel) = subst (λ (n : ℕ). Contains (page_numbers (object_at rest.content o i)) n) same own in
    let id_is : i ≡ id = apart.apart i id (page_of_channel channel) here (ring_has (object_at rest.content o id) channel ring) in
    no_ring rest.content (slot_at o i) (list_at o.links i) page channel has (ap (λ (j : ℕ). object_at rest.content o j) id_is ∙ ring)

pub ring_page_alike : (o : Objects) (rest : Rest) (id channel at : ℕ) (bytes : List ℕ) → AreApart (state_of o rest) → object_at rest.content o id ≡ Some (OutputRing channel)
    → IsSameOnPages o (with_bytes rest.content (page_of_channel channel) at bytes) rest.content
ring_page_alike o rest id channel at bytes apart ring i page offset has stored =
    rw (ne_eqb page.page (page_of_channel channel) (ring_apart o rest i id channel page apart ring has)) refl

found_in : (pages : List MemPage) (k : ℕ) (page : MemPage) → slice_get pages k ≡ Some page → Contains pages page
found_in pages k page there = (k, slice_get_within pages k page there, get_or_from_slice_get pages k page _ there)

-- the page that a space shows, where something was stored to it, is such a page
pub ring_unshown : (o : Objects) (rest : Rest) (space right at id channel : ℕ) (page : MemPage) → AreApart (state_of o rest) → SeesPage o space right at page → page.fresh ≡ false
    → object_at rest.content o id ≡ Some (OutputRing channel) → page.page ≢ page_of_channel channel
ring_unshown o rest space right at id channel page apart sees stored ring =
    let s = stands_at o rest.content space right at page sees stored in
    let place = place_in at s.region in
    ring_apart o rest place.memory id channel page apart ring (found_in (memory_in (slot_at o place.memory)).pages.items place.page page s.stands.there)
