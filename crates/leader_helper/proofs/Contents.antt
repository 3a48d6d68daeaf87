-- On which pages records have content after a sweep.
use Rattle.std.specs.Prelude.{◌≡◌, ℕ, ◌+◌, ◌-◌, ◌<◌, ◌≤◌, ◌==◌, ◌&&◌, ◌||◌, not, nat_lt, Bool, true, false, if◌then◌else◌, List, [], ◌∷◌, map, Contains, Option, Some, None, option_map}
use Rattle.std.specs.List.{list_any}
use Rattle.std.proofs.Common.{refl, ap, sym, ◌∙◌, subst, arith, inl, inr}
use Rattle.std.proofs.lemmas.Bool.{cases_eq, cases_lt, cases_Bool, eq-eqb, ne_eqb, eqb-true, lt-ltb, le-ltb}
use Rattle.std.proofs.lemmas.List.Elements.{Contains-append_right}
use Rattle.sls_base.specs.declared.limits.TheConstants.{OUTPUT_CHANNELS, PAGES}
use Rattle.sls_base.specs.declared.fixed.TheConstants.{SCHEDULER, ROOT_GROUP, FIRST_OUTPUT_RING, INPUT_RING, FIRST_PROGRAM_OBJECT}
use Rattle.sls_base.specs.declared.thread.Ring.{Ring}
use Rattle.sls_base.proofs.ListTests.{any_in, in_any, or_left, or_right, or_cases, and_left, and_right}
use Rattle.link_lists.specs.Lists.{list_at}
use Rattle.mem_space.specs.declared.memory.MemPage.{MemPage}
use Rattle.plain_state.specs.declared.objects.Kind.TheVariants.{GroupKind}
use Rattle.plain_model.specs.Objects as plain
use Rattle.plain_model.specs.Objects.{Object, Page, every_object, page_numbers, is_kind}
use Rattle.plain_model.specs.States.{State}
use Rattle.plain_model.specs.Worlds.{has_page}
use Rattle.plain_model.specs.Sweep.{is_reached, settled, swept}
use Rattle.plain_laws.specs.Fixed.{HasFixedObjects, is_single}
use Rattle.plain_laws.specs.Sound.{AreApart}
use Rattle.kobj_table.specs.declared.slot.Slot.{Slot}
use Rattle.kobj_table.specs.declared.objects.Objects.{Objects}
use Rattle.kobj_table.specs.Objects.{Rest, slot_at, state_of}
use Rattle.kobj_table.specs.Slots.{object_of, page_of, ring_of}
use Rattle.object_records.specs.Records.{record_of, record_at}
use Rattle.object_records.specs.Pages.{has_content_in, is_content}
use Rattle.object_records.specs.Ranges.{HasFixedSlots}
use Rattle.tree_walk.specs.Sweep.{left_in, left_at}
use Rattle.leader_helper.specs.Sweep.{freshened, page_freshened, ring_freshened}
use Rattle.leader_helper.proofs.Freshens.{and_none}

-- Tests.

pub same_by : (a b : Bool) → (a ≡ true → b ≡ true) → (b ≡ true → a ≡ true) → a ≡ b
same_by true b f g = sym (f refl)
same_by false true f g = g refl
same_by false false f g = refl

pub three : (a b c : Bool) → (a && b && c) ≡ true → (a ≡ true) × (b ≡ true) × (c ≡ true)
three true true true e = (refl, refl, refl)
three true true false e = absurd (cc)
three true false c e = absurd (cc)
three false b c e = absurd (cc)

pub of_three : (a b c : Bool) → a ≡ true → b ≡ true → c ≡ true → (a && b && c) ≡ true
of_three a b c e f g = rw (e, f, g) refl

none_of_either : (a b : Bool) → not (a || b) ≡ (not a && not b)
none_of_either true b = refl
none_of_either false b = refl

each_with : (a b c : Bool) → ((a && c) || (b && c)) ≡ ((a || b) && c)
each_with true true true = refl
each_with true true false = refl
each_with true false true = refl
each_with true false false = refl
each_with false b c = refl

swap_last : (a b c : Bool) → ((a && b) && c) ≡ ((a && c) && b)
swap_last true true true = refl
swap_last true true false = refl
swap_last true false true = refl
swap_last true false false = refl
swap_last false b c = refl

-- What stands in a slot, where pages are marked as fresh.

has_it : ℕ → MemPage → Bool
has_it page p = (p.page == page) && not p.fresh

page_content : (these : ℕ → Bool) (page : ℕ) (p : MemPage) → has_it page (page_freshened these p) ≡ (has_it page p && not (these page))
unfolding has_it
page_content these page p = elim (cases_eq p.page page) [
  | inl here ↦
      let is : (p.page == page) ≡ true = eq-eqb p.page page here in
      let same : these p.page ≡ these page = ap these here in
      rw (is, same) (none_of_either p.fresh (these page))
  | inr other ↦ (let isnt : (p.page == page) ≡ false = ne_eqb p.page page other in rw isnt refl)
]

pages_content : (these : ℕ → Bool) (page : ℕ) (items : List MemPage) → list_any (has_it page) (map (page_freshened these) items) ≡ (list_any (has_it page) items && not (these page))
pages_content these page [] = refl
pages_content these page (p ∷ items) =
    ap (λ (b : Bool). b || list_any (has_it page) (map (page_freshened these) items)) (page_content these page p)
    ∙ ap (λ (b : Bool). (has_it page p && not (these page)) || b) (pages_content these page items)
    ∙ each_with (has_it page p) (list_any (has_it page) items) (not (these page))

-- a ring is of a channel that there is, and an output ring has the page of its channel
abbrev pub IsRingInPlace : Slot → Type 0
IsRingInPlace (Slot.Ring ring) = (ring.channel ≤ OUTPUT_CHANNELS) × (ring.channel < OUTPUT_CHANNELS → ring.page ≡ ring.channel)
IsRingInPlace slot = Unit {0}

-- a channel has a page
channel_has : ℕ → ℕ → Bool
channel_has page channel = list_any (λ number. number == page) (page_numbers (Some (ring_of channel)))

input_has_none : (page channel : ℕ) → channel ≡ OUTPUT_CHANNELS → channel_has page channel ≡ false
unfolding channel_has
input_has_none page channel is = rw is refl

output_has : (page channel : ℕ) → channel < OUTPUT_CHANNELS → channel_has page channel ≡ (channel == page)
unfolding channel_has
output_has page channel lt =
    let isnt : (channel == OUTPUT_CHANNELS) ≡ false = ne_eqb channel OUTPUT_CHANNELS (λ e. absurd (omega arith)) in
    rw isnt (or_off (channel == page))
  where
    or_off : (b : Bool) → (b || false) ≡ b
    or_off true = refl
    or_off false = refl

ring_content : (these : ℕ → Bool) (page : ℕ) (ring : Ring) → IsRingInPlace (Slot.Ring ring)
    → (not (ring_freshened these ring).fresh && channel_has page (ring_freshened these ring).channel) ≡ ((not ring.fresh && channel_has page ring.channel) && not (these page))
ring_content these page ring place = elim (cases_lt ring.channel OUTPUT_CHANNELS) [
  | inl lt ↦
      let output : nat_lt ring.channel OUTPUT_CHANNELS ≡ true = lt-ltb ring.channel OUTPUT_CHANNELS lt in
      let has = output_has page ring.channel lt in
      elim (cases_eq ring.channel page) [
        | inl here ↦
            let is : (ring.channel == page) ≡ true = eq-eqb ring.channel page here in
            let same : these ring.page ≡ these page = ap these (place.1 lt ∙ here) in
            rw (output, has, is, same) (by_all ring.fresh (these page))
        | inr other ↦
            let isnt : (ring.channel == page) ≡ false = ne_eqb ring.channel page other in
            rw (output, has, isnt) (by_none (not (ring.fresh || these ring.page)) (not ring.fresh) (not (these page)))
      ]
  | inr ge ↦
      let input : nat_lt ring.channel OUTPUT_CHANNELS ≡ false = le-ltb ring.channel OUTPUT_CHANNELS ge in
      let has = input_has_none page ring.channel (omega (arith, place.0)) in
      rw (input, has) (by_none (not ring.fresh) (not ring.fresh) (not (these page)))
]
  where
    by_all : (f t : Bool) → (not (f || t) && true) ≡ ((not f && true) && not t)
    by_all true t = refl
    by_all false true = refl
    by_all false false = refl

    by_none : (a b c : Bool) → (a && false) ≡ ((b && false) && c)
    by_none a b c = and_none a ∙ sym (ap (λ (x : Bool). x && c) (and_none b))

slot_content : (these : ℕ → Bool) (slot : Slot) (threads : List ℕ) (page : ℕ) → IsRingInPlace slot
    → has_content_in (record_of (freshened these slot) threads) page ≡ (has_content_in (record_of slot threads) page && not (these page))
unfolding has_it channel_has
slot_content these Slot.Empty threads page place = refl
slot_content these (Slot.Group group) threads page place = refl
slot_content these (Slot.Thread thread) threads page place = refl
slot_content these (Slot.Space space) threads page place = refl
slot_content these (Slot.Memory memory) threads page place = pages_content these page memory.pages.items
slot_content these (Slot.Connection c) threads page place = refl
slot_content these (Slot.Notification note) threads page place = refl
slot_content these (Slot.Ring ring) threads page place = ring_content these page ring place
slot_content these (Slot.Scheduler cores) threads page place = refl

-- The sweep leaves content where it leaves the object.

left_content : (s : State) (i : ℕ) (slot : Slot) (a b : List ℕ) (page : ℕ) → has_content_in (record_of (left_in s i slot) a) page ≡ has_content_in (record_of slot b) page
left_content s i Slot.Empty a b page = refl
left_content s i (Slot.Group group) a b page = refl
left_content s i (Slot.Thread thread) a b page = refl
left_content s i (Slot.Space space) a b page = refl
left_content s i (Slot.Memory memory) a b page = refl
left_content s i (Slot.Connection c) a b page = refl
left_content s i (Slot.Notification note) a b page = refl
left_content s i (Slot.Ring ring) a b page = refl
left_content s i (Slot.Scheduler cores) a b page = refl

left_place : (s : State) (i : ℕ) (slot : Slot) → IsRingInPlace slot → IsRingInPlace (left_in s i slot)
left_place s i Slot.Empty place = tt
left_place s i (Slot.Group group) place = tt
left_place s i (Slot.Thread thread) place = tt
left_place s i (Slot.Space space) place = tt
left_place s i (Slot.Memory memory) place = tt
left_place s i (Slot.Connection c) place = tt
left_place s i (Slot.Notification note) place = tt
left_place s i (Slot.Ring ring) place = place
left_place s i (Slot.Scheduler cores) place = tt

content_at : (o n : Objects) (s : State) (these : ℕ → Bool) (i page : ℕ) → slot_at n i ≡ freshened these (left_at s o i) → IsRingInPlace (slot_at o i)
    → has_content_in (record_at n i) page ≡ (is_reached s i && (has_content_in (record_at o i) page && not (these page)))
content_at o n s these i page slot place =
    let moved = ap (λ (x : Slot). has_content_in (record_of x (list_at n.links i)) page) slot in
    elim (cases_Bool (is_reached s i)) [
      | inl reached ↦
          moved
          ∙ rw reached (slot_content these (left_in s i (slot_at o i)) (list_at n.links i) page (left_place s i (slot_at o i) place)
          ∙ ap (λ (b : Bool). b && not (these page)) (left_content s i (slot_at o i) (list_at n.links i) (list_at o.links i) page))
      | inr gone ↦ moved ∙ rw gone refl
    ]

-- Content is on an object's own pages.

pages_of_content : (content : ℕ → ℕ → ℕ) (page : ℕ) (items : List MemPage) → list_any (has_it page) items ≡ true
    → list_any (λ number. number == page) (map (λ (p : Page). p.number) (map (page_of content) items)) ≡ true
unfolding has_it
pages_of_content content page [] is = absurd (cc)
pages_of_content content page (p ∷ items) is = elim (or_cases (has_it page p) (list_any (has_it page) items) is) [
  | inl here ↦ or_left (p.page == page) _ (and_left (p.page == page) (not p.fresh) here)
  | inr there ↦ or_right (p.page == page) _ (pages_of_content content page items there)
]

pub content_on_own : (content : ℕ → ℕ → ℕ) (slot : Slot) (threads a : List ℕ) (page : ℕ) → has_content_in (record_of slot threads) page ≡ true
    → list_any (λ number. number == page) (page_numbers (object_of content slot a)) ≡ true
unfolding has_it
content_on_own content Slot.Empty threads a page is = absurd (cc)
content_on_own content (Slot.Group group) threads a page is = absurd (cc)
content_on_own content (Slot.Thread thread) threads a page is = absurd (cc)
content_on_own content (Slot.Space space) threads a page is = absurd (cc)
content_on_own content (Slot.Memory memory) threads a page is = pages_of_content content page memory.pages.items is
content_on_own content (Slot.Connection c) threads a page is = absurd (cc)
content_on_own content (Slot.Notification note) threads a page is = absurd (cc)
content_on_own content (Slot.Ring ring) threads a page is = and_right (not ring.fresh) _ is
content_on_own content (Slot.Scheduler cores) threads a page is = absurd (cc)

settled_numbers : (s : State) (o : Option Object) → page_numbers (option_map (settled s) o) ≡ page_numbers o
settled_numbers s None = refl
settled_numbers s (Some (plain.Group slots)) = refl
settled_numbers s (Some (plain.Thread thread)) = refl
settled_numbers s (Some (plain.Space regions)) = refl
settled_numbers s (Some (plain.Memory pages)) = refl
settled_numbers s (Some (plain.Connection server client clients)) = refl
settled_numbers s (Some (plain.Notification count waiters)) = refl
settled_numbers s (Some (plain.OutputRing channel)) = refl
settled_numbers s (Some plain.InputRing) = refl
settled_numbers s (Some plain.Scheduler) = refl

abbrev on_numbers : ℕ → Option Object → Bool
on_numbers page o = list_any (λ number. number == page) (page_numbers o)

pub contains_number : (xs : List ℕ) (page : ℕ) → list_any (λ number. number == page) xs ≡ true → Contains xs page
contains_number [] page is = absurd (cc)
contains_number (x ∷ xs) page is = elim (or_cases (x == page) (list_any (λ number. number == page) xs) is) [
  | inl here ↦ (0, omega arith, eqb-true x page here)
  | inr there ↦ Contains-append_right (x ∷ []) xs page (contains_number xs page there)
]

swept_numbers : (s : State) (i page : ℕ) → on_numbers page ((swept s).objects i) ≡ (is_reached s i && on_numbers page (s.objects i))
swept_numbers s i page = elim (cases_Bool (is_reached s i)) [
  | inl reached ↦ rw reached (ap (list_any (λ number. number == page)) (settled_numbers s (s.objects i)))
  | inr gone ↦ rw gone refl
]

has_own_page : (o : Objects) (rest : Rest) (i page : ℕ) → has_content_in (record_at o i) page ≡ true → on_numbers page ((state_of o rest).objects i) ≡ true
unfolding state_of
has_own_page o rest i page is = content_on_own rest.content (slot_at o i) (list_at o.links i) (list_at o.links i) page is

-- Content is on a page that there is.
pub content_inside : (o : Objects) (rest : Rest) (page : ℕ) → AreApart (state_of o rest) → is_content (record_at o) page ≡ true → page < PAGES
unfolding is_content
content_inside o rest page apart is =
    let found = in_any (λ i. has_content_in (record_at o i) page) every_object is in
    apart.in_range found.0 page (contains_number (page_numbers ((state_of o rest).objects found.0)) page (has_own_page o rest found.0 page found.2))

-- What is left is content that an object has which is left, on a page that isn't marked.
pub content_left : (o n : Objects) (rest : Rest) (these : ℕ → Bool) (page : ℕ) → AreApart (state_of o rest) → ((i : ℕ) → IsRingInPlace (slot_at o i))
    → ((i : ℕ) → slot_at n i ≡ freshened these (left_at (state_of o rest) o i))
    → is_content (record_at n) page ≡ (is_content (record_at o) page && has_page (swept (state_of o rest)) page && not (these page))
unfolding is_content has_page
content_left o n rest these page apart places slots =
    let s = state_of o rest in
    let old = λ (i : ℕ). has_content_in (record_at o i) page in
    let at = λ (i : ℕ). content_at o n s these i page (slots i) (places i) in
    same_by _ _
    (λ is.
    let found = in_any (λ i. has_content_in (record_at n i) page) every_object is in
    let i = found.0 in
    let both : (is_reached s i && (old i && not (these page))) ≡ true = sym (at i) ∙ found.2 in
    let reached = and_left (is_reached s i) (old i && not (these page)) both in
    let rest_of = and_right (is_reached s i) (old i && not (these page)) both in
    let has = and_left (old i) (not (these page)) rest_of in
    let there : on_numbers page ((swept s).objects i) ≡ true = swept_numbers s i page ∙ rw (reached, has_own_page o rest i page has) refl in
    of_three _ _ _ (any_in old every_object i found.1 has) (any_in (λ j. on_numbers page ((swept s).objects j)) every_object i found.1 there)
    (and_right (old i) (not (these page)) rest_of))
    (λ is.
    let parts = three _ _ _ is in
    let found = in_any old every_object parts.0 in
    let left = in_any (λ j. on_numbers page ((swept s).objects j)) every_object parts.1 in
    let i = found.0 in
    let j = left.0 in
    let both : (is_reached s j && on_numbers page (s.objects j)) ≡ true = sym (swept_numbers s j page) ∙ left.2 in
    let mine = contains_number (page_numbers (s.objects i)) page (has_own_page o rest i page found.2) in
    let its = contains_number (page_numbers (s.objects j)) page (and_right (is_reached s j) (on_numbers page (s.objects j)) both) in
    let same : i ≡ j = apart.apart i j page mine its in
    let reached : is_reached s i ≡ true = ap (is_reached s) same ∙ and_left (is_reached s j) (on_numbers page (s.objects j)) both in
    any_in (λ k. has_content_in (record_at n k) page) every_object i found.1 (at i ∙ rw (reached, found.2, parts.2) refl))

-- Where the fixed objects stand in their slots, each ring is one of them.

no_ring : (content : ℕ → ℕ → ℕ) (slot : Slot) (threads : List ℕ) → is_single (object_of content slot threads) ≡ false → IsRingInPlace slot
no_ring content Slot.Empty threads none = tt
no_ring content (Slot.Group group) threads none = tt
no_ring content (Slot.Thread thread) threads none = tt
no_ring content (Slot.Space space) threads none = tt
no_ring content (Slot.Memory memory) threads none = tt
no_ring content (Slot.Connection c) threads none = tt
no_ring content (Slot.Notification note) threads none = tt
no_ring content (Slot.Ring ring) threads none = absurd (by (ring.channel == OUTPUT_CHANNELS) none)
  where
    by : (b : Bool) → is_single (Some (if b then plain.InputRing else plain.OutputRing ring.channel)) ≡ false → ⊥
    by true e = absurd (cc)
    by false e = absurd (cc)
no_ring content (Slot.Scheduler cores) threads none = tt

no_group_ring : (content : ℕ → ℕ → ℕ) (slot : Slot) (threads : List ℕ) → is_kind GroupKind (object_of content slot threads) ≡ true → IsRingInPlace slot
no_group_ring content Slot.Empty threads is = tt
no_group_ring content (Slot.Group group) threads is = tt
no_group_ring content (Slot.Thread thread) threads is = tt
no_group_ring content (Slot.Space space) threads is = tt
no_group_ring content (Slot.Memory memory) threads is = tt
no_group_ring content (Slot.Connection c) threads is = tt
no_group_ring content (Slot.Notification note) threads is = tt
no_group_ring content (Slot.Ring ring) threads is = absurd (by (ring.channel == OUTPUT_CHANNELS) is)
  where
    by : (b : Bool) → is_kind GroupKind (Some (if b then plain.InputRing else plain.OutputRing ring.channel)) ≡ true → ⊥
    by true e = absurd (cc)
    by false e = absurd (cc)
no_group_ring content (Slot.Scheduler cores) threads is = tt

pub rings_in_place : (o : Objects) (rest : Rest) → HasFixedObjects (state_of o rest) → HasFixedSlots o → (i : ℕ) → IsRingInPlace (slot_at o i)
unfolding state_of
rings_in_place o rest fixed slots i = elim (cases_lt i FIRST_PROGRAM_OBJECT) [
  | inr above ↦ no_ring rest.content (slot_at o i) (list_at o.links i) (fixed.above i above)
  | inl low ↦ elim (cases_eq i ROOT_GROUP) [
    | inl root ↦ rw root (no_group_ring rest.content (slot_at o ROOT_GROUP) (list_at o.links ROOT_GROUP) fixed.root)
    | inr more ↦ elim (cases_eq i SCHEDULER) [
      | inl scheduler ↦ rw scheduler (subst IsRingInPlace (sym slots.scheduler) tt)
      | inr more_yet ↦ elim (cases_eq i INPUT_RING) [
        | inl input ↦ rw input (subst IsRingInPlace (sym slots.input) (omega arith, λ lt. absurd (omega arith)))
        | inr output ↦ ring_at (i - 2) (omega arith) (omega arith)
      ]
    ]
  ]
]
  where
    ring_at : (channel : ℕ) → channel < OUTPUT_CHANNELS → i ≡ FIRST_OUTPUT_RING + channel → IsRingInPlace (slot_at o i)
    ring_at channel lt e =
        rw e (subst IsRingInPlace (sym (slots.outputs channel lt).is) (omega (arith, lt), λ below. refl))
