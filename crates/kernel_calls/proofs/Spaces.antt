-- Spaces of the running kernel, and what map and unmap make of them.
use Rattle.std.specs.Prelude.{◌≡◌, ◌≢◌, ℕ, ◌+◌, ◌*◌, ◌/◌, ◌%◌, ◌^◌, ◌≤◌, ◌<◌, ◌==◌, ◌&&◌, ◌||◌, ◌↔◌, not, nat_lt, nat_le, Bool, true, false, IsTrue, List, [], ◌∷◌, length, map, filter, All, AllPairs, Any, Option, Some, None}
use Rattle.std.specs.List.{list_any}
use Rattle.std.proofs.Common.{refl, ap, sym, ◌∙◌, subst, arith, get_or, inl, inr}
use Rattle.std.proofs.lemmas.Bool.{cases_Bool, cases_lt, eqb-true, eqb-false, ltb-false, leb-false, false≢true}
use Rattle.std.proofs.lemmas.List.{get_or-map, length-map}
use Rattle.std.proofs.lemmas.List.Elements.{All-contains}
use Rattle.std.proofs.lemmas.List.Folds.{list_any-from_Any}
use Rattle.sls_base.specs.declared.limits.TheConstants.{PAGE_BYTES, OBJECTS, SPACE_REGIONS, MEMORY_PAGES, ADDRESS_PAGES}
use Rattle.sls_base.specs.declared.rights.TheConstants.{REGION_RIGHTS}
use Rattle.sls_base.specs.declared.thread.Thread.{Thread as ThreadRecord}
use Rattle.mem_space.specs.declared.region.Region.{Region}
use Rattle.mem_space.specs.declared.space.Space.{Space}
use Rattle.mem_space.specs.Region.{IsRegion, SharesPages, shares_pages}
use Rattle.mem_space.specs.Space.{IsSpace, Overlaps, inserted, without_base}
use Rattle.plain_state.specs.declared.objects.Region.{Region as PlainRegion}
use Rattle.plain_state.specs.declared.objects.Kind.TheVariants.{MemoryKind}
use Rattle.plain_state.specs.Objects as plain
use Rattle.plain_state.specs.Objects.{Object, is_kind, pages_of, regions_of}
use Rattle.plain_state.specs.States.{State}
use Rattle.plain_state.specs.Effects.{Effect}
use Rattle.plain_state.specs.Calls.{arg, id_named, named}
use Rattle.plain_state.specs.CallRefusals.{is_bad_range, is_bad_part, meets}
use Rattle.plain_state.specs.CallEffects.{change, answers_with, new_region, map_effect, unmap_effect}
use Rattle.plain_laws.specs.Laws.{AreInRange}
use Rattle.plain_laws.specs.Sound.{HasForm, HaveForms, IsMapped, IsBefore, NamesPages, NamesWhatIs}
use Rattle.kobj_table.specs.declared.objects.Objects.{Objects}
use Rattle.kobj_table.specs.declared.slot.Slot.{Slot}
use Rattle.kobj_table.specs.Slots.{region_of}
use Rattle.kobj_table.specs.Objects.{Rest, slot_at, object_at, state_of}
use Rattle.plain_state.specs.Worlds.{World}
use Rattle.plain_state.specs.CallRefusals.{is_refused_besides, refusal_of}
use Rattle.plain_state.specs.declared.calls.Call.TheVariants.{Map}
use Rattle.plain_state.specs.declared.calls.Refusal.{Refusal}
use Rattle.plain_state.specs.declared.calls.Refusal.TheVariants.{BadCall, BadAddress, BadSize, Overlap, NoRegions}
use Rattle.call_readings.specs.Kernel.{world_of}
use Rattle.kernel_calls.specs.Kernel.{IsSound}
use Rattle.kernel_calls.proofs.Unrefused.{MeetsNeeds, MeetsBesides, met_by, or_false, not_false}

-- A memory object that is there has a number that objects have, and at most 64 pages.

memory_pages : (o : Option Object) → HasForm o → is_kind MemoryKind o ≡ true → length (pages_of o) ≤ MEMORY_PAGES
memory_pages None form e = absurd (cc)
memory_pages (Some (plain.Memory pages)) form e = form.1
memory_pages (Some (plain.Group slots)) form e = absurd (cc)
memory_pages (Some (plain.Thread thread)) form e = absurd (cc)
memory_pages (Some (plain.Space regions)) form e = absurd (cc)
memory_pages (Some (plain.Connection server client clients)) form e = absurd (cc)
memory_pages (Some (plain.Notification count waiters)) form e = absurd (cc)
memory_pages (Some (plain.OutputRing channel)) form e = absurd (cc)
memory_pages (Some plain.InputRing) form e = absurd (cc)
memory_pages (Some plain.Scheduler) form e = absurd (cc)

no_memory : (o : Option Object) → o ≡ None → is_kind MemoryKind o ≡ true → ⊥
no_memory None none e = cc
no_memory (Some object) none e = cc

pub memory_known : (s : State) (id : ℕ) → AreInRange s → is_kind MemoryKind (s.objects id) ≡ true → id < OBJECTS
memory_known s id range e =
    elim (cases_lt id OBJECTS) [
      | inl below ↦ below
      | inr past ↦ absurd (no_memory (s.objects id) (range id past) e)
    ]

-- a region of it is in form
pub region_form : (s : State) (r : Region) → AreInRange s → HaveForms s → IsMapped (region_of r) → NamesPages s (region_of r) → IsRegion r
region_form s r range forms mapped names =
    let most = memory_pages (s.objects r.memory) (forms r.memory) names.0 in
    record {
      some_page = mapped.some_page;
      within_addresses = mapped.end;
      within_memory = omega (arith, most, names.1);
      known_memory = memory_known s r.memory range names.0;
      some_right = mapped.some_right;
      known_rights = mapped.rights;
    }

at_map : (P : PlainRegion → Type 0) (regions : List Region) → All P (map region_of regions) → (k : ℕ) (d : Region) → k < length regions → P (region_of (get_or regions k d))
at_map P regions all k d inside =
    subst P (get_or-map region_of regions k d (region_of d) inside) (all k (region_of d) (let l = length-map regions region_of in omega arith))

pairs_at : (regions : List Region) → AllPairs IsBefore (map region_of regions) → (i j : ℕ) (d : Region) → i < j → j < length regions →
    (get_or regions i d).base + (get_or regions i d).count ≤ (get_or regions j d).base
pairs_at regions pairs i j d before inside =
    let long = length-map regions region_of in
    let a = get_or-map region_of regions i d (region_of d) (omega arith) in
    let b = get_or-map region_of regions j d (region_of d) inside in
    let p : IsBefore (get_or (map region_of regions) i (region_of d)) (get_or (map region_of regions) j (region_of d)) = pairs i j (region_of d) before (omega arith) in
    subst (λ (x : PlainRegion). IsBefore (region_of (get_or regions i d)) x) b (subst (λ (x : PlainRegion). IsBefore x (get_or (map region_of regions) j (region_of d))) a p)

-- a space that is there is in form
pub space_form : (s : State) (space : Space) → AreInRange s → HaveForms s → HasForm (Some (plain.Space (map region_of space.regions.items))) →
    NamesWhatIs s (Some (plain.Space (map region_of space.regions.items))) → IsSpace space
space_form s space range forms form names =
    let regions = space.regions.items in
    let all : All IsRegion regions = λ k d inside. region_form s (get_or regions k d) range forms (at_map IsMapped regions form.1 k d inside) (at_map (NamesPages s) regions names k d inside) in
    record {
      regions = all;
      rising = λ i j d before inside. let p = pairs_at regions form.2 i j d before inside in let some = (all i d (omega arith)).some_page in omega arith;
      apart = λ i j d before inside page in_a in_b. let p = pairs_at regions form.2 i j d before inside in absurd (omega (arith, in_a, in_b));
    }

-- What map makes: a region more.

pub inserted_is : (region : Region) (regions : List Region) → map region_of (inserted region regions) ≡ plain.inserted (region_of region) (map region_of regions)
inserted_is region [] = refl
inserted_is region (r ∷ regions) =
    elim (cases_Bool (nat_lt region.base r.base)) [
      | inl below ↦ rw below refl
      | inr above ↦ rw above (ap (λ (l : List PlainRegion). region_of r ∷ l) (inserted_is region regions))
    ]

-- What unmap leaves.

pub without_is : (base : ℕ) (regions : List Region) → map region_of (without_base regions base) ≡ filter (λ region. not (region.base == base)) (map region_of regions)
without_is base [] = refl
without_is base (r ∷ regions) =
    elim (cases_Bool (r.base == base)) [
      | inl here ↦ rw here (without_is base regions)
      | inr other ↦ rw other (ap (λ (l : List PlainRegion). region_of r ∷ l) (without_is base regions))
    ]

mapped : ThreadRecord → ℕ → PlainRegion → Option Object → Effect
mapped thread id region space = answers_with thread 0 (change id (plain.Space (plain.inserted region (regions_of space))) ∷ [])

pub map_is : (s : State) (thread : ThreadRecord) (id : ℕ) (region : Region) (regions new : List Region) → id_named s thread 0 ≡ id → s.objects id ≡ Some (plain.Space (map region_of regions)) →
    region_of region ≡ new_region s thread → new ≡ inserted region regions → map_effect s thread ≡ answers_with thread 0 (change id (plain.Space (map region_of new)) ∷ [])
unfolding mapped
map_is s thread id region regions new id_is there region_is new_is =
    ap (λ (n : ℕ). mapped thread n (new_region s thread) (s.objects n)) id_is ∙ ap (λ (o : Option Object). mapped thread id (new_region s thread) o) there
    ∙ ap (λ (r : PlainRegion). mapped thread id r (Some (plain.Space (map region_of regions)))) (sym region_is)
    ∙ ap (λ (l : List PlainRegion). answers_with thread 0 (change id (plain.Space l) ∷ [])) (sym (ap (λ (l : List Region). map region_of l) new_is ∙ inserted_is region regions))

unmapped : ThreadRecord → ℕ → Option Object → Effect
unmapped thread id space = answers_with thread 0 (change id (plain.Space (filter (λ region. not (region.base == arg thread 1 / PAGE_BYTES)) (regions_of space))) ∷ [])

pub unmap_is : (s : State) (thread : ThreadRecord) (id base : ℕ) (regions new : List Region) → id_named s thread 0 ≡ id → s.objects id ≡ Some (plain.Space (map region_of regions)) →
    base ≡ arg thread 1 / PAGE_BYTES → new ≡ without_base regions base → unmap_effect s thread ≡ answers_with thread 0 (change id (plain.Space (map region_of new)) ∷ [])
unfolding unmapped
unmap_is s thread id base regions new id_is there base_is new_is =
    ap (λ (n : ℕ). unmapped thread n (s.objects n)) id_is ∙ ap (λ (o : Option Object). unmapped thread id o) there
    ∙ ap (λ (l : List PlainRegion). answers_with thread 0 (change id (plain.Space l) ∷ []))
    (sym (ap (λ (l : List Region). map region_of l) new_is ∙ without_is base regions ∙ ap (λ (b : ℕ). filter (λ region. not (region.base == b)) (map region_of regions)) base_is))

-- What is known of a region that may be mapped: where it stands, and which part of its memory object it has.
pub record IsMappable (base first count rights pages : ℕ) : Type 0 where
  pub end : base / PAGE_BYTES + count ≤ ADDRESS_PAGES
  pub some_page : 1 ≤ count
  pub part : first + count ≤ pages
  pub some_right : 1 ≤ rights
  pub known_rights : rights ≤ REGION_RIGHTS

pub mappable : (base first count rights pages : ℕ) → is_bad_range base count ≡ false → is_bad_part pages first count rights ≡ false → IsMappable base first count rights pages
mappable base first count rights pages range part =
    let ranges = or_false (not (base % PAGE_BYTES == 0)) (nat_lt (2 ^ 32) (base + PAGE_BYTES * count)) range in
    let parts = or_false (count == 0) _ part in
    let parts' = or_false (nat_lt pages (first + count)) _ parts.1 in
    let parts'' = or_false (rights == 0) (nat_lt REGION_RIGHTS rights) parts'.1 in
    let at_page : ◌≡◌ {A = ℕ} (base % PAGE_BYTES) 0 = eqb-true (base % PAGE_BYTES) 0 (not_false _ ranges.0) in
    let below : base + PAGE_BYTES * count ≤ 2 ^ 32 = ltb-false _ _ ranges.1 in
    let some : ◌≢◌ {A = ℕ} count 0 = eqb-false count 0 parts.0 in
    let right : ◌≢◌ {A = ℕ} rights 0 = eqb-false rights 0 parts''.0 in
    record {
      end = omega arith;
      some_page = omega arith;
      part = ltb-false _ _ parts'.0;
      some_right = omega arith;
      known_rights = ltb-false _ _ parts''.1;
    }

list_any-map : (p : PlainRegion → Bool) (regions : List Region) → list_any p (map region_of regions) ≡ list_any (λ r. p (region_of r)) regions
list_any-map p [] = refl
list_any-map p (r ∷ regions) = ap (λ (b : Bool). p (region_of r) || b) (list_any-map p regions)

any_map : (p : PlainRegion → Bool) (regions : List Region) → Any (λ r. p (region_of r) ≡ true) regions → list_any p (map region_of regions) ≡ true
any_map p regions w = list_any-map p regions ∙ list_any-from_Any (λ r. p (region_of r)) regions w

-- the law of the tests on regions
abbrev pub IsShares : Type 0
IsShares = (region : Region) (base count : ℕ) → IsTrue (shares_pages base count region) ↔ SharesPages region base count

abbrev pub IsByEnds : Type 0
IsByEnds = (region : Region) (base count : ℕ) → 1 ≤ region.count → 1 ≤ count → shares_pages base count region ≡ (nat_lt base (region.base + region.count) && nat_lt region.base (base + count))

-- where no region meets some pages, none has one of them
pub not_overlapping : IsShares → IsByEnds → (space : Space) (base count : ℕ) → IsSpace space → 1 ≤ count → list_any (meets base count) (map region_of space.regions.items) ≡ false →
    Overlaps space base count → ⊥
not_overlapping shares by_ends space base count is some none overlap =
    let form = All-contains IsRegion space.regions.items overlap.1 is.regions (overlap.0, overlap.2, overlap.3) in
    let met : meets base count (region_of overlap.1) ≡ true = sym (by_ends overlap.1 base count form.some_page some) ∙ (shares overlap.1 base count).1 overlap.4 in
    false≢true (sym none ∙ list_any-from_map overlap met)
  where
    list_any-from_map : (w : Overlaps space base count) → meets base count (region_of w.1) ≡ true → list_any (meets base count) (map region_of space.regions.items) ≡ true
    list_any-from_map w met = any_map (meets base count) space.regions.items (w.0, w.1, w.2, w.3, met)

-- What is known of a call map that isn't refused, where this space is the one that it names.
pub record MapKnown (s : State) (thread : ThreadRecord) (space : Space) : Type 0 where
  pub form : IsSpace space
  pub part : IsMappable (arg thread 2) (arg thread 3) (arg thread 4) (arg thread 5) (length (pages_of (named s thread 1)))
  pub memory : id_named s thread 1 < OBJECTS
  pub pages : length (pages_of (named s thread 1)) ≤ MEMORY_PAGES
  pub apart : list_any (meets (arg thread 2 / PAGE_BYTES) (arg thread 4)) (map region_of space.regions.items) ≡ false
  pub room : length space.regions.items < SPACE_REGIONS

pub map_known : MeetsNeeds → MeetsBesides → (o : Objects) (rest : Rest) (w : World) (me id : ℕ) (thread : ThreadRecord) (space : Space) → IsSound (state_of o rest) →
    id_named (state_of o rest) thread 0 ≡ id → slot_at o id ≡ Slot.Space space → refusal_of (world_of o rest w) me thread Map ≡ None → MapKnown (state_of o rest) thread space
unfolding world_of state_of
map_known needs besides o rest w me id thread space sound id_is slot_is e =
    let world = world_of o rest w in
    let s = state_of o rest in
    let law : (refusal : Refusal) → refusal ≢ BadCall → is_refused_besides world me thread Map refusal ≡ false = λ refusal other. besides world me thread Map refusal other e in
    let met = met_by needs world me thread Map e in
    let there : named s thread 0 ≡ Some (plain.Space (map region_of space.regions.items)) = rw (id_is, slot_is) refl in
    let at_id : object_at rest.content o id ≡ Some (plain.Space (map region_of space.regions.items)) = rw slot_is refl in
    let full : nat_le SPACE_REGIONS (length (map region_of space.regions.items)) ≡ false = rw there at (law NoRegions (λ same. cc)) in
    let long = length-map space.regions.items region_of in
    record {
      form = space_form s space sound.range sound.forms (rw at_id at (sound.forms id)) (rw at_id at (sound.names id));
      part = mappable (arg thread 2) (arg thread 3) (arg thread 4) (arg thread 5) _ (law BadAddress (λ same. cc)) (law BadSize (λ same. cc));
      memory = memory_known s (id_named s thread 1) sound.range met.1.0.kind;
      pages = memory_pages (named s thread 1) (sound.forms (id_named s thread 1)) met.1.0.kind;
      apart = rw there at (law Overlap (λ same. cc));
      room = let l = leb-false _ _ full in omega arith;
    }
