-- Images of the same programs are accepted alike, and begin alike.
use Rattle.std.specs.Prelude.{◌≡◌, ℕ, ◌+◌, ◌-◌, ◌*◌, ◌/◌, ◌%◌, ◌<◌, ◌==◌, nat_lt, Bool, false, if◌then◌else◌, List, [], ◌∷◌, ◌++◌, length, map, replicate, sum_by, All, AllPairs, Any, Option, Some, None, option_map, is_some, slice_get, slice_index, slice_index_or}
use Rattle.std.specs.List.{flat_map, range_with_len}
use Rattle.std.specs.Int.{w64, from_le_bytes}
use Rattle.std.proofs.Common.{◌∙◌, sym, ap, refl, subst, get_or, arith, ◌⊎◌, inl, inr}
use Rattle.std.proofs.Math.Path.{ap₂, fun_ext}
use Rattle.std.proofs.Math.ListN.{get_or-map}
use Rattle.std.proofs.lemmas.List.{length-map, get_or_default}
use Rattle.std.proofs.lemmas.List.Sums.{sum_by-cons}
use Rattle.sls_base.specs.declared.limits.TheConstants.{CORES, OBJECTS, OUTPUT_CHANNELS, PAGE_BYTES}
use Rattle.sls_base.specs.declared.fixed.TheConstants.{FIRST_PROGRAM_OBJECT, FIRST_PROGRAM_PAGE}
use Rattle.sls_base.specs.declared.image.Image.{Image}
use Rattle.sls_base.specs.declared.image.Program.{Program}
use Rattle.sls_base.specs.declared.image.RegionSpec.{RegionSpec}
use Rattle.mem_space.specs.declared.memory.MemPage.{MemPage}
use Rattle.plain_state.specs.declared.objects.Region.{Region}
use Rattle.plain_state.specs.Objects as plain
use Rattle.plain_state.specs.Objects.{Object, Page, Group, Space, Scheduler, OutputRing, InputRing}
use Rattle.plain_state.specs.States.{State}
use Rattle.plain_state.specs.Worlds.{World}
use Rattle.plain_model.specs.Worlds.{has_page}
use Rattle.plain_model.specs.Initial.{program_size, pages_taken, program_pages, slots_with, all_rights, program_caps, region_over, program_regions, memory_of, program_memories, program_thread, program_objects, programs_objects, group_numbers, image_objects, thread_numbers, initial, first_world, IsApart, IsRegion, IsEntered, IsProgram, IsAccepted}
use Rattle.boot_image.specs.Values.{RegionValue, ProgramValue, region_value, program_value, programs_of}
use Rattle.kobj_codec.specs.declared.obj.Obj.{Obj}
use Rattle.kobj_codec.specs.declared.obj.Obj.TheVariants as objs
use Rattle.object_records.specs.Records.{listed}
use Rattle.call_readings.specs.declared.content.TheConstants.{WORD_BYTES}
use Rattle.durable_state.specs.Parts.{Parts}
use Rattle.first_state.specs.Content.{region_parts, program_parts, image_parts}
use Rattle.first_format.specs.Parts.{is_fresh, mem_page_of, record_of_object, first_numbers, first_records, page_word, first_pages, first_parts}
use Rattle.first_format.specs.Formatted.{Formats, formatted}

-- Lists whose elements are seen alike.

module _ {A C : Type 0} (see : A → C) where
  pub alike : (R : List A → List A → Type 0) → R [] []
      → ((x y : A) (xs ys : List A) → see x ≡ see y → R xs ys → R (x ∷ xs) (y ∷ ys))
      → (xs ys : List A) → map see xs ≡ map see ys → R xs ys
  alike R none one [] [] e = none
  alike R none one [] (y ∷ ys) e = cc
  alike R none one (x ∷ xs) [] e = cc
  alike R none one (x ∷ xs) (y ∷ ys) e =
      let first : see x ≡ see y = cc in let rest : map see xs ≡ map see ys = cc in
      one x y xs ys first (alike R none one xs ys rest)

  pub lengths_alike : (xs ys : List A) → map see xs ≡ map see ys → length xs ≡ length ys
  lengths_alike xs ys e = sym (length-map xs see) ∙ ap length e ∙ length-map ys see

  element_alike : (xs ys : List A) (k : ℕ) (d : A) → map see xs ≡ map see ys → see (get_or xs k d) ≡ see (get_or ys k d)
  element_alike xs ys k d e =
      sym (get_or-map see xs k d) ∙ ap (λ (l : List C). get_or l k (see d)) e ∙ get_or-map see ys k d

  pub all_alike : (P : A → Type 0) → ((x y : A) → see x ≡ see y → P x → P y)
      → (xs ys : List A) → map see xs ≡ map see ys → All P xs → All P ys
  all_alike P same xs ys e h = λ k d below.
      let count = lengths_alike xs ys e in
      same (get_or xs k d) (get_or ys k d) (element_alike xs ys k d e) (h k d (omega arith))

  pub pairs_alike : (R : A → A → Type 0) → ((x y s t : A) → see x ≡ see y → see s ≡ see t → R x s → R y t)
      → (xs ys : List A) → map see xs ≡ map see ys → AllPairs R xs → AllPairs R ys
  pairs_alike R same xs ys e h = λ i j d before below.
      let count = lengths_alike xs ys e in
      same (get_or xs i d) (get_or ys i d) (get_or xs j d) (get_or ys j d)
      (element_alike xs ys i d e) (element_alike xs ys j d e) (h i j d before (omega arith))

  pub any_alike : (P Q : A → Type 0) → ((x y : A) → see x ≡ see y → P x → Q y)
      → (xs ys : List A) → map see xs ≡ map see ys → Any P xs → Any Q ys
  any_alike P Q same xs ys e h =
      let k = h.0 in let x = h.1 in
      let count = lengths_alike xs ys e in
      let below : k < length ys = omega arith in
      let found : see x ≡ see (get_or ys k x) = ap see (sym h.3) ∙ element_alike xs ys k x e in
      (k, get_or ys k x, below, get_or_default ys k (get_or ys k x) x below, same x (get_or ys k x) found h.4)

  pub sums_alike : (f : A → ℕ) → ((x y : A) → see x ≡ see y → f x ≡ f y)
      → (xs ys : List A) → map see xs ≡ map see ys → sum_by f xs ≡ sum_by f ys
  sums_alike f same = alike (λ xs ys. sum_by f xs ≡ sum_by f ys) refl
      (λ x y xs ys e rest. sum_by-cons f x xs ∙ ap₂ (λ m n. m + n) (same x y e) rest ∙ sym (sum_by-cons f y ys))

  pub flat_maps_alike : {B : Type 0} (f : A → List B) → ((x y : A) → see x ≡ see y → f x ≡ f y)
      → (xs ys : List A) → map see xs ≡ map see ys → flat_map f xs ≡ flat_map f ys
  flat_maps_alike f same = alike (λ xs ys. flat_map f xs ≡ flat_map f ys) refl
      (λ x y xs ys e rest. ap₂ (λ a b. a ++ b) (same x y e) rest)

-- Regions.

over_of : RegionValue → ℕ → Region
over_of r n = record { base = r.base / PAGE_BYTES; count = r.pages; first = 0; memory = n; rights = r.rights }

over_alike : (x y : RegionSpec) (n : ℕ) → region_value x ≡ region_value y → region_over x n ≡ region_over y n
unfolding over_of
over_alike x y n e = ap (λ (r : RegionValue). over_of r n) e

memory_alike : (x y : RegionSpec) (k : ℕ) → region_value x ≡ region_value y → memory_of x k ≡ memory_of y k
memory_alike x y k e =
    let pages : x.pages ≡ y.pages = ap (λ (r : RegionValue). r.pages) e in
    let content : x.content.items ≡ y.content.items = ap (λ (r : RegionValue). r.content) e in
    rw (pages, content) refl

taken_alike : (x y : RegionSpec) → region_value x ≡ region_value y → pages_taken x ≡ pages_taken y
taken_alike x y e = ap (λ (r : RegionValue). r.pages) e

regions_alike : (xs ys : List RegionSpec) → map region_value xs ≡ map region_value ys
    → (n : ℕ) → program_regions xs n ≡ program_regions ys n
regions_alike = alike region_value (λ xs ys. (n : ℕ) → program_regions xs n ≡ program_regions ys n) (λ n. refl)
    (λ x y xs ys e rest n. let over = over_alike x y n e in let behind = rest (n + 1) in cc)

memories_alike : (xs ys : List RegionSpec) → map region_value xs ≡ map region_value ys
    → (k : ℕ) → program_memories xs k ≡ program_memories ys k
memories_alike = alike region_value (λ xs ys. (k : ℕ) → program_memories xs k ≡ program_memories ys k) (λ k. refl)
    (λ x y xs ys e rest k.
    let pages : x.pages ≡ y.pages = taken_alike x y e in
    ap₂ (λ o os. o ∷ os) (memory_alike x y k e)
    (rest (k + x.pages) ∙ ap (λ (j : ℕ). program_memories ys (k + j)) pages))

region_alike : (x y : RegionSpec) → region_value x ≡ region_value y → IsRegion x → IsRegion y
region_alike x y e h =
    let base : x.base ≡ y.base = ap (λ (r : RegionValue). r.base) e in
    let pages : x.pages ≡ y.pages = ap (λ (r : RegionValue). r.pages) e in
    let rights : x.rights ≡ y.rights = ap (λ (r : RegionValue). r.rights) e in
    let content : length x.content.items ≡ length y.content.items = ap (λ (r : RegionValue). length r.content) e in
    record {
      base = subst (λ (b : ℕ). b % PAGE_BYTES ≡ 0) base h.base;
      some_page = omega arith;
      pages = omega arith;
      end = omega arith;
      some_right = omega arith;
      rights = omega arith;
      content = omega arith;
    }

apart_alike : (x y s t : RegionSpec) → region_value x ≡ region_value y → region_value s ≡ region_value t
    → IsApart x s → IsApart y t
apart_alike x y s t e f h =
    let base : x.base ≡ y.base = ap (λ (r : RegionValue). r.base) e in
    let pages : x.pages ≡ y.pages = ap (λ (r : RegionValue). r.pages) e in
    let other_base : s.base ≡ t.base = ap (λ (r : RegionValue). r.base) f in
    let other_pages : s.pages ≡ t.pages = ap (λ (r : RegionValue). r.pages) f in
    elim h [ inl below ↦ inl (omega arith) | inr above ↦ inr (omega arith) ]

-- Programs.

module _ (p q : Program) (e : program_value p ≡ program_value q) where
  entries_are : p.entry ≡ q.entry
  entries_are = ap (λ (v : ProgramValue). v.entry) e

  threads_are : p.threads ≡ q.threads
  threads_are = ap (λ (v : ProgramValue). v.threads) e

  channels_are : p.channels ≡ q.channels
  channels_are = ap (λ (v : ProgramValue). v.channels) e

  values_are : map region_value p.regions.items ≡ map region_value q.regions.items
  values_are = ap (λ (v : ProgramValue). v.regions) e

  counts_are : length p.regions.items ≡ length q.regions.items
  counts_are = lengths_alike region_value p.regions.items q.regions.items values_are

  size_alike : program_size p ≡ program_size q
  size_alike = ap₂ (λ count threads. 2 + count + threads) counts_are threads_are

  pages_alike : program_pages p ≡ program_pages q
  pages_alike = sums_alike region_value pages_taken taken_alike p.regions.items q.regions.items values_are

  caps_alike : (n : ℕ) → program_caps p n ≡ program_caps q n
  caps_alike n = rw (channels_are, counts_are, threads_are) refl

  thread_objects_alike : (n : ℕ)
      → map (program_thread p n) (range_with_len 0 p.threads) ≡ map (program_thread q n) (range_with_len 0 q.threads)
  thread_objects_alike n = rw (entries_are, threads_are) refl

  objects_alike : (n k : ℕ) → program_objects p n k ≡ program_objects q n k
  objects_alike n k =
      ap₂ (λ o os. o ∷ os) (ap (λ (caps : List _). Group (slots_with caps)) (caps_alike n))
      (ap₂ (λ o os. o ∷ os) (ap Space (regions_alike p.regions.items q.regions.items values_are (n + 2)))
      (ap₂ (λ a b. a ++ b) (memories_alike p.regions.items q.regions.items values_are k) (thread_objects_alike n)))

  entered_alike : (x y : RegionSpec) → region_value x ≡ region_value y → IsEntered p x → IsEntered q y
  entered_alike x y f h =
      let base : x.base ≡ y.base = ap (λ (r : RegionValue). r.base) f in
      let pages : x.pages ≡ y.pages = ap (λ (r : RegionValue). r.pages) f in
      let rights : x.rights ≡ y.rights = ap (λ (r : RegionValue). r.rights) f in
      let entry = entries_are in
      record { executes = rw (← rights) h.executes; from = omega arith; below = omega arith }

  program_alike : IsProgram p → IsProgram q
  program_alike h =
      let ps = p.regions.items in let qs = q.regions.items in
      let entry = entries_are in let threads = threads_are in let channels = channels_are in let count = counts_are in
      record {
        some_thread = omega arith;
        threads = omega arith;
        some_region = omega arith;
        regions = omega arith;
        each_region = all_alike region_value IsRegion region_alike ps qs values_are h.each_region;
        apart = pairs_alike region_value IsApart apart_alike ps qs values_are h.apart;
        channels = omega arith;
        entry = rw (← entry) h.entry;
        entered = any_alike region_value (IsEntered p) (IsEntered q) entered_alike ps qs values_are h.entered;
      }

-- Images.

numbers_alike : (ps qs : List Program) → map program_value ps ≡ map program_value qs
    → (n : ℕ) → group_numbers ps n ≡ group_numbers qs n
numbers_alike = alike program_value (λ ps qs. (n : ℕ) → group_numbers ps n ≡ group_numbers qs n) (λ n. refl)
    (λ p q ps qs e rest n. ap (λ (ns : List ℕ). n ∷ ns)
    (rest (n + program_size p) ∙ ap (λ (size : ℕ). group_numbers qs (n + size)) (size_alike p q e)))

programs_alike : (ps qs : List Program) → map program_value ps ≡ map program_value qs
    → (n k : ℕ) → programs_objects ps n k ≡ programs_objects qs n k
programs_alike = alike program_value (λ ps qs. (n k : ℕ) → programs_objects ps n k ≡ programs_objects qs n k)
    (λ n k. refl)
    (λ p q ps qs e rest n k. ap₂ (λ a b. a ++ b) (objects_alike p q e n k)
    (rest (n + program_size p) (k + program_pages p)
    ∙ ap₂ (λ size pages. programs_objects qs (n + size) (k + pages)) (size_alike p q e) (pages_alike p q e)))

image_objects_alike : (ps qs : List Program) → map program_value ps ≡ map program_value qs
    → image_objects ps ≡ image_objects qs
unfolding image_objects
image_objects_alike ps qs e =
    ap₂ (λ root objects. root ∷ Scheduler ∷ map OutputRing (range_with_len 0 OUTPUT_CHANNELS) ++ InputRing ∷ objects)
    (ap (λ (ns : List ℕ). Group (slots_with (map all_rights ns))) (numbers_alike ps qs e FIRST_PROGRAM_OBJECT))
    (programs_alike ps qs e FIRST_PROGRAM_OBJECT FIRST_PROGRAM_PAGE)

state_of : List Object → ℕ → State
state_of objects cores = record {
  objects = slice_get objects;
  queue = thread_numbers objects;
  cores = replicate cores None;
  out = λ channel. [];
  inputs = [];
}

pub initial_alike : (a b : Image) (cores : ℕ) → programs_of a ≡ programs_of b → initial a cores ≡ initial b cores
unfolding state_of
initial_alike a b cores e =
    ap (λ (objects : List Object). state_of objects cores) (image_objects_alike a.programs.items b.programs.items e)

pub accepted_alike : (a b : Image) → programs_of a ≡ programs_of b → IsAccepted a → IsAccepted b
accepted_alike a b e h =
    let ps = a.programs.items in let qs = b.programs.items in
    let count = lengths_alike program_value ps qs e in
    let objects = sums_alike program_value program_size size_alike ps qs e in
    let pages = sums_alike program_value program_pages pages_alike ps qs e in
    record {
      some_program = omega arith;
      programs = omega arith;
      each_program = all_alike program_value IsProgram program_alike ps qs e h.each_program;
      objects = omega arith;
      pages = omega arith;
    }

world_of : State → World
world_of s = record {
  now = s;
  saved = s;
  released = λ channel. [];
  base = λ channel. 0;
  version = 0;
  stored = λ page. false;
  changed = λ i. false;
}

pub worlds_alike : (a b : Image) (cores : ℕ) → programs_of a ≡ programs_of b → first_world a cores ≡ first_world b cores
unfolding world_of
worlds_alike a b cores e = ap world_of (initial_alike a b cores e)

-- What stands on pages.

region_parts_alike : (x y : RegionSpec) → region_value x ≡ region_value y → region_parts x ≡ region_parts y
region_parts_alike x y e =
    let pages : x.pages ≡ y.pages = ap (λ (r : RegionValue). r.pages) e in
    let content : x.content.items ≡ y.content.items = ap (λ (r : RegionValue). r.content) e in
    rw (pages, content) refl

program_parts_alike : (p q : Program) → program_value p ≡ program_value q → program_parts p ≡ program_parts q
program_parts_alike p q e =
    flat_maps_alike region_value region_parts region_parts_alike p.regions.items q.regions.items (values_are p q e)

parts_alike : (a b : Image) → programs_of a ≡ programs_of b
    → image_parts a.programs.items ≡ image_parts b.programs.items
unfolding image_parts
parts_alike a b e = ap (λ (parts : List (List ℕ)). replicate FIRST_PROGRAM_PAGE [] ++ parts)
    (flat_maps_alike program_value program_parts program_parts_alike a.programs.items b.programs.items e)

fresh_among : List (List ℕ) → ℕ → Bool
fresh_among parts page = length (slice_index_or parts page []) == 0

fresh_alike : (a b : Image) → programs_of a ≡ programs_of b → is_fresh a ≡ is_fresh b
unfolding fresh_among
fresh_alike a b e = ap fresh_among (parts_alike a b e)

word_among : List (List ℕ) → ℕ → ℕ → ℕ
word_among parts page j =
    from_le_bytes w64 (map (slice_index (slice_index_or parts page [])) (range_with_len (WORD_BYTES * j) WORD_BYTES))

pages_among : List (List ℕ) → ℕ → Option (ℕ → ℕ)
unfolding fresh_among word_among
pages_among parts page = if fresh_among parts page then None else Some (word_among parts page)

first_pages_alike : (a b : Image) → programs_of a ≡ programs_of b → first_pages a ≡ first_pages b
unfolding fresh_among word_among pages_among first_pages page_word
first_pages_alike a b e = ap pages_among (parts_alike a b e)

-- The parts of the first version.

numbers_of : State → ℕ → Bool
numbers_of s n = if nat_lt n OBJECTS then is_some (s.objects n) else has_page s (n - OBJECTS)

first_numbers_alike : (a b : Image) (cores : ℕ) → programs_of a ≡ programs_of b
    → first_numbers a cores ≡ first_numbers b cores
unfolding numbers_of first_numbers
first_numbers_alike a b cores e = ap numbers_of (initial_alike a b cores e)

mem_page_by : (ℕ → Bool) → Page → MemPage
mem_page_by fresh page = record { page = page.number; fresh = fresh page.number }

mem_page_alike : (a b : Image) → programs_of a ≡ programs_of b → mem_page_of a ≡ mem_page_of b
unfolding mem_page_by
mem_page_alike a b e = ap mem_page_by (fresh_alike a b e)

record_alike : (a b : Image) (cores : ℕ) → programs_of a ≡ programs_of b → (o : Object)
    → record_of_object a cores o ≡ record_of_object b cores o
record_alike a b cores e (plain.Group slots) = refl
record_alike a b cores e (plain.Thread thread) = refl
record_alike a b cores e (plain.Space regions) = refl
record_alike a b cores e (plain.Memory pages) =
    ap (λ (f : Page → MemPage). objs.Memory (record { pages = record { items = map f pages } })) (mem_page_alike a b e)
record_alike a b cores e (plain.Connection server client clients) = refl
record_alike a b cores e (plain.Notification count waiters) = refl
record_alike a b cores e (plain.OutputRing channel) = refl
record_alike a b cores e plain.InputRing = refl
record_alike a b cores e plain.Scheduler =
    ap (λ (s : State). objs.Scheduler (record {
      cores = cores;
      running = replicate CORES None;
      queue = listed s.queue;
    })) (initial_alike a b cores e)

records_by : (Object → Obj) → State → ℕ → Option Obj
records_by f s i = option_map f (s.objects i)

first_records_alike : (a b : Image) (cores : ℕ) → programs_of a ≡ programs_of b
    → first_records a cores ≡ first_records b cores
unfolding records_by first_records
first_records_alike a b cores e =
    let records : record_of_object a cores ≡ record_of_object b cores = fun_ext (record_alike a b cores e) in
    ap₂ records_by records (initial_alike a b cores e)

pub first_parts_alike : (a b : Image) (cores : ℕ) → programs_of a ≡ programs_of b
    → first_parts a cores ≡ first_parts b cores
first_parts_alike a b cores e =
    let numbers = first_numbers_alike a b cores e in let objects = first_records_alike a b cores e in
    let pages = first_pages_alike a b e in
    cc

pub formats_alike : (a b : Image) (cores : ℕ) (words : ℕ → ℕ) → programs_of a ≡ programs_of b
    → Formats a cores words → Formats b cores words
formats_alike a b cores words e h = record {
  unformatted = h.unformatted;
  each = λ word. subst (λ (p : Parts). (words word ≡ 0) ⊎ (words word ≡ formatted p word))
      (first_parts_alike a b cores e) (h.each word);
}
