-- What the bytes of programs say, where no rule is broken.
use Rattle.std.proofs.Common.{◌≡◌, ℕ, zero, suc, ◌+◌, ◌*◌, ◌%◌, ◌≤◌, true, ◌&&◌, ◌==◌, nat_le, nat_lt, List, [], ◌∷◌, ◌++◌, length, drop, None, refl, sym, ap, ◌∙◌, append_assoc, arith, inl, inr}
use Rattle.std.specs.Prelude.{map, sum_by, Any}
use Rattle.std.specs.List.{list_any, flat_map, AllByRecursion}
use Rattle.std.proofs.lemmas.Bool.{leb-true, ltb-true, eqb-true, and_parts}
use Rattle.std.proofs.lemmas.List.{drop-drop, length-map}
use Rattle.std.proofs.lemmas.List.Concat.{flat_map-cons}
use Rattle.std.proofs.lemmas.List.Elements.{All-from_recursion}
use Rattle.std.proofs.lemmas.List.Sums.{sum_by-cons}
use Rattle.sls_base.specs.declared.limits.TheConstants.{PAGE_BYTES, PAGES, OBJECTS, INSTRUCTION_BYTES}
use Rattle.sls_base.specs.declared.rights.TheConstants.{EXECUTE}
use Rattle.sls_base.specs.declared.image.Program.{Program}
use Rattle.sls_base.specs.declared.image.RegionSpec.{RegionSpec}
use Rattle.plain_model.specs.declared.image.TheConstants.{PROGRAM_THREADS, PROGRAM_REGIONS}
use Rattle.plain_model.specs.Initial.{IsRegion, IsEntered, IsProgram, program_size as program_objects, program_pages, pages_taken}
use Rattle.sls_base.specs.Rights.{has_rights}
use Rattle.boot_image.specs.declared.fault.ImageCause.TheVariants.{Length, Count, Channel, Entry}
use Rattle.boot_image.specs.declared.format.TheConstants.{ALL_CHANNELS}
use Rattle.boot_image.specs.Spelling.{region_bytes, program_bytes}
use Rattle.boot_image.specs.Values.{RegionValue, ProgramValue, region_value, program_value, word_at, region_size, regions_at, regions_size, program_at, program_size, programs_at, programs_size, objects_of, pages_of}
use Rattle.boot_image.specs.Rules.{unless, field}
use Rattle.boot_image.specs.Regions.{regions_fault}
use Rattle.boot_image.specs.Programs.{threads_fault, channels_fault, count_fault, is_entered, may_begin, program_fault, programs_fault}
use Rattle.boot_image.proofs.Firsts.{one_holds, two_hold, two_none, six_none, unless_holds}
use Rattle.boot_image.proofs.Words.{IsBytes, IsBytes-drop, four_words, four_again}
use Rattle.boot_image.proofs.RegionsSaid.{regions_said, joined, either}

-- each rule of a program holds
pub record Holds (at objects pages : ℕ) (bytes : List ℕ) : Type 0 where
  pub header : 16 ≤ length bytes
  pub some_thread : 1 ≤ word_at 4 bytes
  pub threads : word_at 4 bytes ≤ PROGRAM_THREADS
  pub channels : word_at 8 bytes ≤ ALL_CHANNELS
  pub some_region : 1 ≤ word_at 12 bytes
  pub few_regions : word_at 12 bytes ≤ PROGRAM_REGIONS
  pub count : objects + (2 + word_at 12 bytes + word_at 4 bytes) ≤ OBJECTS
  pub regions : regions_fault (word_at 12 bytes) (at + 16) [] pages (drop 16 bytes) ≡ None
  pub begins : may_begin (word_at 0 bytes) (regions_at (word_at 12 bytes) (drop 16 bytes)) ≡ true

threads_parts : (at : ℕ) (bytes : List ℕ) → threads_fault at bytes ≡ None → (1 ≤ word_at 4 bytes) × (word_at 4 bytes ≤ PROGRAM_THREADS)
unfolding threads_fault
threads_parts at bytes e =
    let h = one_holds (nat_le 8 (length bytes)) (nat_le 1 (word_at 4 bytes) && nat_le (word_at 4 bytes) PROGRAM_THREADS) Length Count (at + 4) (at + 4) e in
    let range = and_parts (nat_le 1 (word_at 4 bytes)) (nat_le (word_at 4 bytes) PROGRAM_THREADS) h.1 in
    (leb-true 1 (word_at 4 bytes) range.0, leb-true (word_at 4 bytes) PROGRAM_THREADS range.1)

channels_parts : (at : ℕ) (bytes : List ℕ) → channels_fault at bytes ≡ None → word_at 8 bytes ≤ ALL_CHANNELS
unfolding channels_fault
channels_parts at bytes e =
    let h = one_holds (nat_le 12 (length bytes)) (nat_le (word_at 8 bytes) ALL_CHANNELS) Length Channel (at + 8) (at + 8) e in
    leb-true (word_at 8 bytes) ALL_CHANNELS h.1

count_parts : (at objects : ℕ) (bytes : List ℕ) → count_fault at objects bytes ≡ None
    → (16 ≤ length bytes) × (1 ≤ word_at 12 bytes) × (word_at 12 bytes ≤ PROGRAM_REGIONS) × (objects + (2 + word_at 12 bytes + word_at 4 bytes) ≤ OBJECTS)
unfolding count_fault
count_parts at objects bytes e =
    let h = two_hold (nat_le 16 (length bytes)) (nat_le 1 (word_at 12 bytes) && nat_le (word_at 12 bytes) PROGRAM_REGIONS)
    (nat_le (objects + (2 + word_at 12 bytes + word_at 4 bytes)) OBJECTS) Length Count Count (at + 12) (at + 12) (at + 12) e in
    let range = and_parts (nat_le 1 (word_at 12 bytes)) (nat_le (word_at 12 bytes) PROGRAM_REGIONS) h.1 in (
      leb-true 16 (length bytes) h.0,
      leb-true 1 (word_at 12 bytes) range.0,
      leb-true (word_at 12 bytes) PROGRAM_REGIONS range.1,
      leb-true (objects + (2 + word_at 12 bytes + word_at 4 bytes)) OBJECTS h.2,
    )

pub holds : (at objects pages : ℕ) (bytes : List ℕ) → program_fault at objects pages bytes ≡ None → Holds at objects pages bytes
unfolding program_fault program_at
holds at objects pages bytes e =
    let regions : List RegionValue = regions_at (word_at 12 bytes) (drop 16 bytes) in
    let h = six_none (field at 0 bytes []) (threads_fault at bytes) (channels_fault at bytes) (count_fault at objects bytes)
    (regions_fault (word_at 12 bytes) (at + 16) [] pages (drop 16 bytes)) (unless (may_begin (word_at 0 bytes) regions) Entry at) e in
    let threads_hold = threads_parts at bytes h.1 in
    let count_holds = count_parts at objects bytes h.3 in
    record {
      header = count_holds.0;
      some_thread = threads_hold.0;
      threads = threads_hold.1;
      channels = channels_parts at bytes h.2;
      some_region = count_holds.1;
      few_regions = count_holds.2;
      count = count_holds.3;
      regions = h.4;
      begins = unless_holds (may_begin (word_at 0 bytes) regions) Entry at h.5;
    }

-- the entry's test, of a region that is told to pass it
entered_at : (p : Program) (spec : RegionSpec) → is_entered p.entry (region_value spec) ≡ true → IsEntered p spec
entered_at p spec e =
    let end : ℕ = spec.base + PAGE_BYTES * spec.pages in
    let a = and_parts (has_rights spec.rights EXECUTE && nat_le spec.base p.entry) (nat_lt p.entry end) e in
    let b = and_parts (has_rights spec.rights EXECUTE) (nat_le spec.base p.entry) a.0 in
    record { executes = b.0; from = leb-true spec.base p.entry b.1; below = ltb-true p.entry end a.1 }

-- over regions as they lie in memory
entered_by : (p : Program) (specs : List RegionSpec) → list_any (is_entered p.entry) (map region_value specs) ≡ true
    → Any (IsEntered p) specs
entered_by p [] e = absurd cc
entered_by p (s ∷ ss) e =
    elim (either (is_entered p.entry (region_value s)) (list_any (is_entered p.entry) (map region_value ss)) e) [
      | inl h ↦ (0, s, omega arith, refl, entered_at p s h)
      | inr h ↦ (let later = entered_by p ss h in (suc later.0, later.1, omega (arith, later.2), later.3, later.4))
    ]

-- a program is the one that these bytes spell
pub record IsSaid (used taken : ℕ) (bytes : List ℕ) (p : Program) : Type 0 where
  pub spelled : bytes ≡ program_bytes p ++ drop (program_size bytes) bytes
  pub program : IsProgram p
  pub objects : used + program_objects p ≤ OBJECTS
  pub pages : taken + program_pages p ≤ PAGES

-- a program's bytes, before others
pub program_text : (p : Program) (rest : List ℕ) → program_bytes p ++ rest
    ≡ four_words p.entry p.threads p.channels (length p.regions.items) (flat_map region_bytes p.regions.items ++ rest)
unfolding program_bytes
program_text p rest = simp append_assoc

pub program_said : (at objects pages : ℕ) (bytes : List ℕ) (p : Program) → IsBytes bytes → pages ≤ PAGES
    → Holds at objects pages bytes → program_value p ≡ program_at bytes → IsSaid objects pages bytes p
unfolding program_at program_size
program_said at objects pages bytes p fits few h is =
    let entry-is : p.entry ≡ word_at 0 bytes = ap (λ (v : ProgramValue). v.entry) is in
    let threads-is : p.threads ≡ word_at 4 bytes = ap (λ (v : ProgramValue). v.threads) is in
    let channels-is : p.channels ≡ word_at 8 bytes = ap (λ (v : ProgramValue). v.channels) is in
    let regions-is : map region_value p.regions.items ≡ regions_at (word_at 12 bytes) (drop 16 bytes) = ap (λ (v : ProgramValue). v.regions) is in
    let said = regions_said (word_at 12 bytes) (at + 16) pages (drop 16 bytes) [] p.regions.items (IsBytes-drop 16 bytes fits) few h.regions regions-is (λ i j d lt under. absurd (omega arith)) in
    let size : ℕ = regions_size (word_at 12 bytes) (drop 16 bytes) in
    let moved : drop size (drop 16 bytes) ≡ drop (16 + size) bytes = drop-drop size 16 bytes in
    let rest-is : flat_map region_bytes p.regions.items ++ drop (16 + size) bytes ≡ drop 16 bytes =
    ap (λ (x : List ℕ). flat_map region_bytes p.regions.items ++ x) (sym moved) ∙ sym said.spelled in
    let parts : program_bytes p ++ drop (16 + size) bytes ≡ four_words (word_at 0 bytes) (word_at 4 bytes) (word_at 8 bytes) (word_at 12 bytes) (drop 16 bytes) =
    program_text p (drop (16 + size) bytes) ∙ rw (rest-is, entry-is, threads-is, channels-is, said.count) refl in
    let begins = and_parts (word_at 0 bytes % INSTRUCTION_BYTES == 0) (list_any (is_entered (word_at 0 bytes)) (regions_at (word_at 12 bytes) (drop 16 bytes))) h.begins in
    record {
      spelled = four_again bytes fits h.header ∙ sym parts;
      program = record {
        some_thread = rw threads-is h.some_thread;
        threads = rw threads-is h.threads;
        some_region = rw said.count h.some_region;
        regions = rw said.count h.few_regions;
        each_region = All-from_recursion IsRegion p.regions.items said.regions;
        apart = said.apart;
        channels = rw channels-is (omega (arith, h.channels));
        entry = rw entry-is (eqb-true (word_at 0 bytes % INSTRUCTION_BYTES) 0 begins.0);
        entered = entered_by p p.regions.items (rw (entry-is, regions-is) begins.1);
      };
      objects = rw (said.count, threads-is) h.count;
      pages = said.few;
    }

-- programs behind others are those that these bytes spell
pub record AreSaid (n used taken : ℕ) (bytes : List ℕ) (list : List Program) : Type 0 where
  pub spelled : bytes ≡ flat_map program_bytes list ++ drop (programs_size n bytes) bytes
  pub count : length list ≡ n
  pub programs : AllByRecursion IsProgram list
  pub objects : used + sum_by program_objects list ≤ OBJECTS
  pub pages : taken + sum_by program_pages list ≤ PAGES

pub pages_same : (specs : List RegionSpec) → pages_of (map region_value specs) ≡ sum_by pages_taken specs
pages_same [] = refl
pages_same (s ∷ ss) = omega (arith, pages_same ss, sum_by-cons pages_taken s ss, sum_by-cons (λ r. r.pages) (region_value s) (map region_value ss))

pub programs_said : (n at objects pages : ℕ) (bytes : List ℕ) (programs : List Program) → IsBytes bytes → objects ≤ OBJECTS → pages ≤ PAGES
    → programs_fault n at objects pages bytes ≡ None → map program_value programs ≡ programs_at n bytes → AreSaid n objects pages bytes programs
unfolding programs_fault programs_at programs_size
programs_said zero at objects pages bytes [] fits few_objects few_pages e is =
    record { spelled = refl; count = refl; programs = tt; objects = omega arith; pages = omega arith }
programs_said zero at objects pages bytes (p ∷ ps) fits few_objects few_pages e is = absurd cc
programs_said (suc n) at objects pages bytes [] fits few_objects few_pages e is = absurd cc
programs_said (suc n) at objects pages bytes (p ∷ ps) fits few_objects few_pages e is =
    let a = two_none (program_fault at objects pages bytes)
    (programs_fault n (at + program_size bytes) (objects + objects_of (program_at bytes)) (pages + pages_of (program_at bytes).regions) (drop (program_size bytes) bytes)) e in
    let p-is : program_value p ≡ program_at bytes = cc in
    let ps-is : map program_value ps ≡ programs_at n (drop (program_size bytes) bytes) = cc in
    let said = program_said at objects pages bytes p fits few_pages (holds at objects pages bytes a.0) p-is in
    let objects-is : objects_of (program_at bytes) ≡ program_objects p =
    ap objects_of (sym p-is) ∙ rw (length-map p.regions.items region_value) refl in
    let pages-is : pages_of (program_at bytes).regions ≡ program_pages p =
    ap (λ (v : ProgramValue). pages_of v.regions) (sym p-is) ∙ pages_same p.regions.items in
    let rest_holds : programs_fault n (at + program_size bytes) (objects + program_objects p) (pages + program_pages p) (drop (program_size bytes) bytes) ≡ None =
    rw (← objects-is, ← pages-is) a.1 in
    let next = programs_said n (at + program_size bytes) (objects + program_objects p) (pages + program_pages p) (drop (program_size bytes) bytes) ps
    (IsBytes-drop (program_size bytes) bytes fits) said.objects said.pages rest_holds ps-is in
    record {
      spelled = rw flat_map-cons (joined (program_size bytes) (programs_size n (drop (program_size bytes) bytes)) bytes (program_bytes p) (flat_map program_bytes ps) said.spelled next.spelled);
      count = ap suc next.count;
      programs = (said.program, next.programs);
      objects = omega (arith, next.objects, sum_by-cons program_objects p ps);
      pages = omega (arith, next.pages, sum_by-cons program_pages p ps);
    }

-- as many as are asked for
pub length-regions_at : (n : ℕ) (bytes : List ℕ) → length (regions_at n bytes) ≡ n
unfolding regions_at
length-regions_at zero bytes = refl
length-regions_at (suc n) bytes = ap suc (length-regions_at n (drop (region_size bytes) bytes))
