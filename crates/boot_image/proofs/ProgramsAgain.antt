-- The bytes of programs break no rule, and say these programs.
use Rattle.std.proofs.Common.{◌≡◌, ℕ, zero, suc, ◌+◌, ◌*◌, ◌%◌, ◌^◌, ◌<◌, ◌≤◌, true, ◌==◌, nat_le, List, [], ◌∷◌, ◌++◌, length, get_or, drop, None, refl, sym, ap, ◌∙◌, append_assoc, arith}
use Rattle.std.specs.Prelude.{map, sum_by}
use Rattle.std.specs.List.{list_any, flat_map, AllByRecursion}
use Rattle.std.specs.Cmp.Derive.{both_true}
use Rattle.std.proofs.lemmas.Bool.{le-leb}
use Rattle.std.proofs.lemmas.List.{drop-drop, length-map}
use Rattle.std.proofs.lemmas.List.Concat.{flat_map-cons}
use Rattle.std.proofs.lemmas.List.Elements.{recursion_from_All}
use Rattle.std.proofs.lemmas.List.Sums.{sum_by-cons}
use Rattle.sls_base.specs.declared.limits.TheConstants.{PAGE_BYTES, PAGES, OBJECTS, INSTRUCTION_BYTES}
use Rattle.sls_base.specs.declared.image.Program.{Program}
use Rattle.sls_base.specs.declared.image.RegionSpec.{RegionSpec}
use Rattle.plain_model.specs.declared.image.TheConstants.{PROGRAM_THREADS, PROGRAM_REGIONS}
use Rattle.plain_model.specs.Initial.{IsRegion, IsEntered, IsProgram, program_size as program_objects, program_pages}
use Rattle.boot_image.specs.declared.format.TheConstants.{ALL_CHANNELS}
use Rattle.boot_image.specs.Spelling.{region_bytes, program_bytes}
use Rattle.boot_image.specs.Values.{ProgramValue, region_value, program_value, word_at, regions_size, program_at, program_size, programs_at, programs_size, objects_of, pages_of}
use Rattle.boot_image.specs.Programs.{threads_fault, channels_fault, count_fault, is_entered, may_begin, program_fault, programs_fault}
use Rattle.boot_image.proofs.Words.{AreNumbers, IsFour, four_words, four_read}
use Rattle.boot_image.proofs.RegionsAgain.{regions_again, or_left, or_right}
use Rattle.boot_image.proofs.ProgramsSaid.{Holds, program_text, pages_same}

yes : (a b : ℕ) → a ≤ b → nat_le a b ≡ true
yes a b h = le-leb a b h

-- where each rule holds, none is broken
none_broken : (at objects pages : ℕ) (bytes : List ℕ) → Holds at objects pages bytes → program_fault at objects pages bytes ≡ None
unfolding program_fault program_at threads_fault channels_fault count_fault
none_broken at objects pages bytes h =
    rw (
      yes 4 (length bytes) (omega (arith, h.header)),
      yes 8 (length bytes) (omega (arith, h.header)),
      yes 1 (word_at 4 bytes) h.some_thread,
      yes (word_at 4 bytes) PROGRAM_THREADS h.threads,
      yes 12 (length bytes) (omega (arith, h.header)),
      yes (word_at 8 bytes) ALL_CHANNELS h.channels,
      yes 16 (length bytes) h.header,
      yes 1 (word_at 12 bytes) h.some_region,
      yes (word_at 12 bytes) PROGRAM_REGIONS h.few_regions,
      yes (objects + (2 + word_at 12 bytes + word_at 4 bytes)) OBJECTS h.count,
      h.regions,
      h.begins,
    ) refl

entered_test : (p : Program) (spec : RegionSpec) → IsEntered p spec → is_entered p.entry (region_value spec) ≡ true
entered_test p spec h =
    both_true (both_true h.executes (le-leb spec.base p.entry h.from)) (le-leb (suc p.entry) (spec.base + PAGE_BYTES * spec.pages) (omega (arith, h.below)))

any_test : (p : Program) (specs : List RegionSpec) (k : ℕ) (x : RegionSpec) → k < length specs → get_or specs k x ≡ x → IsEntered p x
    → list_any (is_entered p.entry) (map region_value specs) ≡ true
any_test p [] k x lt is h = absurd (omega arith)
any_test p (s ∷ ss) zero x lt is h =
    or_left (is_entered p.entry (region_value s)) (list_any (is_entered p.entry) (map region_value ss)) (rw is (entered_test p x h))
any_test p (s ∷ ss) (suc k) x lt is h =
    or_right (is_entered p.entry (region_value s)) (list_any (is_entered p.entry) (map region_value ss)) (any_test p ss k x (omega arith) is h)

pub record IsAgain (at used taken : ℕ) (bytes : List ℕ) (p : Program) (rest : List ℕ) : Type 0 where
  pub fault : program_fault at used taken bytes ≡ None
  pub value : program_at bytes ≡ program_value p
  pub behind : drop (program_size bytes) bytes ≡ rest
  pub size : program_size bytes + length rest ≡ length bytes

program_read : (at objects pages : ℕ) (bytes : List ℕ) (p : Program) (rest : List ℕ)
    → IsFour p.entry p.threads p.channels (length p.regions.items) (flat_map region_bytes p.regions.items ++ rest) bytes
    → IsProgram p → objects + program_objects p ≤ OBJECTS → pages + program_pages p ≤ PAGES → IsAgain at objects pages bytes p rest
unfolding program_at program_size
program_read at objects pages bytes p rest f program few_objects few_pages =
    let regions : List RegionSpec = p.regions.items in
    let again = regions_again (at + 16) pages [] regions rest (recursion_from_All IsRegion regions program.each_region) program.apart few_pages in
    let any = program.entered in
    let aligned : (p.entry % INSTRUCTION_BYTES == 0) ≡ true = rw program.entry refl in
    let found : list_any (is_entered p.entry) (map region_value regions) ≡ true = any_test p regions any.0 any.1 any.2 any.3 any.4 in
    let begins : may_begin p.entry (map region_value regions) ≡ true =
    both_true aligned found in
    let holds : Holds at objects pages bytes = record {
      header = omega (arith, f.count);
      some_thread = rw f.second program.some_thread;
      threads = rw f.second program.threads;
      channels = rw f.third (omega (arith, program.channels));
      some_region = rw f.fourth program.some_region;
      few_regions = rw f.fourth program.regions;
      count = rw (f.fourth, f.second) few_objects;
      regions = rw (f.fourth, f.rest) again.fault;
      begins = rw (f.first, f.fourth, f.rest, again.said) begins;
    } in
    record {
      fault = none_broken at objects pages bytes holds;
      value = rw (f.first, f.second, f.third, f.fourth, f.rest, again.said) refl;
      behind = sym (drop-drop (regions_size (word_at 12 bytes) (drop 16 bytes)) 16 bytes) ∙ rw (f.fourth, f.rest) again.behind;
      size = rw (f.fourth, f.rest) (omega (arith, again.size, f.count));
    }

program_again : (at objects pages : ℕ) (p : Program) (rest : List ℕ) → p.entry < 2 ^ 32 → IsProgram p
    → objects + program_objects p ≤ OBJECTS → pages + program_pages p ≤ PAGES → IsAgain at objects pages (program_bytes p ++ rest) p rest
program_again at objects pages p rest fits program few_objects few_pages =
    let numbers : AreNumbers p.entry p.threads p.channels (length p.regions.items) = record {
      first = fits;
      second = omega (arith, program.threads);
      third = omega (arith, program.channels);
      fourth = omega (arith, program.regions);
    } in
    let tail : List ℕ = flat_map region_bytes p.regions.items ++ rest in
    let bytes : List ℕ = four_words p.entry p.threads p.channels (length p.regions.items) tail in
    let f = four_read p.entry p.threads p.channels (length p.regions.items) tail numbers in
    rw program_text (program_read at objects pages bytes p rest f program few_objects few_pages)

pub record AreAllAgain (n at used taken : ℕ) (bytes : List ℕ) (list : List Program) (rest : List ℕ) : Type 0 where
  pub fault : programs_fault n at used taken bytes ≡ None
  pub said : programs_at n bytes ≡ map program_value list
  pub behind : drop (programs_size n bytes) bytes ≡ rest
  pub size : programs_size n bytes + length rest ≡ length bytes

-- an accepted program's entry is an address
entry_fits : (p : Program) (k : ℕ) (x : RegionSpec) → IsEntered p x → IsRegion x → p.entry < 2 ^ 32
entry_fits p k x entered region = omega (arith, entered.below, region.end)

pub entry_is_address : (p : Program) → IsProgram p → p.entry < 2 ^ 32
entry_is_address p program =
    let any = program.entered in
    let region : IsRegion (get_or p.regions.items any.0 any.1) = program.each_region any.0 any.1 any.2 in
    entry_fits p any.0 any.1 any.4 (rw any.3 at region)

pub programs_again : (at objects pages : ℕ) (programs : List Program) (rest : List ℕ) → AllByRecursion IsProgram programs
    → objects + sum_by program_objects programs ≤ OBJECTS → pages + sum_by program_pages programs ≤ PAGES
    → AreAllAgain (length programs) at objects pages (flat_map program_bytes programs ++ rest) programs rest
unfolding programs_fault programs_at programs_size
programs_again at objects pages [] rest each few_objects few_pages = record { fault = refl; said = refl; behind = refl; size = omega arith }
programs_again at objects pages (p ∷ ps) rest each few_objects few_pages =
    let bytes : List ℕ = flat_map program_bytes (p ∷ ps) ++ rest in
    let others : List ℕ = flat_map program_bytes ps ++ rest in
    let text : bytes ≡ program_bytes p ++ others = rw flat_map-cons (append_assoc (program_bytes p) (flat_map program_bytes ps) rest) in
    let used = sum_by-cons program_objects p ps in
    let taken = sum_by-cons program_pages p ps in
    let one : IsAgain at objects pages bytes p others =
    rw text (program_again at objects pages p others (entry_is_address p each.0) each.0 (omega (arith, few_objects, used)) (omega (arith, few_pages, taken))) in
    let next = programs_again (at + program_size bytes) (objects + program_objects p) (pages + program_pages p) ps rest each.1
    (omega (arith, few_objects, used)) (omega (arith, few_pages, taken)) in
    let objects-is : objects_of (program_at bytes) ≡ program_objects p =
    ap objects_of one.value ∙ rw (length-map p.regions.items region_value) refl in
    let pages-is : pages_of (program_at bytes).regions ≡ program_pages p =
    ap (λ (v : ProgramValue). pages_of v.regions) one.value ∙ pages_same p.regions.items in
    record {
      fault = rw (one.fault, one.behind, objects-is, pages-is, next.fault) refl;
      said = rw (one.behind, one.value, next.said) refl;
      behind = sym (drop-drop (programs_size (length ps) (drop (program_size bytes) bytes)) (program_size bytes) bytes) ∙ rw one.behind next.behind;
      size = rw one.behind (omega (arith, one.size, next.size));
    }
