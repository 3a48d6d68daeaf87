-- Images of code are accepted.
use Rattle.std.proofs.Common.{◌≡◌, ℕ, ◌*◌, ◌≤◌, List, [], ◌∷◌, length, refl, sym, ap, subst, ◌∙◌, arith}
use Rattle.std.specs.Prelude.{map, sum_by, Any}
use Rattle.std.specs.List.{flat_map, AllByRecursion}
use Rattle.std.proofs.lemmas.List.{length-append, length-map}
use Rattle.std.proofs.lemmas.List.Concat.{flat_map-cons}
use Rattle.std.proofs.lemmas.List.Elements.{All-from_recursion}
use Rattle.std.proofs.lemmas.List.Sums.{sum_by-cons}
use Rattle.sls_base.specs.declared.image.Image.{Image}
use Rattle.sls_base.specs.declared.image.Program.{Program}
use Rattle.sls_base.specs.declared.image.RegionSpec.{RegionSpec}
use Rattle.plain_model.specs.Initial.{IsRegion, IsEntered, IsProgram, IsAccepted, program_size as program_objects, program_pages}
use Rattle.boot_image.specs.Spelling.{word}
use Rattle.boot_image.specs.Values.{RegionValue, ProgramValue, region_value, program_value}
use Rattle.boot_image.specs.Made.{code_program, made_words}
use Rattle.boot_image.proofs.Words.{length-word}

-- a program of code words that fit its pages
pub record IsCode (pages : ℕ) (p : Program) : Type 0 where
  pub words : List ℕ
  pub fits : length words ≤ 1024 * pages
  pub is : program_value p ≡ code_program pages words

length_words : (words : List ℕ) → length (flat_map word words) ≡ 4 * length words
length_words [] = refl
length_words (w ∷ ws) = rw (flat_map-cons, length-append) (omega (arith, length-word w, length_words ws))

-- a list of which one value is seen has one item
pub record IsOne (regions : List RegionSpec) (value : RegionValue) : Type 0 where
  pub only : RegionSpec
  pub list : regions ≡ only ∷ []
  pub is : region_value only ≡ value

one_of : (regions : List RegionSpec) (value : RegionValue) → map region_value regions ≡ value ∷ [] → IsOne regions value
one_of [] value e = absurd cc
one_of (r ∷ []) value e = record { only = r; list = refl; is = cc }
one_of (r ∷ s ∷ more) value e = absurd cc

pub record IsMade (size : ℕ) (p : Program) : Type 0 where
  pub program : IsProgram p
  pub objects : program_objects p ≡ 4
  pub pages : program_pages p ≡ size

code_made : (pages : ℕ) (p : Program) → 1 ≤ pages → pages ≤ 16 → IsCode pages p → IsMade pages p
unfolding code_program
code_made pages p some few code =
    let entry-is : p.entry ≡ 0 = ap (λ (v : ProgramValue). v.entry) code.is in
    let threads-is : p.threads ≡ 1 = ap (λ (v : ProgramValue). v.threads) code.is in
    let channels-is : p.channels ≡ 63 = ap (λ (v : ProgramValue). v.channels) code.is in
    let one = one_of p.regions.items _ (ap (λ (v : ProgramValue). v.regions) code.is) in
    let s : RegionSpec = one.only in
    let base-is : s.base ≡ 0 = ap (λ (r : RegionValue). r.base) one.is in
    let pages-is : s.pages ≡ pages = ap (λ (r : RegionValue). r.pages) one.is in
    let rights-is : s.rights ≡ 7 = ap (λ (r : RegionValue). r.rights) one.is in
    let content-is : s.content.items ≡ flat_map word code.words = ap (λ (r : RegionValue). r.content) one.is in
    let long : length s.content.items ≡ 4 * length code.words = rw content-is (length_words code.words) in
    let region : IsRegion s = record {
      base = rw base-is refl;
      some_page = omega arith;
      pages = omega arith;
      end = omega arith;
      some_right = omega arith;
      rights = omega arith;
      content = omega (arith, long, code.fits, pages-is);
    } in
    let entered : IsEntered p s = record { executes = rw rights-is refl; from = omega arith; below = omega arith } in
    record {
      program = record {
        some_thread = omega arith;
        threads = omega arith;
        some_region = rw one.list (omega arith);
        regions = rw one.list (omega arith);
        each_region = rw one.list (All-from_recursion IsRegion (s ∷ []) (region, tt));
        apart = rw one.list (λ i j d lt under. absurd (omega arith));
        channels = omega arith;
        entry = rw entry-is refl;
        entered = subst (λ (xs : List RegionSpec). Any (IsEntered p) xs) (sym one.list) (0, s, omega arith, refl, entered);
      };
      objects = rw (one.list, threads-is) refl;
      pages = rw one.list (omega (arith, pages-is));
    }

pub record AreMade (list : List Program) : Type 0 where
  pub programs : AllByRecursion IsProgram list
  pub objects : sum_by program_objects list ≡ 4 * length list
  pub pages : sum_by program_pages list ≤ 16 * length list

are_made : (pages : ℕ) (programs : List Program) → 1 ≤ pages → pages ≤ 16 → AllByRecursion (IsCode pages) programs → AreMade programs
are_made pages [] some few code = record { programs = tt; objects = refl; pages = omega arith }
are_made pages (p ∷ ps) some few code =
    let one = code_made pages p some few code.0 in
    let next = are_made pages ps some few code.1 in
    record {
      programs = (one.program, next.programs);
      objects = omega (arith, sum_by-cons program_objects p ps, one.objects, next.objects);
      pages = omega (arith, sum_by-cons program_pages p ps, one.pages, next.pages);
    }

are_code : (pages : ℕ) (code : ℕ → List ℕ) (ks : List ℕ) (programs : List Program) → ((k : ℕ) → length (code k) ≤ 1024 * pages)
    → map program_value programs ≡ map (λ k. code_program pages (code k)) ks → AllByRecursion (IsCode pages) programs
are_code pages code [] [] fits e = tt
are_code pages code [] (p ∷ ps) fits e = absurd cc
are_code pages code (k ∷ ks) [] fits e = absurd cc
are_code pages code (k ∷ ks) (p ∷ ps) fits e = (record { words = code k; fits = fits k; is = cc }, are_code pages code ks ps fits cc)

-- 1 to 8 programs of code are accepted
pub code_accepted : (pages : ℕ) (code : ℕ → List ℕ) (ks : List ℕ) (image : Image) → 1 ≤ pages → pages ≤ 16 → ((k : ℕ) → length (code k) ≤ 1024 * pages)
    → 1 ≤ length ks → length ks ≤ 8
    → map program_value image.programs.items ≡ map (λ k. code_program pages (code k)) ks → IsAccepted image
code_accepted pages code ks image some few fits some_code few_code e =
    let programs : List Program = image.programs.items in
    let made = are_made pages programs some few (are_code pages code ks programs fits e) in
    let count : length programs ≡ length ks = sym (length-map programs program_value) ∙ ap length e ∙ length-map ks (λ k. code_program pages (code k)) in
    record {
      some_program = omega (arith, count);
      programs = omega (arith, count);
      each_program = All-from_recursion IsProgram programs made.programs;
      objects = omega (arith, made.objects, count);
      pages = omega (arith, made.pages, count);
    }

pub length-made_words : (number p : ℕ) → length (made_words number p) ≡ 19
unfolding made_words
length-made_words number p = refl
