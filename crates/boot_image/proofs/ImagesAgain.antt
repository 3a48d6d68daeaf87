-- The bytes of an accepted image break no rule, and are those of no other image.
use Rattle.std.proofs.Common.{◌≡◌, ℕ, ◌+◌, ◌-◌, ◌*◌, ◌^◌, ◌<◌, ◌≤◌, ◌==◌, true, nat_le, List, [], ◌∷◌, ◌++◌, length, drop, None, refl, sym, ap, ◌∙◌, arith}
use Rattle.std.specs.Prelude.{map, sum_by}
use Rattle.std.specs.List.{flat_map, AllByRecursion}
use Rattle.std.proofs.lemmas.Bool.{le-leb, eq-eqb}
use Rattle.std.proofs.lemmas.List.{append-nil, length-append, length-replicate}
use Rattle.std.proofs.lemmas.List.Concat.{flat_map-cons}
use Rattle.std.proofs.lemmas.List.Elements.{recursion_from_All}
use Rattle.std.proofs.lemmas.List.Sums.{sum_by-cons}
use Rattle.byteorder.specs.Numbers.{little_number-reads_back}
use Rattle.sls_base.specs.declared.fixed.TheConstants.{FIRST_PROGRAM_OBJECT, FIRST_PROGRAM_PAGE}
use Rattle.sls_base.specs.declared.image.Image.{Image}
use Rattle.sls_base.specs.declared.image.Program.{Program}
use Rattle.sls_base.specs.declared.image.RegionSpec.{RegionSpec}
use Rattle.plain_model.specs.declared.image.TheConstants.{PROGRAMS}
use Rattle.plain_model.specs.Initial.{IsRegion, IsProgram, IsAccepted, program_size as program_objects, program_pages, pages_taken}
use Rattle.boot_image.specs.declared.format.TheConstants.{MAGIC, FORMAT, IMAGE_BYTES}
use Rattle.boot_image.specs.Spelling.{word, padded, padding, region_bytes, program_bytes}
use Rattle.boot_image.specs.Values.{program_value, programs_of, word_at, programs_at, programs_size}
use Rattle.boot_image.specs.Programs.{programs_fault}
use Rattle.boot_image.specs.Images.{IsImageBytes, image_size, header_fault, image_fault}
use Rattle.boot_image.proofs.Words.{four_words}
use Rattle.boot_image.proofs.RegionFacts.{region_text}
use Rattle.boot_image.proofs.ProgramsSaid.{program_text}
use Rattle.boot_image.proofs.ProgramsAgain.{programs_again}
use Rattle.boot_image.proofs.ImagesSaid.{Holds, image_text}

yes : (a b : ℕ) → a ≤ b → nat_le a b ≡ true
yes a b h = le-leb a b h

-- How many bytes there are.

length-four : (a b c d : ℕ) (rest : List ℕ) → length (four_words a b c d rest) ≡ 16 + length rest
unfolding word
length-four a b c d rest = omega arith

region_length : (spec : RegionSpec) → IsRegion spec → length (region_bytes spec) ≤ 16 + 4096 * spec.pages
region_length spec region =
    let content : List ℕ = spec.content.items in
    let n : ℕ = length content in
    let text = region_text spec [] in
    let long : length (region_bytes spec) ≡ 16 + length (content ++ (padding n ++ [])) =
    ap length (sym (append-nil (region_bytes spec)) ∙ text) ∙ length-four spec.base spec.pages spec.rights n (content ++ (padding n ++ [])) in
    let more : n ≤ padded n = omega arith in
    omega (arith, long, length-append content (padding n ++ []), length-append (padding n) [], length-replicate {A = ℕ} (padded n - n) 0, region.content)

regions_length : (specs : List RegionSpec) → AllByRecursion IsRegion specs
    → length (flat_map region_bytes specs) ≤ 16 * length specs + 4096 * sum_by pages_taken specs
regions_length [] each = omega arith
regions_length (s ∷ ss) each =
    rw (flat_map-cons, length-append) (omega (arith, region_length s each.0, regions_length ss each.1, sum_by-cons pages_taken s ss))

program_length : (p : Program) → IsProgram p → length (program_bytes p) ≤ 16 + 16 * program_objects p + 4096 * program_pages p
program_length p program =
    let regions : List RegionSpec = p.regions.items in
    let long : length (program_bytes p) ≡ 16 + length (flat_map region_bytes regions ++ []) =
    ap length (sym (append-nil (program_bytes p)) ∙ program_text p []) ∙ length-four p.entry p.threads p.channels (length regions) (flat_map region_bytes regions ++ []) in
    omega (arith, long, length-append (flat_map region_bytes regions) [], regions_length regions (recursion_from_All IsRegion regions program.each_region))

programs_length : (programs : List Program) → AllByRecursion IsProgram programs
    → length (flat_map program_bytes programs) ≤ 16 * length programs + 16 * sum_by program_objects programs + 4096 * sum_by program_pages programs
programs_length [] each = omega arith
programs_length (p ∷ ps) each =
    rw (flat_map-cons, length-append) (omega (arith, program_length p each.0, programs_length ps each.1, sum_by-cons program_objects p ps, sum_by-cons program_pages p ps))

-- a header and what follows it
pub record IsHeader (a b c : ℕ) (tail bytes : List ℕ) : Type 0 where
  pub first : word_at 0 bytes ≡ a
  pub second : word_at 4 bytes ≡ b
  pub third : word_at 8 bytes ≡ c
  pub rest : drop 12 bytes ≡ tail
  pub count : length bytes ≡ 12 + length tail

header_read : (a b c : ℕ) (tail : List ℕ) → a < 2 ^ 32 → b < 2 ^ 32 → c < 2 ^ 32 → IsHeader a b c tail (word a ++ (word b ++ (word c ++ tail)))
unfolding word_at word
header_read a b c tail ha hb hc = record {
  first = little_number-reads_back 4 a (word b ++ (word c ++ tail)) ha;
  second = little_number-reads_back 4 b (word c ++ tail) hb;
  third = little_number-reads_back 4 c tail hc;
  rest = refl;
  count = omega arith;
}

header_none : (bytes : List ℕ) → length bytes ≤ IMAGE_BYTES → Holds bytes → header_fault bytes ≡ None
unfolding header_fault
header_none bytes short h =
    rw (
      yes (length bytes) IMAGE_BYTES short,
      yes 4 (length bytes) (omega (arith, h.header)),
      h.magic,
      yes 8 (length bytes) (omega (arith, h.header)),
      h.format,
      yes 12 (length bytes) h.header,
      yes 1 (word_at 8 bytes) h.some_program,
      yes (word_at 8 bytes) PROGRAMS h.programs,
    ) refl

pub record IsAgain (bytes : List ℕ) (image : Image) : Type 0 where
  pub fault : image_fault bytes ≡ None
  pub said : programs_at (word_at 8 bytes) (drop 12 bytes) ≡ programs_of image

image_read : (bytes : List ℕ) (image : Image) → IsAccepted image
    → IsHeader MAGIC FORMAT (length image.programs.items) (flat_map program_bytes image.programs.items) bytes → IsAgain bytes image
unfolding image_fault
image_read bytes image accepted f =
    let programs : List Program = image.programs.items in
    let text : List ℕ = flat_map program_bytes programs in
    let each = recursion_from_All IsProgram programs accepted.each_program in
    let again = programs_again 12 FIRST_PROGRAM_OBJECT FIRST_PROGRAM_PAGE programs [] each accepted.objects accepted.pages in
    let plain : text ++ [] ≡ text = append-nil text in
    let fault : programs_fault (length programs) 12 FIRST_PROGRAM_OBJECT FIRST_PROGRAM_PAGE text ≡ None = rw plain at again.fault in
    let said : programs_at (length programs) text ≡ map program_value programs = rw plain at again.said in
    let whole : programs_size (length programs) text + 0 ≡ length text = rw plain at again.size in
    let short : length bytes ≤ IMAGE_BYTES = omega (arith, f.count, programs_length programs each, accepted.programs, accepted.objects, accepted.pages) in
    let holds : Holds bytes = record {
      header = omega (arith, f.count);
      magic = f.first;
      format = f.second;
      some_program = rw f.third accepted.some_program;
      programs = rw f.third accepted.programs;
    } in
    let size : image_size bytes ≡ length bytes = rw (f.third, f.rest) (omega (arith, whole, f.count)) in
    let test : (length bytes == image_size bytes) ≡ true = eq-eqb (length bytes) (image_size bytes) (sym size) in
    record {
      fault = rw (header_none bytes short holds, test, f.third, f.rest, fault) refl;
      said = rw (f.third, f.rest) said;
    }

pub image_again : (bytes : List ℕ) (image : Image) → IsImageBytes bytes image → IsAgain bytes image
image_again bytes image h =
    let f = header_read MAGIC FORMAT (length image.programs.items) (flat_map program_bytes image.programs.items) (omega arith) (omega arith)
    (omega (arith, h.accepted.programs)) in
    let text : bytes ≡ word MAGIC ++ (word FORMAT ++ (word (length image.programs.items) ++ flat_map program_bytes image.programs.items)) =
    h.spelled ∙ sym (image_text image) in
    rw text (image_read _ image h.accepted f)

pub one_image : (bytes : List ℕ) (a b : Image) → IsImageBytes bytes a → IsImageBytes bytes b → programs_of a ≡ programs_of b
one_image bytes a b ha hb = sym (image_again bytes a ha).said ∙ (image_again bytes b hb).said
