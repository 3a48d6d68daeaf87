-- What the bytes of an image say, where no rule is broken.
use Rattle.std.proofs.Common.{◌≡◌, ℕ, ◌+◌, ◌≤◌, ◌==◌, ◌&&◌, Bool, nat_le, List, [], ◌∷◌, ◌++◌, length, drop, None, refl, ap, ◌∙◌, arith}
use Rattle.std.specs.Prelude.{IfOk, Ok, Err, Result}
use Rattle.std.specs.List.{flat_map}
use Rattle.std.proofs.lemmas.Bool.{leb-true, eqb-true, and_parts}
use Rattle.std.proofs.lemmas.List.{drop_all, append-nil, length-drop}
use Rattle.std.proofs.lemmas.List.Elements.{All-from_recursion}
use Rattle.sls_base.specs.declared.fixed.TheConstants.{FIRST_PROGRAM_OBJECT, FIRST_PROGRAM_PAGE}
use Rattle.sls_base.specs.declared.image.Image.{Image}
use Rattle.sls_base.specs.declared.image.Program.{Program}
use Rattle.plain_model.specs.declared.image.TheConstants.{PROGRAMS}
use Rattle.plain_model.specs.Initial.{IsProgram}
use Rattle.boot_image.specs.declared.format.TheConstants.{MAGIC, FORMAT, IMAGE_BYTES}
use Rattle.boot_image.specs.declared.fault.ImageCause.TheVariants.{Magic, Version, Length, Count}
use Rattle.boot_image.specs.declared.fault.ImageError.{ImageError}
use Rattle.boot_image.specs.Spelling.{word, program_bytes, image_bytes}
use Rattle.boot_image.specs.Values.{programs_of, word_at, programs_at, programs_size}
use Rattle.boot_image.specs.Rules.{Gives, unless, field}
use Rattle.boot_image.specs.Images.{IsImageBytes, header_fault, image_fault, image_size}
use Rattle.boot_image.specs.Programs.{programs_fault}
use Rattle.boot_image.proofs.Firsts.{one_holds, three_none, four_none, unless_holds}
use Rattle.boot_image.proofs.Words.{IsBytes, IsBytes-drop, next_again}
use Rattle.boot_image.proofs.ProgramsSaid.{programs_said}

-- each rule of a header holds
pub record Holds (bytes : List ℕ) : Type 0 where
  pub header : 12 ≤ length bytes
  pub magic : word_at 0 bytes ≡ MAGIC
  pub format : word_at 4 bytes ≡ FORMAT
  pub some_program : 1 ≤ word_at 8 bytes
  pub programs : word_at 8 bytes ≤ PROGRAMS

holds : (bytes : List ℕ) → header_fault bytes ≡ None → Holds bytes
unfolding header_fault
holds bytes e =
    let count : Bool = nat_le 1 (word_at 8 bytes) && nat_le (word_at 8 bytes) PROGRAMS in
    let h = four_none (unless (nat_le (length bytes) IMAGE_BYTES) Length IMAGE_BYTES) (field 0 0 bytes (unless (word_at 0 bytes == MAGIC) Magic 0 ∷ []))
    (field 0 4 bytes (unless (word_at 4 bytes == FORMAT) Version 4 ∷ [])) (field 0 8 bytes (unless count Count 8 ∷ [])) e in
    let magic = one_holds (nat_le 4 (length bytes)) (word_at 0 bytes == MAGIC) Length Magic 0 0 h.1 in
    let format = one_holds (nat_le 8 (length bytes)) (word_at 4 bytes == FORMAT) Length Version 4 4 h.2 in
    let programs = one_holds (nat_le 12 (length bytes)) count Length Count 8 8 h.3 in
    let range = and_parts (nat_le 1 (word_at 8 bytes)) (nat_le (word_at 8 bytes) PROGRAMS) programs.1 in
    record {
      header = leb-true 12 (length bytes) programs.0;
      magic = eqb-true (word_at 0 bytes) MAGIC magic.1;
      format = eqb-true (word_at 4 bytes) FORMAT format.1;
      some_program = leb-true 1 (word_at 8 bytes) range.0;
      programs = leb-true (word_at 8 bytes) PROGRAMS range.1;
    }

-- the first word is the bytes `SLSI`
pub image_text : (image : Image) → word MAGIC ++ (word FORMAT ++ (word (length image.programs.items) ++ flat_map program_bytes image.programs.items)) ≡ image_bytes image
unfolding word image_bytes
image_text image = refl

pub image_said : (bytes : List ℕ) (image : Image) → IsBytes bytes → image_fault bytes ≡ None
    → programs_of image ≡ programs_at (word_at 8 bytes) (drop 12 bytes) → IsImageBytes bytes image
unfolding image_fault
image_said bytes image fits e is =
    let size-is : Bool = length bytes == image_size bytes in
    let parts = three_none (header_fault bytes) (programs_fault (word_at 8 bytes) 12 FIRST_PROGRAM_OBJECT FIRST_PROGRAM_PAGE (drop 12 bytes))
    (unless size-is Length (image_size bytes)) e in
    let h = holds bytes parts.0 in
    let n : ℕ = word_at 8 bytes in
    let programs : List Program = image.programs.items in
    let said = programs_said n 12 FIRST_PROGRAM_OBJECT FIRST_PROGRAM_PAGE (drop 12 bytes) programs (IsBytes-drop 12 bytes fits) (omega arith) (omega arith) parts.1 is in
    let size : length bytes ≡ 12 + programs_size n (drop 12 bytes) = eqb-true (length bytes) (image_size bytes) (unless_holds size-is Length (image_size bytes) parts.2) in
    let nothing : drop (programs_size n (drop 12 bytes)) (drop 12 bytes) ≡ [] = drop_all (programs_size n (drop 12 bytes)) (drop 12 bytes) (omega (arith, length-drop 12 bytes, size)) in
    let rest-is : drop 12 bytes ≡ flat_map program_bytes programs = said.spelled ∙ rw nothing (append-nil (flat_map program_bytes programs)) in
    let e0 : bytes ≡ word MAGIC ++ drop 4 bytes = next_again 0 bytes fits (omega (arith, h.header)) ∙ rw h.magic refl in
    let e1 : drop 4 bytes ≡ word FORMAT ++ drop 8 bytes = next_again 4 bytes fits (omega (arith, h.header)) ∙ rw h.format refl in
    let e2 : drop 8 bytes ≡ word (length programs) ++ drop 12 bytes = next_again 8 bytes fits (omega (arith, h.header)) ∙ rw (said.count) refl in
    let text : bytes ≡ word MAGIC ++ (word FORMAT ++ (word (length programs) ++ flat_map program_bytes programs)) =
    e0 ∙ ap (λ (x : List ℕ). word MAGIC ++ x) (e1 ∙ ap (λ (x : List ℕ). word FORMAT ++ x) (e2 ∙ ap (λ (x : List ℕ). word (length programs) ++ x) rest-is)) in
    record {
      spelled = text ∙ image_text image;
      accepted = record {
        some_program = rw said.count h.some_program;
        programs = rw said.count h.programs;
        each_program = All-from_recursion IsProgram programs said.programs;
        objects = said.objects;
        pages = said.pages;
      };
    }

-- of what was read
pub result_said : (bytes : List ℕ) (r : Result Image ImageError) → IsBytes bytes
    → Gives (λ image. programs_of image) r (image_fault bytes) (programs_at (word_at 8 bytes) (drop 12 bytes)) → IfOk r (λ image. IsImageBytes bytes image)
result_said bytes (Ok image) fits given = image_said bytes image fits given.0 given.1
result_said bytes (Err e) fits given = tt
