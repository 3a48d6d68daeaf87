-- What the bytes of an image are, and which rule other bytes break.
use Rattle.std.specs.Prelude.{◌≡◌, ℕ, ◌+◌, nat_le, ◌==◌, ◌&&◌, List, [], ◌∷◌, length, drop, Option, Some}
use Rattle.sls_base.specs.declared.fixed.TheConstants.{FIRST_PROGRAM_OBJECT, FIRST_PROGRAM_PAGE}
use Rattle.sls_base.specs.declared.image.Image.{Image}
use Rattle.plain_model.specs.declared.image.TheConstants.{PROGRAMS}
use Rattle.plain_model.specs.Initial.{IsAccepted}
use Rattle.boot_image.specs.declared.fault.ImageCause.{ImageCause}
use Rattle.boot_image.specs.declared.fault.ImageCause.TheVariants.{Magic, Version, Length, Count}
use Rattle.boot_image.specs.declared.format.TheConstants.{IMAGE_BYTES, MAGIC, FORMAT, HEADER_BYTES}
use Rattle.boot_image.specs.Spelling.{image_bytes}
use Rattle.boot_image.specs.Values.{word_at, programs_size}
use Rattle.boot_image.specs.Rules.{Fault, unless, first, field}
use Rattle.boot_image.specs.Programs.{programs_fault}

-- bytes are those of an accepted image
pub record IsImageBytes (bytes : List ℕ) (image : Image) : Type 0 where
  pub spelled : bytes ≡ image_bytes image
  pub accepted : IsAccepted image

-- how many bytes the image takes that bytes begin with
abbrev pub image_size : List ℕ → ℕ
image_size bytes = HEADER_BYTES + programs_size (word_at 8 bytes) (drop HEADER_BYTES bytes)

-- the rules of a file's length and of its header
unfoldable pub header_fault : List ℕ → Option Fault
header_fault bytes = first (
    unless (nat_le (length bytes) IMAGE_BYTES) Length IMAGE_BYTES
    ∷ field 0 0 bytes (unless (word_at 0 bytes == MAGIC) Magic 0 ∷ [])
    ∷ field 0 4 bytes (unless (word_at 4 bytes == FORMAT) Version 4 ∷ [])
    ∷ field 0 8 bytes (unless (nat_le 1 (word_at 8 bytes) && nat_le (word_at 8 bytes) PROGRAMS) Count 8 ∷ []) ∷ [])

-- the rules of a file: it has a header, then its programs, and no byte is left over
unfoldable pub image_fault : List ℕ → Option Fault
image_fault bytes = first (
    header_fault bytes
    ∷ programs_fault (word_at 8 bytes) HEADER_BYTES FIRST_PROGRAM_OBJECT FIRST_PROGRAM_PAGE (drop HEADER_BYTES bytes)
    ∷ unless (length bytes == image_size bytes) Length (image_size bytes) ∷ [])

-- the first rule that bytes break has this cause, and the field at fault stands at this place
abbrev pub Breaks : List ℕ → ImageCause → ℕ → Type 0
Breaks bytes cause place = image_fault bytes ≡ Some (record { cause = cause; place = place })
