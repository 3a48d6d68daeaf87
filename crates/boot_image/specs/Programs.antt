-- The rules of programs.
use Rattle.std.specs.Prelude.{ℕ, zero, suc, ◌+◌, ◌*◌, ◌%◌, nat_le, nat_lt, ◌==◌, Bool, ◌&&◌, List, [], ◌∷◌, drop}
use Rattle.std.specs.Prelude.{Option, None}
use Rattle.std.specs.List.{list_any}
use Rattle.sls_base.specs.declared.limits.TheConstants.{PAGE_BYTES, OBJECTS, INSTRUCTION_BYTES}
use Rattle.sls_base.specs.declared.rights.TheConstants.{EXECUTE}
use Rattle.sls_base.specs.Rights.{has_rights}
use Rattle.plain_model.specs.declared.image.TheConstants.{PROGRAM_THREADS, PROGRAM_REGIONS}
use Rattle.boot_image.specs.declared.fault.ImageCause.TheVariants.{Count, Channel, Entry}
use Rattle.boot_image.specs.declared.format.TheConstants.{PROGRAM_HEADER_BYTES, ALL_CHANNELS}
use Rattle.boot_image.specs.Values.{RegionValue, word_at, program_at, program_size, objects_of}
use Rattle.boot_image.specs.Values.{pages_of}
use Rattle.boot_image.specs.Rules.{Fault, unless, first, field}
use Rattle.boot_image.specs.Regions.{regions_fault}

-- Each field, in bytes that begin with a program and stand at a place of the file, behind objects of the image.

-- a program has 1 to 8 threads
unfoldable pub threads_fault : ℕ → List ℕ → Option Fault
threads_fault at bytes =
    field at 4 bytes (
    unless (nat_le 1 (word_at 4 bytes) && nat_le (word_at 4 bytes) PROGRAM_THREADS) Count (at + 4) ∷ [])

-- it names no channel that there isn't
unfoldable pub channels_fault : ℕ → List ℕ → Option Fault
channels_fault at bytes = field at 8 bytes (unless (nat_le (word_at 8 bytes) ALL_CHANNELS) Channel (at + 8) ∷ [])

-- it has 1 to 16 regions, and an image has at most 128 objects
unfoldable pub count_fault : ℕ → ℕ → List ℕ → Option Fault
count_fault at objects bytes = field at 12 bytes (
    unless (nat_le 1 (word_at 12 bytes) && nat_le (word_at 12 bytes) PROGRAM_REGIONS) Count (at + 12)
    ∷ unless (nat_le (objects + (2 + word_at 12 bytes + word_at 4 bytes)) OBJECTS) Count (at + 12) ∷ [])

-- a program may begin at an address of a region from which instructions may be fetched
abbrev pub is_entered : ℕ → RegionValue → Bool
is_entered entry r =
    has_rights r.rights EXECUTE && nat_le r.base entry && nat_lt entry (r.base + PAGE_BYTES * r.pages)

abbrev pub may_begin : ℕ → List RegionValue → Bool
may_begin entry regions = entry % INSTRUCTION_BYTES == 0 && list_any (is_entered entry) regions

-- the rules of a program, behind objects and pages of the image
unfoldable pub program_fault : ℕ → ℕ → ℕ → List ℕ → Option Fault
program_fault at objects pages bytes = first (
    field at 0 bytes []
    ∷ threads_fault at bytes
    ∷ channels_fault at bytes
    ∷ count_fault at objects bytes
    ∷ regions_fault (word_at 12 bytes) (at + PROGRAM_HEADER_BYTES) [] pages (drop PROGRAM_HEADER_BYTES bytes)
    ∷ unless (may_begin (program_at bytes).entry (program_at bytes).regions) Entry at ∷ [])

-- the rules of n more programs
unfoldable pub programs_fault : ℕ → ℕ → ℕ → ℕ → List ℕ → Option Fault
programs_fault zero at objects pages bytes = None
programs_fault (suc n) at objects pages bytes = first (
    program_fault at objects pages bytes
    ∷ programs_fault n (at + program_size bytes) (objects + objects_of (program_at bytes))
    (pages + pages_of (program_at bytes).regions) (drop (program_size bytes) bytes) ∷ [])
