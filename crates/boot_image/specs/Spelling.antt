-- The one spelling of an image in bytes.
use Rattle.std.specs.Prelude.{ℕ, ◌+◌, ◌-◌, ◌*◌, ◌/◌, List, ◌++◌, length, replicate, codes}
use Rattle.std.specs.List.{flat_map}
use Rattle.byteorder.specs.Endian.{little_bytes}
use Rattle.sls_base.specs.declared.image.Image.{Image}
use Rattle.sls_base.specs.declared.image.Program.{Program}
use Rattle.sls_base.specs.declared.image.RegionSpec.{RegionSpec}
use Rattle.boot_image.specs.declared.format.TheConstants.{FORMAT}

-- a number in four bytes, the lowest first
unfoldable pub word : ℕ → List ℕ
word n = little_bytes 4 n

-- how many bytes content of this length takes: a multiple of 4
abbrev pub padded : ℕ → ℕ
padded n = (n + 3) / 4 * 4

-- the zeros behind content of this length
abbrev pub padding : ℕ → List ℕ
padding n = replicate (padded n - n) 0

-- base, pages, rights, the length of the content, and the content
unfoldable pub region_bytes : RegionSpec → List ℕ
region_bytes spec =
    word spec.base ++ word spec.pages ++ word spec.rights ++ word (length spec.content.items)
    ++ spec.content.items ++ padding (length spec.content.items)

-- entry, threads, channels, the number of regions, and the regions
unfoldable pub program_bytes : Program → List ℕ
program_bytes p =
    word p.entry ++ word p.threads ++ word p.channels ++ word (length p.regions.items)
    ++ flat_map region_bytes p.regions.items

-- `SLSI`, the format, the number of programs, and the programs
unfoldable pub image_bytes : Image → List ℕ
image_bytes image =
    codes "SLSI" ++ word FORMAT ++ word (length image.programs.items) ++ flat_map program_bytes image.programs.items
