-- What an image is, without where it lies in memory, and what bytes say.
use Rattle.std.specs.Prelude.{ℕ, zero, suc, ◌+◌, List, [], ◌∷◌, length, map, take, drop, sum_by}
use Rattle.byteorder.specs.Endian.{little_number}
use Rattle.sls_base.specs.declared.image.Image.{Image}
use Rattle.sls_base.specs.declared.image.Program.{Program}
use Rattle.sls_base.specs.declared.image.RegionSpec.{RegionSpec}
use Rattle.boot_image.specs.declared.format.TheConstants.{PROGRAM_HEADER_BYTES, REGION_HEADER_BYTES}
use Rattle.boot_image.specs.Spelling.{padded}

pub record RegionValue : Type 0 where
  pub base : ℕ
  pub pages : ℕ
  pub rights : ℕ
  pub content : List ℕ

pub record ProgramValue : Type 0 where
  pub entry : ℕ
  pub threads : ℕ
  pub channels : ℕ
  pub regions : List RegionValue

abbrev pub region_value : RegionSpec → RegionValue
region_value spec =
    record { base = spec.base; pages = spec.pages; rights = spec.rights; content = spec.content.items }

abbrev pub program_value : Program → ProgramValue
program_value p = record {
  entry = p.entry;
  threads = p.threads;
  channels = p.channels;
  regions = map region_value p.regions.items;
}

abbrev pub programs_of : Image → List ProgramValue
programs_of image = map program_value image.programs.items

-- the number in the four bytes from place k on, the lowest first
unfoldable pub word_at : ℕ → List ℕ → ℕ
word_at k bytes = little_number 4 (drop k bytes)

-- The region that bytes begin with, and how many of them it takes. Where they break a rule of regions it is of no use
-- to know what they say.
unfoldable pub region_at : List ℕ → RegionValue
region_at bytes = record {
  base = word_at 0 bytes;
  pages = word_at 4 bytes;
  rights = word_at 8 bytes;
  content = take (word_at 12 bytes) (drop REGION_HEADER_BYTES bytes);
}

unfoldable pub region_size : List ℕ → ℕ
region_size bytes = REGION_HEADER_BYTES + padded (word_at 12 bytes)

-- regions one after another: each, and how many bytes they take
unfoldable pub regions_at : ℕ → List ℕ → List RegionValue
regions_at zero bytes = []
regions_at (suc n) bytes = region_at bytes ∷ regions_at n (drop (region_size bytes) bytes)

unfoldable pub regions_size : ℕ → List ℕ → ℕ
regions_size zero bytes = 0
regions_size (suc n) bytes = region_size bytes + regions_size n (drop (region_size bytes) bytes)

-- a program, and how many bytes it takes
unfoldable pub program_at : List ℕ → ProgramValue
program_at bytes = record {
  entry = word_at 0 bytes;
  threads = word_at 4 bytes;
  channels = word_at 8 bytes;
  regions = regions_at (word_at 12 bytes) (drop PROGRAM_HEADER_BYTES bytes);
}

unfoldable pub program_size : List ℕ → ℕ
program_size bytes = PROGRAM_HEADER_BYTES + regions_size (word_at 12 bytes) (drop PROGRAM_HEADER_BYTES bytes)

unfoldable pub programs_at : ℕ → List ℕ → List ProgramValue
programs_at zero bytes = []
programs_at (suc n) bytes = program_at bytes ∷ programs_at n (drop (program_size bytes) bytes)

unfoldable pub programs_size : ℕ → List ℕ → ℕ
programs_size zero bytes = 0
programs_size (suc n) bytes = program_size bytes + programs_size n (drop (program_size bytes) bytes)

-- the objects of a program are its group, its space, a memory object for each region and its threads
abbrev pub objects_of : ProgramValue → ℕ
objects_of p = 2 + length p.regions + p.threads

abbrev pub pages_of : List RegionValue → ℕ
pages_of regions = sum_by (λ r. r.pages) regions
