-- The image of a program of code words.
use Rattle.std.specs.Prelude.{◌≡◌, ℕ, ◌/◌, ◌%◌, ◌≤◌, nat_lt, if◌then◌else◌, List, [], ◌∷◌, length, slice_index}
use Rattle.sls_base.specs.declared.limits.TheConstants.{PAGE_BYTES}
use Rattle.sls_kernel.specs.Words.{byte_of}
use Rattle.sls_base.specs.declared.image.Image.{Image}
use Rattle.sls_base.specs.declared.image.Program.{Program}
use Rattle.sls_base.specs.declared.image.RegionSpec.{RegionSpec}

-- one page at address 0 that may be read, written and executed, with at most a page of content
pub record IsCodeRegion (r : RegionSpec) : Type 0 where
  pub base : r.base ≡ 0
  pub pages : r.pages ≡ 1
  pub rights : r.rights ≡ 7
  pub content : length r.content.items ≤ PAGE_BYTES

abbrev pub AreCodeRegions : List RegionSpec → Type 0
AreCodeRegions [] = ⊥
AreCodeRegions (r ∷ []) = IsCodeRegion r
AreCodeRegions (r ∷ (more ∷ rest)) = ⊥

-- one thread that begins at address 0, with every channel
pub record IsCodeProgram (p : Program) : Type 0 where
  pub entry : p.entry ≡ 0
  pub threads : p.threads ≡ 1
  pub channels : p.channels ≡ 63
  pub regions : AreCodeRegions p.regions.items

abbrev pub AreCodePrograms : List Program → Type 0
AreCodePrograms [] = ⊥
AreCodePrograms (p ∷ []) = IsCodeProgram p
AreCodePrograms (p ∷ (more ∷ rest)) = ⊥

-- an image of one such program
abbrev pub IsOfCode : Image → Type 0
IsOfCode image = AreCodePrograms image.programs.items

-- the content of an image's first region
abbrev pub region_content : List RegionSpec → List ℕ
region_content [] = []
region_content (r ∷ rest) = r.content.items

abbrev pub program_content : List Program → List ℕ
program_content [] = []
program_content (p ∷ rest) = region_content p.regions.items

-- the page that a program begins with, by address: its content, and then zeros
abbrev pub program_bytes : Image → ℕ → ℕ
program_bytes image a = (if nat_lt a PAGE_BYTES then slice_index (program_content image.programs.items) a else 0)

-- the bytes of a page of words, by address
abbrev pub page_bytes : List ℕ → ℕ → ℕ
page_bytes words a = byte_of (slice_index words (a / 8)) (a % 8)
