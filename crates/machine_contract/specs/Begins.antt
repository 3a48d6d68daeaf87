-- How a machine begins, how it begins again after a cut, and what every call keeps.
use Rattle.std.specs.Prelude.{◌≡◌, ◌↔◌, ℕ, ◌≤◌, length, replicate}
use Rattle.sls_base.specs.declared.limits.TheConstants.{OUTPUT_CHANNELS}
use Rattle.sls_base.specs.declared.image.Image.{Image}
use Rattle.pmem_model.specs.Words.{Word}
use Rattle.pmem_model.specs.Memory.{Memory, word_at, count_up}
use Rattle.pmem_layout.specs.declared.places.TheConstants.{FORMAT_AT}
use Rattle.plain_model.specs.Play.{cut}
use Rattle.plain_model.specs.Initial.{IsAccepted, first_world}
use Rattle.machine_contract.specs.declared.bounds.TheConstants.{START_TURNS}
use Rattle.machine_contract.specs.declared.answers.Off.{Off}
use Rattle.machine_contract.specs.Side.{Formatting, IsStarting, IsSound, begun, none_given}
use Rattle.machine_contract.specs.Courses.{Course}
use Rattle.machine_contract.specs.Shown.{Seen, Format, durable_of}

-- a word reads zero, and zero is durable
abbrev pub IsZero : Word → Type 0
IsZero word = (word.cached ≡ 0) × (word.durable ≡ 0)

-- A machine was booted: it formats this memory, and the device has accepted nothing.
pub record IsBooted (cores : ℕ) (nvm : Memory) (m : Seen) : Type 0 where
  pub side : m.side ≡ begun Formatting m.side.left cores none_given
  pub left : m.side.left ≤ START_TURNS
  pub sound : IsSound m.side
  pub rest : m ≡ record {
    side = m.side;
    words = word_at nvm;
    accepted = replicate OUTPUT_CHANNELS 0;
    ops = nvm.ops;
    commits = nvm.commits;
    cuts = nvm.cuts;
  }

-- A machine begins again: it formats where the memory is not formatted, and recovers otherwise.
pub record BeginsAgain (m : Seen) : Type 0 where
  pub mode : IsStarting m.side.mode
  pub unformatted : (m.side.mode ≡ Formatting) ↔ ((m.words FORMAT_AT).durable ≡ 0)
  pub side : m.side ≡ begun m.side.mode m.side.left (length m.side.cores) m.side.given
  pub left : m.side.left ≤ START_TURNS

-- A machine was lit: it begins again on the memory and the device's counts that were without power.
pub record IsLit (off : Off) (m : Seen) : Type 0 where
  pub begins : BeginsAgain m
  pub sound : IsSound m.side
  pub rest : m ≡ record {
    side = m.side;
    words = word_at off.nvm;
    accepted = off.accepted;
    ops = off.nvm.ops;
    commits = off.nvm.commits;
    cuts = off.nvm.cuts;
  }

-- A machine was cut before its memory was formatted, while it formatted from this image.
pub record WasFormatting (format : Format) (m : Seen) (image : Image) (off : Off) (c : Course) : Type 0 where
  pub mode : m.side.mode ≡ Formatting
  pub accepted : IsAccepted image
  pub world : cut c.world ≡ first_world image (length m.side.cores)
  pub words : format.Formats image (length m.side.cores) (durable_of (word_at off.nvm))

-- a cut is counted, and nothing else is
pub record CountsCut (m : Seen) (off : Off) : Type 0 where
  pub ops : off.nvm.ops ≡ m.ops
  pub commits : off.nvm.commits ≡ m.commits
  pub cuts : off.nvm.cuts ≡ count_up m.cuts

-- What stays through calls and cuts: the side is sound, and there are as many cores.
pub record IsKept (old new : Seen) : Type 0 where
  pub sound : IsSound new.side
  pub cores : length new.side.cores ≡ length old.side.cores

-- What every call keeps, beside that: the machine is made from the same images. `seen` is what is seen of a machine,
-- and `IsMadeFrom` says from which image it is made.
pub record Keeps {M : Type 0} (seen : M → Seen) (IsMadeFrom : M → Image → Type 0) (old new : M) : Type 0 where
  pub kept : IsKept (seen old) (seen new)
  pub image : (image : Image) → IsMadeFrom old image → IsMadeFrom new image
