-- What a caller sees of a machine, and what that says of the course that the machine shows.
use Rattle.std.specs.Prelude.{◌≡◌, ◌≢◌, ◌⊎◌, ℕ, ◌+◌, ◌<◌, ◌≤◌, Bool, true, List, length, Some, slice_index}
use Rattle.sls_base.specs.declared.limits.TheConstants.{OUTPUT_CHANNELS, LAST_VERSION, VERSION_AT}
use Rattle.sls_base.specs.declared.image.Image.{Image}
use Rattle.pmem_model.specs.Words.{Word}
use Rattle.pmem_model.specs.Memory.{Memory, word_at, is_at_home, AllHome}
use Rattle.pmem_layout.specs.declared.places.TheConstants.{FORMAT_AT}
use Rattle.plain_model.specs.States.{State}
use Rattle.plain_model.specs.Worlds.{World, accepted_count, has_page}
use Rattle.plain_model.specs.Play.{cut}
use Rattle.plain_model.specs.Initial.{IsAccepted, first_world}
use Rattle.plain_laws.specs.Laws.{IsInOrder}
use Rattle.machine_contract.specs.Side.{Mode, Formatting, BeforeCommit, IsStarting, Side, core_at, IsSound}
use Rattle.machine_contract.specs.Courses.{Course}

-- What a caller sees of a machine: its side; each word of its memory, those of frames on the board too; how many
-- entries of each channel the device has accepted; and the memory's counts, with the operations on frames that are on
-- the board.
pub record Seen : Type 0 where
  pub side : Side
  pub words : ℕ → Word
  pub accepted : List ℕ
  pub ops : ℕ
  pub commits : ℕ
  pub cuts : ℕ

-- the durable values of words
abbrev pub durable_of : (ℕ → Word) → ℕ → ℕ
durable_of words i = (words i).durable

-- What durable words mean to a machine, which each machine says.
pub record Format : Type 1 where
  -- `Stands durable base accepted s`: read at the version in the version word, they are the state, where the device
  -- had accepted `base` entries of each channel when the play began, and by now `accepted`
  pub Stands : (ℕ → ℕ) → (ℕ → ℕ) → (ℕ → ℕ) → State → Type 0
  -- `Formats image cores durable`: each is 0, or the one that formatting from the image for so many cores stores there
  pub Formats : Image → ℕ → (ℕ → ℕ) → Type 0
  -- `Tagged durable version page`: the page isn't fresh at the version, and a slot of it has the version as its tag
  pub Tagged : (ℕ → ℕ) → ℕ → ℕ → Type 0
  -- `spare_has durable version spare`: the spare has the version as its tag
  pub spare_has : (ℕ → ℕ) → ℕ → ℕ → Bool
  -- hot pages are copied to spares: a checkpoint doesn't commit without a board
  pub uses_spares : Bool

-- Durable words are the saved copy of a world, and the version word has its version.
pub record IsSaved (format : Format) (durable : ℕ → ℕ) (w : World) : Type 0 where
  pub formatted : durable FORMAT_AT ≢ 0
  pub version : durable VERSION_AT ≡ w.version
  pub stands : format.Stands durable w.base (accepted_count w) w.saved

-- Or the memory is not formatted yet, and the world is the first one of an accepted image.
pub record IsUnformatted (format : Format) (durable : ℕ → ℕ) (w : World) : Type 0 where
  pub unformatted : durable FORMAT_AT ≡ 0
  pub version : durable VERSION_AT ≡ 0
  pub image : Image
  pub cores : ℕ
  pub accepted : IsAccepted image
  pub world : w ≡ first_world image cores
  pub words : format.Formats image cores durable

-- the device has the entries that were released; these are the first ones of the saved copy's, and those of the running
-- state's
pub record IsCounted (accepted : List ℕ) (w : World) : Type 0 where
  pub counts : (channel : ℕ) → channel < OUTPUT_CHANNELS → slice_index accepted channel ≡ accepted_count w channel
  pub in_order : IsInOrder w

-- the version word reads the version; before a commit it may read the next one
abbrev pub VersionReads : Mode → ℕ → ℕ → Type 0
VersionReads mode cached version = (cached ≡ version) ⊎ (mode ≡ BeforeCommit) × (cached ≡ version + 1)

-- a machine that formats may have a memory that isn't formatted yet
abbrev pub WordsShow : Format → Seen → World → Type 0
WordsShow format m w =
    IsSaved format (durable_of m.words) w
    ⊎ (m.side.mode ≡ Formatting) × IsUnformatted format (durable_of m.words) w

-- What is seen of a machine that shows a course, at every moment.
pub record IsShown (format : Format) (m : Seen) (c : Course) : Type 0 where
  pub words : WordsShow format m c.world
  pub version_word : VersionReads m.side.mode (m.words VERSION_AT).cached c.world.version
  pub in_range : c.world.version ≤ LAST_VERSION
  pub counted : IsCounted m.accepted c.world
  pub starting : IsStarting m.side.mode → cut c.world ≡ c.world
  pub cores : length c.world.now.cores ≡ length m.side.cores
  pub saved_cores : length c.world.saved.cores ≡ length m.side.cores
  pub sound : IsSound m.side
  pub prepared : (core page : ℕ) → (core_at m.side core).prepares ≡ Some page → has_page c.world.now page ≡ true
  pub commits : m.commits ≡ c.commits
  pub cuts : m.cuts ≡ c.cuts

-- What is seen of a memory without power that shows a course: the running state is the saved one, without inputs.
pub record IsShownOff (format : Format) (nvm : Memory) (accepted : List ℕ) (c : Course) : Type 0 where
  pub clean : (i : ℕ) → (word_at nvm i).cached ≡ (word_at nvm i).durable
  pub words : IsSaved format (durable_of (word_at nvm)) c.world
      ⊎ IsUnformatted format (durable_of (word_at nvm)) c.world
  pub counted : IsCounted accepted c.world
  pub off : cut c.world ≡ c.world
  pub commits : nvm.commits ≡ c.commits
  pub cuts : nvm.cuts ≡ c.cuts

-- The memory that a machine lends has the words that are seen, but those of frames that are away.
pub record IsLent (m : Seen) (nvm : Memory) : Type 0 where
  pub words : (i : ℕ) → is_at_home nvm i ≡ true → word_at nvm i ≡ m.words i
  pub ops : AllHome nvm → nvm.ops ≡ m.ops
  pub commits : nvm.commits ≡ m.commits
  pub cuts : nvm.cuts ≡ m.cuts
