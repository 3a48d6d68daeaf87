-- Which answers the plain machine allows to a list of events, and its world after them.
use Rattle.std.specs.Prelude.{◌≡◌, ◌≢◌, ◌⊎◌, ◌↔◌, ℕ, ◌<◌, ◌≤◌, List, [], ◌∷◌, ◌++◌, Option, IfSome, IfNone}
use Rattle.sls_base.specs.declared.limits.TheConstants.{WORDS, OUTPUT_CHANNELS}
use Rattle.sls_base.specs.declared.image.Image.{Image}
use Rattle.pmem_model.specs.Words.{is_within, writes_back, cuts}
use Rattle.pmem_model.specs.Memory.{Memory, word_at}
use Rattle.sls_kernel.specs.Plain.{World, first, cut, accept, offered}
use Rattle.sls_kernel.specs.Program.{program_bytes}
use Rattle.sls_kernel.specs.Shows.{ShowsOff, IsPrefixOf, durable_words, memory_of}
use Rattle.sls_kernel.specs.Side.{Mode, Formatting, Recovering, Running, BeforeCommit, AfterCommit, mode, left, IsServing, ModeGoes, turned, IsLawful, written, IsWritten, AskGoes, IsLawfulAsked}
use Rattle.sls_kernel.specs.declared.machine.Machine.{Machine}
use Rattle.sls_kernel.specs.declared.machine.Off.{Off}
use Rattle.sls_kernel.specs.declared.answers.Did.{Did}
use Rattle.sls_kernel.specs.declared.answers.Asked.{Asked}
use Rattle.sls_kernel.specs.declared.answers.Asked.TheVariants.{Started}
use Rattle.sls_kernel.specs.declared.answers.BootRefused.{BootRefused}
use Rattle.sls_kernel.specs.declared.play.Event.{Event}
use Rattle.sls_kernel.specs.declared.play.Event.TheVariants.{Turn, Ask, WriteBack, Accept, Cut}
use Rattle.sls_kernel.specs.declared.play.Answer.{Answer}
use Rattle.sls_kernel.specs.declared.play.Answer.TheVariants as told
use Rattle.sls_kernel.specs.declared.play.PlayBroken.{PlayBroken}
use Rattle.sls_kernel.specs.declared.play.PlayBroken.TheVariants.{NoRoom, Unlit}
use Rattle.sls_kernel.specs.declared.play.BootPlayBroken.{BootPlayBroken}
use Rattle.sls_kernel.specs.declared.play.BootPlayBroken.TheVariants.{NotBooted, Broken}

-- a write-back names a word of the memory, and an accept one of the channels
abbrev pub IsPossible : Event → Type 0
IsPossible Turn = Unit {0}
IsPossible Ask = Unit {0}
IsPossible (WriteBack word) = word < WORDS
IsPossible (Accept channel) = channel < OUTPUT_CHANNELS
IsPossible Cut = Unit {0}

-- What a caller sees of a machine.

-- what it does, the turns that are left of that, and its memory
pub record Side : Type 0 where
  pub doing : Mode
  pub turns : ℕ
  pub memory : Memory

abbrev pub side_of : Machine → Side
side_of m = record { doing = mode m; turns = left m; memory = memory_of m }

-- a machine that was booted on a memory
abbrev pub booted : Memory → Side
booted nvm = record { doing = Formatting; turns = 17; memory = nvm }

-- One event.

-- how a turn with this answer goes: where the machine doesn't run there are fewer turns left, and none is left exactly
-- where it then runs
pub record TurnGoes (old : Side) (did : Did) (new : Side) : Type 0 where
  pub doing : ModeGoes old.doing did new.doing
  pub turns : (old.doing ≡ Running) ⊎ (new.turns < old.turns)
  pub end : (new.turns ≡ 0) ↔ (new.doing ≡ Running)

-- how an ask with this answer goes: it begins a checkpoint of 16 turns, or nothing changes
pub record AskedGoes (old : Side) (asked : Asked) (new : Side) : Type 0 where
  pub serving : IsServing old.doing
  pub doing : AskGoes old.doing asked new.doing
  pub memory : new.memory ≡ old.memory
  pub turns : asked ≡ Started → new.turns ≡ 16
  pub same : asked ≢ Started → new ≡ old

-- how a write-back with this answer goes: that word becomes durable, as many turns are left, and either that commits a
-- checkpoint with at most 2 turns left, or the machine goes on as before
pub record WriteBackGoes (word : ℕ) (old : Side) (version : Option ℕ) (new : Side) : Type 0 where
  pub words : (i : ℕ) → word_at new.memory i ≡ writes_back (is_within word 1) (word_at old.memory) i
  pub none : IfNone version ((new.doing ≡ old.doing) × (new.turns ≡ old.turns))
  pub commit : IfSome version (λ v. (old.doing ≡ BeforeCommit) × (new.doing ≡ AfterCommit) × (old.turns ≤ 2))
  pub turns : new.turns ≡ old.turns

-- after a cut the machine recovers; it formats where the memory has no format word, and then it formatted before
abbrev pub BeginsAgain : Side → Side → Type 0
BeginsAgain old new =
    (new.doing ≡ Recovering) × (durable_words new.memory 0 ≢ 0)
    ⊎ (new.doing ≡ Formatting) × (old.doing ≡ Formatting) × (durable_words new.memory 0 ≡ 0)

-- how a cut goes: what is durable stays, and at most 17 turns are left
pub record CutGoes (old new : Side) : Type 0 where
  pub words : (i : ℕ) → word_at new.memory i ≡ cuts (word_at old.memory) i
  pub doing : BeginsAgain old new
  pub turns : new.turns ≤ 17

-- an ask or an accept is not done where the machine isn't up
abbrev pub IsNotUp : Side → Side → Type 0
IsNotUp old new = (IsServing old.doing → ⊥) × (new ≡ old)

-- the answer to an event is of its kind and allowed in the world, and the machine goes on so
abbrev pub IsAnswer : Event → Answer → Side → World → Side → Type 0
IsAnswer Turn (told.Did did) old w new = TurnGoes old did new × IsLawful w did
IsAnswer Ask (told.Asked asked) old w new = AskedGoes old asked new × IsLawfulAsked w asked
IsAnswer Ask told.NotUp old w new = IsNotUp old new
IsAnswer (WriteBack word) (told.WroteBack version) old w new = WriteBackGoes word old version new × IsWritten w version
IsAnswer (Accept channel) (told.Accepted on entry) old w new =
    IsServing old.doing × (new ≡ old) × (on ≡ channel) × (entry ≡ offered w channel)
IsAnswer (Accept channel) told.NotUp old w new = IsNotUp old new
IsAnswer Cut told.Restarted old w new = CutGoes old new
IsAnswer event answer old w new = ⊥

-- the world after an answer: a tick, a commit, an accept, a cut, or the same
abbrev pub after : World → Answer → World
after w (told.Did did) = turned w did
after w (told.Asked asked) = w
after w (told.WroteBack version) = written w version
after w (told.Accepted channel entry) = accept w channel
after w told.NotUp = w
after w told.Restarted = cut w

-- Lists of events.

-- the world after a list of answers
abbrev pub played : World → List Answer → World
played w [] = w
played w (answer ∷ answers) = played (after w answer) answers

-- each event has one answer, which is allowed in the world that the answers before it leave
abbrev pub IsPlayed : List Event → List Answer → Side → World → Side → Type 0
IsPlayed [] [] old w new = new ≡ old
IsPlayed (event ∷ events) (answer ∷ answers) old w new =
    (next : Side) × IsAnswer event answer old w next × IsPlayed events answers next (after w answer) new
IsPlayed [] (answer ∷ answers) old w new = ⊥
IsPlayed (event ∷ events) [] old w new = ⊥

-- what the device accepted of each channel is a first part of what the saved copy put
abbrev pub IsReleased : World → Type 0
IsReleased w = (channel : ℕ) → IsPrefixOf (w.released channel) (w.saved.out channel)

-- Where memory was missing.

-- The machine was cut and not lit: what is durable stays, and the memory without power shows the world after the cut,
-- as light with this image will.
pub record IsDark (image : Image) (old : Side) (w : World) (off : Off) : Type 0 where
  pub words : (i : ℕ) → word_at off.nvm i ≡ cuts (word_at old.memory) i
  pub shows : ShowsOff off w
  pub unformatted : durable_words off.nvm 0 ≡ 0 → w ≡ first (program_bytes image) w.commits w.cuts

-- a play came as far as a cut, with these answers to the events before it, and the machine was not lit again
pub record IsUnlit
    (image : Image) (events : List Event) (answers : List Answer) (old : Side) (w : World) (off : Off) : Type 0 where
  pub done : List Event
  pub rest : List Event
  pub split : events ≡ done ++ Cut ∷ rest
  pub before : Side
  pub plays : IsPlayed done answers old w before
  pub dark : IsDark image before (cut (played w answers)) off

-- this is so of the machine, where there was no room for the answers
abbrev pub IfNoRoom : PlayBroken → (Machine → Type 0) → Type 0
IfNoRoom (NoRoom machine) holds = holds machine
IfNoRoom (Unlit off answers) holds = Unit {0}

-- this is so of the memory without power and the answers, where a cut was not lit
abbrev pub IfUnlit : PlayBroken → (Off → List Answer → Type 0) → Type 0
IfUnlit (NoRoom machine) holds = Unit {0}
IfUnlit (Unlit off answers) holds = holds off answers.items

-- this is so of the refusal, where no machine was booted
abbrev pub IfNotBooted : BootPlayBroken → (BootRefused → Type 0) → Type 0
IfNotBooted (NotBooted refused) holds = holds refused
IfNotBooted (Broken broken) holds = Unit {0}

-- this is so of the refusal, where a machine was booted
abbrev pub IfBroken : BootPlayBroken → (PlayBroken → Type 0) → Type 0
IfBroken (NotBooted refused) holds = Unit {0}
IfBroken (Broken broken) holds = holds broken
