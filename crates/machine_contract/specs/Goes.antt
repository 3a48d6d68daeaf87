-- What each event does, by its answer: what was seen, the course, and what is seen then.
use Rattle.std.specs.Prelude.{◌≡◌, ℕ, ◌+◌, ◌≤◌, Bool, true, false, length, Option, Some, None, Result, Ok, Err, IfSome, slice_index, slice_set}
use Rattle.sls_base.specs.declared.entry.Entry.{Entry}
use Rattle.sls_base.specs.declared.entry.Full.{Full}
use Rattle.pmem_model.specs.Words.{is_within, writes_back, cuts}
use Rattle.pmem_model.specs.Memory.{count_up}
use Rattle.pmem_operations.specs.Operations.{AreOperations}
use Rattle.plain_model.specs.Worlds.{World}
use Rattle.plain_model.specs.Play.{is_offered, next_entry, has_input_room}
use Rattle.machine_contract.specs.declared.answers.Did.{Did}
use Rattle.machine_contract.specs.declared.answers.Did.TheVariants as did
use Rattle.machine_contract.specs.declared.answers.Asked.{Asked}
use Rattle.machine_contract.specs.declared.answers.Event.{Event}
use Rattle.machine_contract.specs.declared.answers.Event.TheVariants.{Turn, Ask, TakeWish, WriteBack, Input, Accept, Cut}
use Rattle.machine_contract.specs.declared.answers.Answer.{Answer}
use Rattle.machine_contract.specs.declared.answers.Answer.TheVariants as told
use Rattle.machine_contract.specs.Side.{Formatting, IsUp}
use Rattle.machine_contract.specs.Lawful.{IsLawful, IsLawfulAsked, IsLawfulBack, ForgetsWish}
use Rattle.machine_contract.specs.Courses.{Course, turn_label, back_label, after}
use Rattle.machine_contract.specs.Shown.{Seen, Format}
use Rattle.machine_contract.specs.Begins.{BeginsAgain}
use Rattle.machine_contract.specs.Boards.{IsRenewed, IfOpened}
use Rattle.machine_contract.specs.Operations.{operations}

-- A commit, by a turn or by a write-back: a machine that uses spares has opened the board of this checkpoint.
abbrev pub HasOpened : Format → Seen → Type 0
HasOpened format old = format.uses_spares ≡ true → old.side.is_open ≡ true

-- the turn tells anew which pages may be stored to
abbrev pub Renews : Did → Type 0
Renews (did.Committed version) = Unit {0}
Renews (did.Up version) = Unit {0}
Renews _ = ⊥

-- the turn commits
abbrev pub IsCommit : Did → Type 0
IsCommit (did.Committed version) = Unit {0}
IsCommit _ = ⊥

-- A turn of a core is lawful, does at most so many operations, and changes nothing else that is seen.
pub record TurnGoes (format : Format) (core : ℕ) (did : Did) (old : Seen) (c : Course) (new : Seen) : Type 0 where
  pub lawful : IsLawful c.world old.side core did new.side
  pub words : AreOperations core (operations did core old.side new.side) old.words new.words
  pub ops : new.ops ≤ old.ops + operations did core old.side new.side
  pub renewed : Renews did → IsRenewed format new (after c (turn_label core did)).world
  pub board : IfOpened format old c new
  pub opened : IsCommit did → HasOpened format old
  pub rest : new ≡ record old { side = new.side; words = new.words; ops = new.ops; commits = new.commits }

-- An ask is lawful, and changes the side alone.
pub record AskGoes (asked : Asked) (old : Seen) (c : Course) (new : Seen) : Type 0 where
  pub up : IsUp old.side.mode
  pub lawful : IsLawfulAsked c.world old.side asked new.side
  pub rest : new ≡ record old { side = new.side }

-- One who takes the wish changes the side alone.
pub record WishGoes (wish : Bool) (old new : Seen) : Type 0 where
  pub lawful : ForgetsWish old.side wish new.side
  pub rest : new ≡ record old { side = new.side }

-- A write-back makes the cached value of one word durable. It tells a version exactly where that commits.
pub record WriteBackGoes (format : Format) (word : ℕ) (version : Option ℕ) (old : Seen) (c : Course) (new : Seen)
    : Type 0 where
  pub lawful : IsLawfulBack c.world old.side version new.side
  pub words : (i : ℕ) → new.words i ≡ writes_back (is_within word 1) old.words i
  pub renewed : IfSome version (λ v. IsRenewed format new (after c (back_label version)).world)
  pub opened : IfSome version (λ v. HasOpened format old)
  pub rest : new ≡ record old { side = new.side; words = new.words; commits = new.commits }

-- there is no room exactly where Full is answered
abbrev pub IsGiven : World → Result (Unit {0}) Full → Type 0
IsGiven w (Ok _) = has_input_room w ≡ true
IsGiven w (Err full) = has_input_room w ≡ false

-- An input changes nothing that is seen.
pub record InputGoes (given : Result (Unit {0}) Full) (old : Seen) (c : Course) (new : Seen) : Type 0 where
  pub up : IsUp old.side.mode
  pub given_is : IsGiven c.world given
  pub rest : new ≡ old

-- no entry is offered
pub record IsDry (w : World) (channel : ℕ) (old new : Seen) : Type 0 where
  pub dry : is_offered w channel ≡ false
  pub rest : new ≡ old

-- the device takes the entry that is offered
pub record TakesEntry (w : World) (channel : ℕ) (entry : Entry) (old new : Seen) : Type 0 where
  pub offered : is_offered w channel ≡ true
  pub entry_is : entry ≡ next_entry w channel
  pub rest : new ≡ record old {
    accepted = slice_set old.accepted channel (slice_index old.accepted channel + 1);
  }

-- the entry that is offered, or none
abbrev pub IsTaken : World → ℕ → Option Entry → Seen → Seen → Type 0
IsTaken w channel None old new = IsDry w channel old new
IsTaken w channel (Some entry) old new = TakesEntry w channel entry old new

-- An accept takes the next entry, where one is offered.
pub record AcceptGoes (channel : ℕ) (entry : Option Entry) (old : Seen) (c : Course) (new : Seen) : Type 0 where
  pub up : IsUp old.side.mode
  pub taken : IsTaken c.world channel entry old new

-- A cut leaves of each word what is durable, and the machine begins again with the version that was committed. It
-- formats again only where it was formatting.
pub record CutGoes (version : ℕ) (old : Seen) (c : Course) (new : Seen) : Type 0 where
  pub words : (i : ℕ) → new.words i ≡ cuts old.words i
  pub begins : BeginsAgain new
  pub cores : length new.side.cores ≡ length old.side.cores
  pub formats : new.side.mode ≡ Formatting → old.side.mode ≡ Formatting
  pub version_is : version ≡ c.world.version
  pub accepted : new.accepted ≡ old.accepted
  pub ops : new.ops ≡ old.ops
  pub commits : new.commits ≡ old.commits
  pub cuts_up : new.cuts ≡ count_up old.cuts

-- Nothing is done while the machine isn't up.
pub record IsNotUp (old new : Seen) : Type 0 where
  pub down : IsUp old.side.mode → ⊥
  pub rest : new ≡ old

-- What an event with its answer does. Each event has answers of its own kind alone.
abbrev pub Goes : Format → Event → Answer → Seen → Course → Seen → Type 0
Goes format (Turn core) (told.Did did) old c new = TurnGoes format core did old c new
Goes format Ask (told.Asked asked) old c new = AskGoes asked old c new
Goes format Ask told.NotUp old c new = IsNotUp old new
Goes format TakeWish (told.Wish wish) old c new = WishGoes wish old new
Goes format (WriteBack word) (told.WroteBack version) old c new = WriteBackGoes format word version old c new
Goes format (Input bytes) (told.Given given) old c new = InputGoes given old c new
Goes format (Input bytes) told.NotUp old c new = IsNotUp old new
Goes format (Accept channel) (told.Accepted entry) old c new = AcceptGoes channel entry old c new
Goes format (Accept channel) told.NotUp old c new = IsNotUp old new
Goes format Cut (told.Restarted version) old c new = CutGoes version old c new
Goes format event answer old c new = ⊥
