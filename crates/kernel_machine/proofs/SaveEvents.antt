-- What is seen of a kernel within a checkpoint, and what an operation makes of that.
use Rattle.std.specs.Prelude.{◌≡◌, ◌≢◌, ◌⊎◌, ℕ, ◌+◌, ◌<◌, ◌≤◌, if◌then◌else◌, nat_lt, Bool, false, List, []}
use Rattle.std.proofs.Common.{refl, ap, sym, ◌∙◌, arith, inl, inr}
use Rattle.std.proofs.lemmas.Bool.{eq-eqb, ne_eqb, le-ltb, lt-ltb}
use Rattle.sls_base.specs.declared.limits.TheConstants.{VERSION_AT}
use Rattle.pmem_model.specs.Words.{Word}
use Rattle.pmem_model.specs.Memory.{Memory, word_at, KeepsCounts, count_up}
use Rattle.pmem_operations.specs.Operations.{AreOperations, IsAtMostOne}
use Rattle.plain_state.specs.Worlds.{World}
use Rattle.leader_helper.specs.Stages.{is_before_commit}
use Rattle.leader_helper.specs.declared.stage.Stage.{Stage}
use Rattle.leader_helper.specs.Leads.{Applied, Applying}
use Rattle.checkpoint_turns.specs.declared.checkpoint.Checkpoint.{Checkpoint}
use Rattle.checkpoint_turns.specs.Checkpoints.{Before, Behind, IsBefore, IsBehind, IsOf}
use Rattle.machine_contract.specs.Side.{AfterCommit, BeforeCommit, CoreSide, InCheckpoint, Mode, Side, none_given}
use Rattle.machine_contract.specs.Side.{with_at}
use Rattle.machine_contract.specs.Courses.{Course}
use Rattle.kernel_machine.specs.declared.work.Work.{Work}
use Rattle.kernel_machine.specs.declared.work.Work.TheVariants as work
use Rattle.kernel_machine.specs.declared.kernel.Kernel.{Kernel}
use Rattle.kernel_machine.specs.Sides.{mode_of, seen_of, side_of}
use Rattle.kernel_machine.specs.Shows.{IsAt}
use Rattle.kernel_machine.specs.Worlds.{HaveHands, IsWorkOf}

-- the kernel within a checkpoint
abbrev pub within : Kernel → Checkpoint → Kernel
within k s = record k { work = work.Saves s }

-- behind a turn: with this memory, at this work, and with pages prepared by so many turns
abbrev pub behind : Kernel → Memory → Work → List ℕ → Kernel
behind k m now spent = record k { nvm = m; work = now; spent = spent }

-- Modes.

abbrev mode_by : Bool → Mode
mode_by before = if before then BeforeCommit else AfterCommit

pub mode_before : (s : Checkpoint) (accepted : List ℕ) (m : Memory) (w : World) → IsBefore s accepted m w
    → mode_of (work.Saves s) ≡ BeforeCommit
mode_before s accepted m w h = ap mode_by h.writing.before

pub mode_behind : (s : Checkpoint) (accepted : List ℕ) (m : Memory) (w : World) → IsBehind s accepted m w
    → mode_of (work.Saves s) ≡ AfterCommit
mode_behind s accepted m w h = elim h.applying [
  | Applying stage committed shows ↦ ap (λ (l : Stage). mode_by (is_before_commit l)) stage
  | Applied stage rest ↦ ap (λ (l : Stage). mode_by (is_before_commit l)) stage
]

pub in_checkpoint : (s : Checkpoint) (accepted : List ℕ) (m : Memory) (w : World) → IsOf s accepted m w
    → InCheckpoint (mode_of (work.Saves s))
in_checkpoint s accepted m w (Before h) = inl (mode_before s accepted m w h)
in_checkpoint s accepted m w (Behind h) = inr (mode_behind s accepted m w h)

-- Operations.

pub one_operation : (core : ℕ) (f g : ℕ → Word) → IsAtMostOne core f g → AreOperations core 1 f g
one_operation core f g one = elim one [
  | inl same ↦ inl same
  | inr operation ↦ inr (g, operation, λ i. refl)
]

-- a turn after which fewer turns are left may do one
pub one_if_less : (core old new : ℕ) (f g : ℕ → Word) → new < old → IsAtMostOne core f g
    → AreOperations core (if nat_lt new old then 1 else 0) f g
one_if_less core old new f g less one = rw (lt-ltb new old less) (one_operation core f g one)

pub ops_if_less : (old new : ℕ) (before after : ℕ) → new < old → after ≤ before + 1
    → after ≤ before + (if nat_lt new old then 1 else 0)
ops_if_less old new before after less few = rw (lt-ltb new old less) few

-- none is done where as many are left
pub none_if_same : (core left : ℕ) (f : ℕ → Word) → AreOperations core (if nat_lt left left then 1 else 0) f f
none_if_same core left f = rw (le-ltb left left (omega arith)) (λ (i : ℕ). refl)

pub few_ops : (old new : ℕ) → (new ≡ old) ⊎ (new ≡ count_up old) → new ≤ old + 1
few_ops old new ops = elim ops [ inl same ↦ omega arith | inr more ↦ omega arith ]

-- Counts.

pub none_counted : (old new : Memory) (v : ℕ) → KeepsCounts old new → (word_at old VERSION_AT).durable ≡ v
    → (word_at new VERSION_AT).durable ≡ v → new.commits ≡ old.commits
none_counted old new v counts was is =
    counts.commits ∙ ap (λ (same : Bool). if same then old.commits else count_up old.commits)
    (eq-eqb (word_at new VERSION_AT).durable (word_at old VERSION_AT).durable (is ∙ sym was))

pub one_counted : (old new : Memory) (v : ℕ) → KeepsCounts old new → (word_at old VERSION_AT).durable ≡ v
    → (word_at new VERSION_AT).durable ≡ v + 1 → new.commits ≡ count_up old.commits
one_counted old new v counts was is =
    counts.commits ∙ ap (λ (same : Bool). if same then old.commits else count_up old.commits)
    (ne_eqb (word_at new VERSION_AT).durable (word_at old VERSION_AT).durable
    (λ e. omega (arith, sym is ∙ e ∙ was)))

-- The durable version word has the version of the world.
abbrev pub ReadsVersion : Type 0
ReadsVersion = (s : Checkpoint) (accepted : List ℕ) (m : Memory) (w : World) → IsOf s accepted m w
    → (word_at m VERSION_AT).durable ≡ w.version

-- Sides.

-- the side of a kernel, part by part
abbrev pub side_with : Bool → Mode → ℕ → List CoreSide → (ℕ → ℕ) → (ℕ → Bool) → Side
side_with wish mode left cores spent writable = record {
  mode = mode;
  left = left;
  cores = cores;
  spent = spent;
  writable = writable;
  board = [];
  is_open = false;
  hot = [];
  given = none_given;
  wish = wish;
}

pub same_side : (wish : Bool) {a b : Mode} {l n : ℕ} {old new : List CoreSide} {f g : ℕ → ℕ} {p q : ℕ → Bool} → a ≡ b
    → l ≡ n → old ≡ new → f ≡ g → p ≡ q → side_with wish a l old f p ≡ side_with wish b n new g q
same_side wish {a} {b} {l} {n} {old} {new} {f} {g} {p} {q} modes lefts cores spents writables =
    ap (λ (x : Mode). side_with wish x l old f p) modes
    ∙ ap (λ (x : ℕ). side_with wish b x old f p) lefts
    ∙ ap (λ (x : List CoreSide). side_with wish b n x f p) cores
    ∙ ap (λ (x : ℕ → ℕ). side_with wish b n new x p) spents
    ∙ ap (λ (x : ℕ → Bool). side_with wish b n new g x) writables

-- What is seen beside the side, the words and the counts stays.
pub seen_rest : (k : Kernel) (m : Memory) (now : Work) (spent : List ℕ) (old : Work) → m.cuts ≡ k.nvm.cuts
    → seen_of (behind k m now spent) ≡ record (seen_of (record k { work = old })) {
      side = side_of (behind k m now spent);
      words = word_at m;
      ops = m.ops;
      commits = m.commits;
    }
seen_rest k m now spent old cuts = ap (λ (n : ℕ). record (seen_of (behind k m now spent)) { cuts = n }) cuts

-- The machine is still at the course.
pub stays_at : (k : Kernel) (c : Course) (s : Checkpoint) (m : Memory) (now : Work) (spent : List ℕ)
    → IsAt (within k s) c → IsWorkOf now k.cores k.accepted m c.world → HaveHands now k.cores spent
    → m.commits ≡ k.nvm.commits → m.cuts ≡ k.nvm.cuts → IsAt (behind k m now spent) c
stays_at k c s m now spent at works hold commits cuts = record {
  work = works;
  hands = hold;
  some = at.some;
  most = at.most;
  cores = at.cores;
  saved_cores = at.saved_cores;
  commits = commits ∙ at.commits;
  cuts = cuts ∙ at.cuts;
}

-- Functions with another value at one number.

pub with_here : {A : Type 0} (f : ℕ → A) (k i : ℕ) (x : A) → i ≡ k → with_at f k x i ≡ x
with_here f k i x here = rw (eq-eqb i k here) refl

pub with_apart : {A : Type 0} (f : ℕ → A) (k i : ℕ) (x : A) → i ≢ k → with_at f k x i ≡ f i
with_apart f k i x apart = rw (ne_eqb i k apart) refl
