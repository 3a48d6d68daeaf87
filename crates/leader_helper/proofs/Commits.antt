-- What is kept where the next version is committed.
use Rattle.std.specs.Prelude.{◌≡◌, ◌≢◌, ◌⊎◌, ◌+◌, ◌-◌, ℕ, Bool, true, false, if◌then◌else◌, Option}
use Rattle.std.proofs.Common.{◌∙◌, ap, arith, inl, inr, refl, subst, sym}
use Rattle.pmem_model.specs.Words.{Word}
use Rattle.kobj_codec.specs.declared.obj.Obj.{Obj}
use Rattle.version_commit.specs.declared.committer.Committer.{Committer}
use Rattle.version_commit.specs.declared.step.Step.{Step}
use Rattle.version_commit.specs.declared.step.Step.TheVariants as steps
use Rattle.version_commit.specs.OnWay.{next as next_step, turns_of as commit_turns}
use Rattle.alloc_journal.specs.declared.journal.Stage.{Stage as LogStage}
use Rattle.alloc_journal.specs.declared.journal.Stage.TheVariants as logs
use Rattle.alloc_journal.specs.Sets.{has}
use Rattle.alloc_journal.specs.Work.{Work, as_committed, is_logged, redo_left, once_committed as with_log}
use Rattle.object_root.specs.declared.stage.Stage.{Stage as RecordStage}
use Rattle.object_root.specs.Shows as roots
use Rattle.page_store.specs.Known.{Fenced}
use Rattle.durable_state.specs.Parts.{Parts}
use Rattle.version_rooms.specs.declared.rooms.Rooms.{Rooms}
use Rattle.version_rooms.specs.Rooms.{Contents, IsReady, MayCommit, RoomsShow, TakesLogged}
use Rattle.leader_helper.specs.declared.leader.Leader.{Leader}
use Rattle.leader_helper.specs.declared.stage.Stage.{Stage}
use Rattle.leader_helper.specs.declared.stage.Stage.TheVariants as at
use Rattle.leader_helper.specs.Stages.{IsRecordDone, page_phase}
use Rattle.leader_helper.specs.Leads.{AreNext, IsWriting, is_changed}
use Rattle.leader_helper.specs.Turns.{numbers_changed, turns_left}
use Rattle.leader_helper.proofs.Turned.{turns_now}
use Rattle.leader_helper.proofs.Writing.{at_stage}

-- each page as it runs
abbrev pub whole : Rooms → Contents → Parts
whole r c = record { cores = c.saved.cores; numbers = has r.numbers.running; objects = c.objects; pages = c.pages }

pub are_whole : (r : Rooms) (c : Contents) → AreNext r c (whole r c)
are_whole r c = record { cores = refl; numbers = refl; objects = refl; pages = λ page lt. inl refl }

is_settled : (b : Bool) (id : ℕ) (stage : RecordStage) (saved now : Option Obj)
    → IsRecordDone at.Commit b id stage saved now → roots.IsSettled stage saved now
is_settled true id stage saved now h = subst (λ (s : RecordStage). roots.IsSettled s saved now) (sym h.1) tt
is_settled false id stage saved now h = subst (λ (s : RecordStage). roots.IsSettled s saved now) (sym h.0) h.1

pub is_ready : {l : Leader} {r : Rooms} {f : ℕ → Word} {v : ℕ} {c : Contents} {next : Parts} → l.stage ≡ at.Commit
    → IsWriting l r f v c → AreNext r c next → IsReady r v c next
is_ready {l} {r} {f} {v} {c} {next} e h n =
    let w = at_stage at.Commit e h in
    record {
      in_range = w.in_range;
      cores = n.cores;
      logged = w.log.stage;
      numbers = n.numbers ∙ ap has (sym w.log.logged);
      tagged = w.phase;
      objects = n.objects;
      settled = λ id lt. is_settled (is_changed l id) id _ _ _ (w.records id lt);
      flushed = w.pages;
      pages = n.pages;
    }

pub is_commit : (stage : Stage) → (stage ≡ at.Commit) ⊎ (stage ≢ at.Commit)
is_commit at.Gather = inr (λ e. cc)
is_commit (at.Pages page) = inr (λ e. cc)
is_commit (at.Records id) = inr (λ e. cc)
is_commit at.Log = inr (λ e. cc)
is_commit at.Fence = inr (λ e. cc)
is_commit (at.Tags id) = inr (λ e. cc)
is_commit at.Commit = inl refl
is_commit at.Apply = inr (λ e. cc)
is_commit at.Resume = inr (λ e. cc)

pub may_commit : {l : Leader} {r : Rooms} {f : ℕ → Word} {v : ℕ} {c : Contents} {next : Parts}
    → IsWriting l r f v c → AreNext r c next → MayCommit r v c next (page_phase l.stage)
may_commit {l} {r} {f} {v} {c} {next} h n = elim (is_commit l.stage) [
  | inl e ↦ inr (ap page_phase e, is_ready e h n)
  | inr other ↦ inl (h.rest other)
]

-- the words show the same still
pub shown_again : {l : Leader} {r : Rooms} {f g : ℕ → Word} {v : ℕ} {c : Contents}
    → RoomsShow r g v c (page_phase l.stage) → IsWriting l r f v c → IsWriting l r g v c
shown_again shows h = record {
  before = h.before;
  in_range = h.in_range;
  shows = shows;
  rest = h.rest;
  pages = h.pages;
  phase = h.phase;
  records = h.records;
  log = h.log;
}

-- A step of the commit.

pub commit_on : {l : Leader} {r : Rooms} {f g : ℕ → Word} {v : ℕ} {c : Contents} (committer : Committer)
    → l.stage ≡ at.Commit → RoomsShow (record r { committer = committer }) g v c Fenced → IsWriting l r f v c
    → IsWriting l (record r { committer = committer }) g v c
commit_on {l} {r} {f} {g} {v} {c} committer e shows h =
    let w = at_stage at.Commit e h in
    let on : IsWriting (record l { stage = at.Commit }) (record r { committer = committer }) g v c = record {
      before = refl;
      in_range = w.in_range;
      shows = shows;
      rest = λ other. absurd (other refl);
      pages = w.pages;
      phase = w.phase;
      records = w.records;
      log = w.log;
    } in
    subst (λ (s : Stage). IsWriting (record l { stage = s }) (record r { committer = committer }) g v c) (sym e) on

one_step : (step : Step) → step ≢ steps.Fence → commit_turns step ≡ commit_turns (next_step step) + 1
one_step steps.Store other = refl
one_step steps.Flush other = refl
one_step steps.Fence other = absurd (other refl)

commit_then : (a b n : ℕ) → a ≡ b + 1 → a + (n + 5) + 1 ≡ b + (n + 5) + 1 + 1
commit_then a b n e = omega (arith, e)

pub commit_turn : (l : Leader) (r : Rooms) → l.stage ≡ at.Commit → r.committer.version ≢ steps.Fence
    → turns_left l r ≡ turns_left l (record r {
      committer = record r.committer { version = next_step r.committer.version };
    }) + 1
commit_turn l r e other =
    let s : Rooms = record r { committer = record r.committer { version = next_step r.committer.version } } in
    turns_now l r at.Commit e ∙ commit_then _ _ (numbers_changed r) (one_step _ other)
    ∙ ap (λ (n : ℕ). n + 1) (sym (turns_now l s at.Commit e))

minus_none : (n : ℕ) → n - 0 + 5 ≡ n + 5
minus_none n = omega arith

pub redo_logged : (w : Work) → w.stage ≡ logs.Logged → redo_left (with_log w) ≡ w.entries + 5
redo_logged w e = ap (λ (stage : LogStage). redo_left (if is_logged stage then as_committed w else w)) e ∙ minus_none w.entries

commit_last : (a b n d : ℕ) → a ≡ 1 → d ≡ n → b ≡ d + 5 → a + (n + 5) + 1 ≡ b + 1 + 1
commit_last a b n d p q s = omega (arith, p, q, s)

-- the last step
pub commit_last_turn : (l : Leader) (r s : Rooms) (f : ℕ → Word) (v : ℕ) (c : Contents) → l.stage ≡ at.Commit
    → r.committer.version ≡ steps.Fence → TakesLogged r.numbers s.numbers → IsWriting l r f v c
    → turns_left l r ≡ turns_left (record l { stage = at.Apply }) s + 1
commit_last_turn l r s f v c e last takes h =
    let w = at_stage at.Commit e h in
    turns_now l r at.Commit e ∙ commit_last _ _ (numbers_changed r) r.numbers.work.entries (ap commit_turns last) w.log.entries
    (ap redo_left takes.work ∙ redo_logged r.numbers.work w.log.stage)

settle_last : (a b n d : ℕ) → d ≡ n → b ≡ d + 5 → a + (n + 5) + 1 ≡ b + 1 + a
settle_last a b n d p q = omega (arith, p, q)

-- a write-back may have been the last, which spares what the commit still takes
pub settle_turn : (l : Leader) (r s : Rooms) (f : ℕ → Word) (v : ℕ) (c : Contents) → l.stage ≡ at.Commit
    → TakesLogged r.numbers s.numbers → IsWriting l r f v c
    → turns_left l r ≡ turns_left (record l { stage = at.Apply }) s + commit_turns r.committer.version
settle_turn l r s f v c e takes h =
    let w = at_stage at.Commit e h in
    turns_now l r at.Commit e
    ∙ settle_last _ _ (numbers_changed r) r.numbers.work.entries w.log.entries
    (ap redo_left takes.work ∙ redo_logged r.numbers.work w.log.stage)
