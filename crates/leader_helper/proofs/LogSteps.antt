-- What a step of the log comes to.
use Rattle.std.specs.Prelude.{◌≡◌, ◌+◌, ℕ, true, false, List}
use Rattle.std.proofs.Common.{◌∙◌, ap, arith, inl, inr, refl, sym}
use Rattle.pmem_layout.specs.declared.places.TheConstants.{NUMBERS}
use Rattle.alloc_journal.specs.declared.journal.Stage.{Stage as LogStage}
use Rattle.alloc_journal.specs.declared.journal.Stage.TheVariants as logs
use Rattle.alloc_journal.specs.Sets.{changes, count_of, has}
use Rattle.alloc_journal.specs.Work.{InUse, is_logging, is_redo, log_left, log_left_at}
use Rattle.version_rooms.specs.declared.rooms.Rooms.{Rooms}
use Rattle.version_rooms.specs.Rooms.{Logs}
use Rattle.leader_helper.specs.declared.stage.Stage.TheVariants as at
use Rattle.leader_helper.specs.Stages.{IsLogDone}
use Rattle.leader_helper.specs.Turns.{log_turns, numbers_changed}

pub turns_logging : (stage : LogStage) (r : Rooms) → is_logging stage ≡ true
    → log_turns stage r ≡ log_left r.numbers.work
turns_logging logs.Rest r h = absurd (cc)
turns_logging stage r h = refl

left_logging : (stage : LogStage) (pending n : ℕ) → log_left_at stage pending ≡ n + 4 → is_logging stage ≡ true
left_logging logs.Unformatted pending n h = absurd (omega (arith, h))
left_logging logs.FirstStored pending n h = absurd (omega (arith, h))
left_logging logs.FirstInFlight pending n h = absurd (omega (arith, h))
left_logging logs.Rest pending n h = absurd (omega (arith, h))
left_logging logs.StoringEntries pending n h = refl
left_logging logs.EntriesInFlight pending n h = refl
left_logging logs.EntriesDurable pending n h = refl
left_logging logs.HeadStored pending n h = refl
left_logging logs.HeadInFlight pending n h = refl
left_logging logs.Logged pending n h = refl
left_logging logs.Redoing pending n h = absurd (omega (arith, h))
left_logging logs.BaseInFlight pending n h = absurd (omega (arith, h))
left_logging logs.BaseDurable pending n h = absurd (omega (arith, h))
left_logging logs.HeadCleared pending n h = absurd (omega (arith, h))
left_logging logs.ClearInFlight pending n h = absurd (omega (arith, h))

not_redo : (stage : LogStage) → is_logging stage ≡ true → is_redo stage ≡ false
not_redo logs.Redoing h = absurd (cc)
not_redo logs.BaseInFlight h = absurd (cc)
not_redo logs.BaseDurable h = absurd (cc)
not_redo logs.HeadCleared h = absurd (cc)
not_redo logs.ClearInFlight h = absurd (cc)
not_redo stage h = refl

-- The log of the numbers that are in use now is being written, or is written, and a step less is left.
pub record IsOn (r : Rooms) (new : InUse) : Type 0 where
  pub logging : is_logging new.work.stage ≡ true
  pub logged : new.work.logged ≡ new.running
  pub changed : changes new.work.committed new.running ≡ numbers_changed r
  pub left : log_turns r.numbers.work.stage r ≡ log_left new.work + 1

one_of_five : (a b : ℕ) → a ≡ b + 4 → b + 5 ≡ a + 1
one_of_five a b e = omega (arith, e)

same_changes : {a b c d : List ℕ} → a ≡ b → c ≡ d → changes a c ≡ changes b d
same_changes {a} {b} {c} {d} p q = ap (λ (x : List ℕ). changes x c) p ∙ ap (λ (x : List ℕ). changes b x) q

pub log_goes_on : (r : Rooms) (new : InUse) → IsLogDone at.Log r.numbers → Logs r.numbers new
    → (is_logging r.numbers.work.stage ≡ true → is_logging new.work.stage ≡ true)
    → (is_redo r.numbers.work.stage ≡ false → new.work.committed ≡ r.numbers.work.committed) → IsOn r new
log_goes_on r new (inl rest) step keeps committed = record {
  logging = left_logging new.work.stage _ _ (step.first rest);
  logged = step.begun rest ∙ sym step.running;
  changed = same_changes (committed (ap is_redo rest)) step.running;
  left = ap (λ (stage : LogStage). log_turns stage r) rest ∙ one_of_five _ _ (step.first rest);
}
log_goes_on r new (inr begun) step keeps committed = record {
  logging = keeps begun.stage;
  logged = step.logged (λ e. let set = begun.stage in let clear : is_logging r.numbers.work.stage ≡ false = ap is_logging e in cc) ∙ begun.logged ∙ sym step.running;
  changed = same_changes (committed (not_redo _ begun.stage)) step.running;
  left = turns_logging _ r begun.stage ∙ step.left begun.stage begun.not_yet;
}

-- once it is durable no step is left
pub none_logged : (new : InUse) → new.work.stage ≡ logs.Logged → log_left new.work ≡ 0
none_logged new e = ap (λ (stage : LogStage). log_left_at stage (count_of (has new.work.pending) NUMBERS)) e
