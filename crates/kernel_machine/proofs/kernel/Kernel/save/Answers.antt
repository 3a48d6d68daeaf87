-- What a turn within a checkpoint comes to, by what the checkpoint answers.
use Rattle.std.specs.Prelude.{◌≡◌, ◌<◌, ℕ, length, replicate}
use Rattle.std.proofs.Common.{ap, sym, subst, arith, rules, inl, inr}
use Rattle.std.proofs.lemmas.Bool.{cases_lt}
use Rattle.std.proofs.lemmas.List.{get_or-replicate, get_or_past, length-replicate}
use Rattle.checkpoint_turns.specs.declared.checkpoint.Checkpoint.{Checkpoint}
use Rattle.checkpoint_turns.specs.declared.checkpoint.Led.{Led}
use Rattle.checkpoint_turns.specs.Steps as steps
use Rattle.machine_contract.specs.declared.answers.Did.{Did}
use Rattle.machine_contract.specs.declared.answers.Did.TheVariants as did
use Rattle.machine_contract.specs.declared.answers.Why.TheVariants as why
use Rattle.machine_contract.specs.Courses.{Course}
use Rattle.kernel_machine.specs.declared.work.Work.{Work}
use Rattle.kernel_machine.specs.declared.work.Work.TheVariants as work
use Rattle.kernel_machine.specs.declared.kernel.Kernel.{Kernel}
use Rattle.kernel_machine.specs.Sides.{spent_at}
use Rattle.kernel_machine.specs.Shows.{IsAt}
use Rattle.kernel_machine.specs.Turns.{TakesTurn}
use Rattle.kernel_machine.proofs.SaveCommitted.{committed}
use Rattle.kernel_machine.proofs.SaveEnded.{ended}
use Rattle.kernel_machine.proofs.SaveEvents.{behind, within}
use Rattle.kernel_machine.proofs.SaveLed.{led}
use Rattle.kernel_machine.proofs.SavePrepared.{in_range, is_seldom, prepared, spent_more}
use Rattle.kernel_machine.proofs.SaveTags.{TagLaws}
use Rattle.kernel_machine.proofs.SaveWaits.{pauses, waits}
use Rattle.kernel_machine.proofs.kernel.Kernel.save.Goals as goal

is_within : (k : Kernel) (s : Checkpoint) → k.work ≡ work.Saves s → k ≡ within k s
is_within k s is = ap (λ (x : Work). record k { work = x }) is

at_within : (k : Kernel) (s : Checkpoint) (c : Course) → k.work ≡ work.Saves s → IsAt k c → IsAt (within k s) c
at_within k s c is at = subst (λ (x : Kernel). IsAt x c) (is_within k s is) at

-- what goes so of the kernel within the checkpoint goes so of the kernel
goes_so : (k : Kernel) (s : Checkpoint) (c : Course) (core : ℕ) (answer : Did) (new : Kernel) → k.work ≡ work.Saves s
    → TakesTurn (within k s) c core answer new → TakesTurn k c core answer new
goes_so k s c core answer new is goes =
    subst (λ (x : Kernel). TakesTurn x c core answer new) (sym (is_within k s is)) goes

-- no turn is spent on a page behind a commit
none_spent_at : (n page : ℕ) → spent_at (replicate n 0) page ≡ 0
none_spent_at n page = elim (cases_lt page n) [
  | inl below ↦ get_or-replicate n page 0 0 below
  | inr past ↦ get_or_past (replicate n 0) page 0 (omega (arith, past, length-replicate {A = ℕ} n 0))
]

pub bounds-self-page : goal.bounds-self-page
bounds-self-page c =
    let k = c.args.self.now in
    let s = c.in-Saves.checkpoint in
    let course = c.requires.live.course in
    let at = at_within k s course c.in-Saves.is c.requires.live.is_at in
    in_range k course c.args.core c.in-Prepared.page c.requires.core s c.turn.new.self c.turn.new.nvm at
    (c.in-Prepared.ensures.goes course.world at.work)

pub bounds-self-page-in-Prepared : goal.bounds-self-page-in-Prepared
bounds-self-page-in-Prepared c =
    let k = c.args.self.now in
    let s = c.in-Saves.checkpoint in
    let course = c.requires.live.course in
    let at = at_within k s course c.in-Saves.is c.requires.live.is_at in
    in_range k course c.args.core c.in-Prepared.page c.requires.core s c.turn.new.self c.turn.new.nvm at
    (c.in-Prepared.ensures.goes course.world at.work)

pub overflow_add-self : goal.overflow_add-self
overflow_add-self c =
    let k = c.args.self.now in
    let s = c.in-Saves.checkpoint in
    let course = c.requires.live.course in
    let at = at_within k s course c.in-Saves.is c.requires.live.is_at in
    let few =
    is_seldom k course c.args.core c.in-Prepared.page c.requires.core s c.turn.new.self c.turn.new.nvm at
    (c.in-Prepared.ensures.goes course.world at.work) in
    omega (arith, few)

pub returns-in-Prepared-clause-goes : goal.returns-in-Prepared-clause-goes
returns-in-Prepared-clause-goes c = λ course is.
    let k = c.args.self.now in
    let s = c.in-Saves.checkpoint in
    let n = c.turn.new.self in
    let m = c.turn.new.nvm in
    let page = c.in-Prepared.page in
    let at = at_within k s course c.in-Saves.is is in
    let h = c.in-Prepared.ensures.goes course.world at.work in
    let below : page < 512 = in_range k course c.args.core page c.requires.core s n m at h in
    let inside : page < length k.spent = search rules in
    goes_so k s course c.args.core (did.Inner (why.Prepare page))
    (behind k m (work.Saves n) (spent_more k.spent page)) c.in-Saves.is
    (prepared k course c.args.core page c.requires.core s n m at h inside c.version_word.ensures)

pub returns-in-Waits-clause-goes : goal.returns-in-Waits-clause-goes
returns-in-Waits-clause-goes c = λ course is.
    let k = c.args.self.now in
    let s = c.in-Saves.checkpoint in
    let n = c.turn.new.self in
    let m = c.turn.new.nvm in
    let at = at_within k s course c.in-Saves.is is in
    let h = c.turn.ensures.goes course.world at.work in
    let answered : Led → Type 0 = λ x. steps.TurnGoes s k.accepted k.nvm course.world c.args.core x n m in
    goes_so k s course c.args.core (did.Inner why.Lead) (behind k m (work.Saves n) k.spent) c.in-Saves.is
    (elim c.in-Waits.is [
      | inl waited ↦ waits k course c.args.core c.requires.core s at n m (subst answered waited h)
      | inr went ↦ led k course c.args.core s n m at (subst answered went h) c.version_word.ensures
    ])

pub returns-in-Paused-clause-goes : goal.returns-in-Paused-clause-goes
returns-in-Paused-clause-goes c = λ course is.
    let k = c.args.self.now in
    let s = c.in-Saves.checkpoint in
    let n = c.turn.new.self in
    let m = c.turn.new.nvm in
    let at = at_within k s course c.in-Saves.is is in
    goes_so k s course c.args.core (did.Inner why.Paused) (behind k m (work.Saves n) k.spent) c.in-Saves.is
    (pauses k course c.args.core c.requires.core s at n m (c.in-Paused.ensures.goes course.world at.work))

pub returns-in-Committed-clause-goes : goal.returns-in-Committed-clause-goes
returns-in-Committed-clause-goes c = λ course is.
    let k = c.args.self.now in
    let s = c.in-Saves.checkpoint in
    let n = c.turn.new.self in
    let m = c.turn.new.nvm in
    let at = at_within k s course c.in-Saves.is is in
    let laws : TagLaws = record {
      protected = c.states.ensures.protected;
      numbers = c.parts_are_of_one.ensures.numbers;
      objects = c.parts_are_of_one.ensures.objects;
      left = c.commit_point.ensures.after;
    } in
    goes_so k s course c.args.core (did.Committed c.in-Committed.version)
    (behind k m (work.Saves n) (replicate 512 0)) c.in-Saves.is
    (committed k course c.args.core c.in-Committed.version s n m at
    (c.in-Committed.ensures.goes course.world at.work) (replicate 512 0) (none_spent_at 512)
    c.version_word.ensures laws)

pub returns-in-Ended-clause-goes : goal.returns-in-Ended-clause-goes
returns-in-Ended-clause-goes c = λ course is.
    let k = c.args.self.now in
    let s = c.in-Saves.checkpoint in
    let n = c.turn.new.self in
    let m = c.turn.new.nvm in
    let at = at_within k s course c.in-Saves.is is in
    let runs : c.resumed.result ≡ work.Runs n.running = c.resumed.ensures n c.replace.ensures.value in
    subst (λ (x : Work). TakesTurn k course c.args.core (did.Inner why.Lead) (behind k m x k.spent)) (sym runs)
    (goes_so k s course c.args.core (did.Inner why.Lead) (behind k m (work.Runs n.running) k.spent) c.in-Saves.is
    (ended k course c.args.core s n m at (c.in-Ended.ensures.goes course.world at.work)))
