-- A turn by which a core goes on with the page that it has in hand.
use Rattle.std.specs.Prelude.{◌≡◌, ◌≢◌, ℕ, ◌+◌, ◌<◌, ◌≤◌, ◌==◌, ◌&&◌, nat_lt, if◌then◌else◌, Bool, true, List, length}
use Rattle.std.specs.Prelude.{Option, Some, None, slice_set}
use Rattle.std.proofs.Common.{refl, ap, sym, ◌∙◌, arith, inl, inr}
use Rattle.std.proofs.Math.Path.{fun_ext}
use Rattle.std.proofs.lemmas.Bool.{cases_eq, eq-eqb, lt-ltb, ne_eqb}
use Rattle.std.proofs.lemmas.Grind.{get_or-set_at}
use Rattle.std.proofs.lemmas.List.{get_or-set_other}
use Rattle.sls_base.specs.declared.limits.TheConstants.{PAGES}
use Rattle.pmem_model.specs.Memory.{Memory, word_at}
use Rattle.page_store.specs.declared.stage.PageStage.{PageStage}
use Rattle.page_store.specs.declared.stage.PageState.TheVariants.{Preparing, Writable}
use Rattle.page_store.specs.Stages.{stage_of, state_at, state_of}
use Rattle.cow_fault.specs.Faults.{steps_left}
use Rattle.core_turns.specs.Runs.{prepared_by}
use Rattle.checkpoint_turns.specs.declared.checkpoint.Checkpoint.{Checkpoint}
use Rattle.checkpoint_turns.specs.Checkpoints as flight
use Rattle.checkpoint_turns.specs.Steps as steps
use Rattle.machine_contract.specs.declared.bounds.TheConstants.{MOST_PREPARES}
use Rattle.machine_contract.specs.declared.answers.Did.TheVariants as did
use Rattle.machine_contract.specs.declared.answers.Why.TheVariants as why
use Rattle.machine_contract.specs.Side.{CoreSide, with_at}
use Rattle.machine_contract.specs.Lawful.{IsOrNone, Prepares}
use Rattle.machine_contract.specs.Courses.{Course}
use Rattle.kernel_machine.specs.declared.work.Work.TheVariants as work
use Rattle.kernel_machine.specs.declared.kernel.Kernel.{Kernel}
use Rattle.kernel_machine.specs.Sides.{due_of, hand_of, is_writable_at, side_of, spent_at, writable_by}
use Rattle.kernel_machine.specs.Shows.{IsAt}
use Rattle.kernel_machine.specs.Turns.{TakesTurn}
use Rattle.kernel_machine.proofs.SaveEvents.{ReadsVersion, behind, few_ops, mode_before, none_counted, one_operation}
use Rattle.kernel_machine.proofs.SaveEvents.{same_side, seen_rest, stays_at, with_apart, with_here, within}
use Rattle.kernel_machine.proofs.SaveSides.{free_hand, hand_at, hand_in, hand_with, hands, held_hand, other_hands}
use Rattle.kernel_machine.proofs.SaveSides.{same_writable_at}
use Rattle.kernel_machine.proofs.SaveStages.{is_done, one_step_less, steps_done, steps_some, steps_where_not}
use Rattle.kernel_machine.proofs.SaveStages.{unwritable}

-- one turn more was spent on the page
abbrev pub spent_more : List ℕ → ℕ → List ℕ
spent_more spent page = slice_set spent page (spent_at spent page + 1)

pub more_at : (spent : List ℕ) (page i : ℕ) → page < length spent
    → spent_at (spent_more spent page) i ≡ with_at (spent_at spent) page (spent_at spent page + 1) i
more_at spent page i inside = elim (cases_eq i page) [
  | inl here ↦
      get_or-set_at spent page i (spent_at spent page + 1) 0 here inside
      ∙ sym (with_here (spent_at spent) page i (spent_at spent page + 1) here)
  | inr apart ↦
      get_or-set_other spent page i (spent_at spent page + 1) 0 apart
      ∙ sym (with_apart (spent_at spent) page i (spent_at spent page + 1) apart)
]

module _ (k : Kernel) (c : Course) (core page : ℕ) (below : core < k.cores) (s n : Checkpoint) (m : Memory)
    (at : IsAt (within k s) c) (h : steps.Prepares s k.accepted k.nvm c.world core page n m) where
  abbrev old_stage : PageStage
  old_stage = stage_of s.running.rooms.pages page

  abbrev new_stage : PageStage
  new_stage = stage_of n.running.rooms.pages page

  pub in_range : page < PAGES
  in_range = h.was.in_hand.in_range core page h.in_hand

  prepares : state_at old_stage ≡ Preparing core
  prepares = (h.was.in_hand.prepared core page in_range).0 h.in_hand

  less : steps_left new_stage + 1 ≡ steps_left old_stage
  less = ap (λ (stage : PageStage). steps_left stage + 1) h.stage ∙ one_step_less old_stage core core prepares

  pub is_seldom : spent_at k.spent page < MOST_PREPARES
  is_seldom = omega (arith, at.hands.seldom page in_range, steps_some old_stage core prepares)

  -- Hands.

  had : hand_in s.running k.cores core ≡ hand_with s.running (Some page)
  had = hand_at s.running k.cores core below ∙ held_hand s.running core page h.in_hand

  abbrev has : CoreSide
  has = hand_in n.running k.cores core

  due_is : has.due ≡ steps_left new_stage
  due_is = elim (is_done new_stage) [
    | inl done ↦
        ap (λ (x : CoreSide). x.due) (hand_at n.running k.cores core below ∙ free_hand n.running core (h.done done))
        ∙ sym (steps_done new_stage done)
    | inr not_yet ↦
        ap (λ (x : CoreSide). x.due)
        (hand_at n.running k.cores core below ∙ held_hand n.running core page (h.goes_on not_yet))
  ]

  prepares_then : IsOrNone has.prepares page
  prepares_then = elim (is_done new_stage) [
    | inl done ↦
        inl (ap (λ (x : CoreSide). x.prepares) (hand_at n.running k.cores core below) ∙ h.done done)
    | inr not_yet ↦
        inr (ap (λ (x : CoreSide). x.prepares) (hand_at n.running k.cores core below) ∙ h.goes_on not_yet)
  ]

  not_page : (other q : ℕ) → other ≢ core → prepared_by s.running other ≡ Some q → q ≢ page
  not_page other q apart e same =
      let state : state_at old_stage ≡ Preparing other =
      (h.was.in_hand.prepared other page in_range).0 (e ∙ ap Some same) in
      let both : Preparing core ≡ Preparing other = sym prepares ∙ state in
      apart (let own : core ≡ other = cc in sym own)

  other_due : (other : ℕ) → other ≢ core → (hand : Option ℕ) → prepared_by s.running other ≡ hand
      → due_of n.running hand ≡ due_of s.running hand
  other_due other apart None e = refl
  other_due other apart (Some q) e = ap steps_left (h.stages q (not_page other q apart e))

  other_hand : (other : ℕ) → other ≢ core → hand_of n.running other ≡ hand_of s.running other
  other_hand other apart =
      ap (hand_with n.running) (h.others other apart)
      ∙ ap (λ (due : ℕ). record (hand_of s.running other) { due = due })
      (other_due other apart (prepared_by s.running other) refl)

  -- Pages.

  other_state : (p : ℕ) → p ≢ page → state_of n.running.rooms.pages p ≡ state_of s.running.rooms.pages p
  other_state p apart = ap state_at (h.stages p apart)

  done_at : state_at new_stage ≡ Writable → (p : ℕ)
      → writable_by n.running p ≡ with_at (writable_by s.running) page true p
  done_at done p = elim (cases_eq p page) [
    | inl here ↦
        ap (writable_by n.running) here
        ∙ (rw (lt-ltb page PAGES in_range) (ap is_writable_at done))
        ∙ sym (with_here (writable_by s.running) page p true here)
    | inr apart ↦
        same_writable_at s.running n.running p (λ inside. other_state p apart)
        ∙ sym (with_apart (writable_by s.running) page p true apart)
  ]

  not_yet_at : (state_at new_stage ≡ Writable → ⊥) → (p : ℕ)
      → is_writable_at (state_of n.running.rooms.pages p) ≡ is_writable_at (state_of s.running.rooms.pages p)
  not_yet_at not_yet p = elim (cases_eq p page) [
    | inl here ↦
        ap (λ (i : ℕ). is_writable_at (state_of n.running.rooms.pages i)) here
        ∙ unwritable (state_at new_stage) not_yet
        ∙ sym (ap is_writable_at prepares)
        ∙ ap (λ (i : ℕ). is_writable_at (state_of s.running.rooms.pages i)) (sym here)
    | inr apart ↦ ap is_writable_at (other_state p apart)
  ]

  abbrev writable_then : ℕ → ℕ → Bool
  writable_then due = if due == 0 then with_at (writable_by s.running) page true else writable_by s.running

  writable : writable_by n.running ≡ writable_then has.due
  writable = elim (is_done new_stage) [
    | inl done ↦
        let none : has.due ≡ 0 = due_is ∙ steps_done new_stage done in
        fun_ext (done_at done)
        ∙ ap (λ (is : Bool). if is then with_at (writable_by s.running) page true else writable_by s.running)
        (sym (eq-eqb has.due 0 none))
    | inr not_yet ↦
        let some : has.due ≢ 0 = omega (arith, due_is, steps_where_not new_stage not_yet) in
        fun_ext (λ (p : ℕ). ap (λ (b : Bool). nat_lt p PAGES && b) (not_yet_at not_yet p))
        ∙ ap (λ (is : Bool). if is then with_at (writable_by s.running) page true else writable_by s.running)
        (sym (ne_eqb has.due 0 some))
  ]

  hands_below : (i p : ℕ) → prepared_by n.running i ≡ Some p → i < k.cores
  hands_below i p e = elim (cases_eq i core) [
    | inl here ↦ omega (arith, here, below)
    | inr apart ↦ at.hands.below i p (sym (h.others i apart) ∙ e)
  ]

  module _ (inside : page < length k.spent) where
    -- The row.

    abbrev new : Kernel
    new = behind k m (work.Saves n) (spent_more k.spent page)

    rest : side_of new ≡ record (side_of (within k s)) {
      cores = slice_set (hands s.running k.cores) core has;
      spent = with_at (spent_at k.spent) page (spent_at k.spent page + 1);
      writable = writable_then has.due;
    }
    rest =
        same_side k.wish
        (mode_before n k.accepted m c.world h.is_before ∙ sym (mode_before s k.accepted k.nvm c.world h.was)) h.left
        (other_hands s.running n.running k.cores core below other_hand)
        (fun_ext (λ (i : ℕ). more_at k.spent page i inside)) writable

    lawful : Prepares c.world (side_of (within k s)) core page (side_of new)
    lawful = record {
      up = inr (inl (mode_before s k.accepted k.nvm c.world h.was));
      why = inl (ap (λ (x : CoreSide). x.prepares) had);
      spent = is_seldom;
      due = λ own.
          let was : (hand_in s.running k.cores core).due ≡ steps_left old_stage = ap (λ (x : CoreSide). x.due) had in
          omega (arith, due_is, less, was);
      prepares = prepares_then;
      holds = ap (λ (x : CoreSide). x.holds) (hand_at n.running k.cores core below)
          ∙ sym (ap (λ (x : CoreSide). x.holds) had);
      rest = rest;
    }

    -- The course.

    spends : (p : ℕ) → p < PAGES
        → spent_at (spent_more k.spent page) p + steps_left (stage_of n.running.rooms.pages p) ≤ MOST_PREPARES
    spends p there = elim (cases_eq p page) [
      | inl here ↦
          let more = more_at k.spent page p inside
          ∙ with_here (spent_at k.spent) page p (spent_at k.spent page + 1) here in
          let stage : steps_left (stage_of n.running.rooms.pages p) ≡ steps_left new_stage =
          ap (λ (i : ℕ). steps_left (stage_of n.running.rooms.pages i)) here in
          omega (arith, more, stage, less, at.hands.seldom page in_range)
      | inr apart ↦
          let same = more_at k.spent page p inside
          ∙ with_apart (spent_at k.spent) page p (spent_at k.spent page + 1) apart in
          let stage = ap steps_left (h.stages p apart) in
          omega (arith, same, stage, at.hands.seldom p there)
    ]

    pub prepared : ReadsVersion → TakesTurn (within k s) c core (did.Inner (why.Prepare page)) new
    prepared reads = record {
      goes = record {
        lawful = lawful;
        words = one_operation core (word_at k.nvm) (word_at m) h.memory.operation;
        ops = few_ops k.nvm.ops m.ops h.memory.ops;
        renewed = λ no. absurd no;
        board = λ closed opened. absurd (cc);
        opened = λ no. absurd no;
        rest = seen_rest k m (work.Saves n) (spent_more k.spent page) (work.Saves s) h.memory.counts.cuts;
      };
      is_at = stays_at k c s m (work.Saves n) (spent_more k.spent page) at (flight.Before h.is_before)
          (record { below = hands_below; seldom = spends })
          (none_counted k.nvm m c.world.version h.memory.counts
          (reads s k.accepted k.nvm c.world (flight.Before h.was))
          (reads n k.accepted m c.world (flight.Before h.is_before)))
          h.memory.counts.cuts;
    }
