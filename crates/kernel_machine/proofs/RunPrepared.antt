-- A turn of a running machine by which a core prepares a page.
use Rattle.std.specs.Prelude.{◌≡◌, ◌≢◌, ◌⊎◌, ℕ, ◌+◌, ◌<◌, ◌≤◌, ◌==◌, Bool, true, false, if◌then◌else◌, List, length, Some, slice_index, slice_set}
use Rattle.std.proofs.Common.{refl, ap, sym, subst, ◌∙◌, inl, inr, arith}
use Rattle.std.proofs.Math.Path.{fun_ext}
use Rattle.std.proofs.lemmas.Bool.{cases_eq, eq-eqb, ne_eqb}
use Rattle.std.proofs.lemmas.Grind.{get_or-set_at}
use Rattle.std.proofs.lemmas.List.{get_or-set_other}
use Rattle.sls_base.specs.declared.limits.TheConstants.{PAGES}
use Rattle.pmem_model.specs.Memory.{Memory, word_at}
use Rattle.page_store.specs.declared.stage.PageStage.{PageStage}
use Rattle.page_store.specs.Stages.{stage_of, state_at, state_of}
use Rattle.page_store.specs.declared.stage.PageState.TheVariants as state
use Rattle.cow_fault.specs.Faults.{steps_left}
use Rattle.core_turns.specs.declared.running.Running.{Running}
use Rattle.core_turns.specs.Runs.{prepared_by}
use Rattle.core_turns.specs.Turns.{IsWritable, MayPrepare, Prepares}
use Rattle.machine_contract.specs.declared.answers.Did.TheVariants as did
use Rattle.machine_contract.specs.declared.answers.Why.TheVariants as why
use Rattle.machine_contract.specs.declared.bounds.TheConstants.{MOST_PREPARES}
use Rattle.machine_contract.specs.Side.{Side, CoreSide, core_at, with_at}
use Rattle.machine_contract.specs.Lawful.{BeginsPage, IsAtHand, IsOrNone, OwesLess, cores_but, writable_if_done}
use Rattle.machine_contract.specs.Lawful as lawful
use Rattle.machine_contract.specs.Courses.{Course}
use Rattle.kernel_machine.specs.declared.work.Work.TheVariants as work
use Rattle.kernel_machine.specs.declared.kernel.Kernel.{Kernel}
use Rattle.kernel_machine.specs.Sides.{due_of, hand_of, seen_of, side_of, spent_at, writable_by}
use Rattle.kernel_machine.specs.Shows.{IsAt}
use Rattle.kernel_machine.specs.Turns.{TakesTurn}
use Rattle.kernel_machine.proofs.HandsStages.{cases_writable, held_unwritable, steps_done, steps_fall, steps_not_none, steps_some}
use Rattle.kernel_machine.proofs.HandsSeen.{hand_each, hand_same, hands_but, is_writable, not_writable}
use Rattle.kernel_machine.proofs.HandsSeen.{writable_alike}
use Rattle.kernel_machine.proofs.RunFacts.{durable_version, no_commit, one_more_at_most, one_operation}
use Rattle.kernel_machine.proofs.RunTicked.{running_as}

-- how often each page was prepared, with one turn more for this one
abbrev pub spent_more : List ℕ → ℕ → List ℕ
spent_more spent page = slice_set spent page (slice_index spent page + 1)

-- behind a step of a page
abbrev pub prepared_as : Kernel → Running → Memory → ℕ → Kernel
prepared_as k n m page = record k { nvm = m; work = work.Runs n; spent = spent_more k.spent page }

pub spent_here : (spent : List ℕ) (page i : ℕ) → page < length spent → i ≡ page
    → spent_at (spent_more spent page) i ≡ spent_at spent page + 1
spent_here spent page i below e = get_or-set_at spent page i (slice_index spent page + 1) 0 e below

pub spent_there : (spent : List ℕ) (page i : ℕ) → i ≢ page → spent_at (spent_more spent page) i ≡ spent_at spent i
spent_there spent page i apart = get_or-set_other spent page i (slice_index spent page + 1) 0 apart

pub spent_with : (spent : List ℕ) (page : ℕ) → page < length spent → (i : ℕ)
    → spent_at (spent_more spent page) i ≡ with_at (spent_at spent) page (spent_at spent page + 1) i
spent_with spent page below i = elim (cases_eq i page) [
  | inl e ↦
      spent_here spent page i below e
      ∙ sym (ap (λ (b : Bool). if b then spent_at spent page + 1 else spent_at spent i) (eq-eqb i page e))
  | inr apart ↦
      spent_there spent page i apart
      ∙ sym (ap (λ (b : Bool). if b then spent_at spent page + 1 else spent_at spent i) (ne_eqb i page apart))
]

module _ (k : Kernel) (r n : Running) (m : Memory) (c : Course) (h : IsAt (running_as k r) c) (core page : ℕ)
    (below : core < k.cores) (size : length k.spent ≡ PAGES)
    (p : Prepares r k.accepted k.nvm c.world core page n m) where
  abbrev side : Side
  side = side_of (running_as k r)

  abbrev new : Kernel
  new = prepared_as k n m page

  abbrev was : PageStage
  was = stage_of r.rooms.pages page

  own_hand : (other : ℕ) → core_at side other ≡ hand_of r other
  own_hand other = hand_each r k.cores other h.hands.below

  in_hand : (other : ℕ) → (core_at side other).prepares ≡ prepared_by r other
  in_hand other = ap (λ (hand : CoreSide). hand.prepares) (own_hand other)

  -- The page.

  not_yet_for : MayPrepare r c.world core page → IsWritable r page → ⊥
  not_yet_for (inl has) =
      held_unwritable (state_of r.rooms.pages page) core ((h.work.prepares core page p.in_range).0 has)
  not_yet_for (inr begins) = begins.not_yet

  not_yet : IsWritable r page → ⊥
  not_yet = not_yet_for p.why

  steps_then : steps_left (stage_of n.rooms.pages page) + 1 ≡ steps_left was
  steps_then =
      ap (λ (stage : PageStage). steps_left stage + 1) p.stage ∙ steps_fall was core not_yet

  -- no other core has it in hand
  alone_for : MayPrepare r c.world core page → (other : ℕ) → other ≢ core → prepared_by r other ≢ Some page
  alone_for (inl has) other apart e =
      let mine : state_of r.rooms.pages page ≡ state.Preparing core = (h.work.prepares core page p.in_range).0 has in
      let theirs : state_of r.rooms.pages page ≡ state.Preparing other = (h.work.prepares other page p.in_range).0 e in
      let both : state.Preparing other ≡ state.Preparing core = sym theirs ∙ mine in
      apart (cc)
  alone_for (inr begins) other apart e = begins.at_hand other e

  alone : (other : ℕ) → other ≢ core → prepared_by r other ≢ Some page
  alone = alone_for p.why

  -- Hands.

  others_same : (other : ℕ) → other ≢ core → hand_of n other ≡ hand_of r other
  others_same other apart = hand_same r n other (p.others other apart) (λ q e.
      ap steps_left (p.stages q (λ (is : q ≡ page). alone other apart (e ∙ ap Some is))))

  own_hand_then : (IsWritable n page) ⊎ (IsWritable n page → ⊥) → IsOrNone (prepared_by n core) page
  own_hand_then (inl done) = inl (p.done done)
  own_hand_then (inr goes_on) = inr (p.goes_on goes_on)

  own_due_then : (IsWritable n page) ⊎ (IsWritable n page → ⊥)
      → due_of n (prepared_by n core) ≡ steps_left (stage_of n.rooms.pages page)
  own_due_then (inl done) = ap (due_of n) (p.done done) ∙ sym (steps_done (stage_of n.rooms.pages page) done)
  own_due_then (inr goes_on) = ap (due_of n) (p.goes_on goes_on)

  is_done : (IsWritable n page) ⊎ (IsWritable n page → ⊥)
  is_done = cases_writable (state_of n.rooms.pages page)

  below_then : (other q : ℕ) → prepared_by n other ≡ Some q → other < k.cores
  below_then other q e = elim (cases_eq other core) [
    | inl is ↦ subst (λ (i : ℕ). i < k.cores) (sym is) below
    | inr apart ↦ h.hands.below other q (sym (p.others other apart) ∙ e)
  ]

  next_hand : core_at (side_of new) core ≡ hand_of n core
  next_hand = hand_each n k.cores core below_then

  next_due : (core_at (side_of new) core).due ≡ steps_left (stage_of n.rooms.pages page)
  next_due = ap (λ (hand : CoreSide). hand.due) next_hand ∙ own_due_then is_done

  owes_less : (core_at side core).prepares ≡ Some page → OwesLess side core (side_of new)
  owes_less e =
      let has : prepared_by r core ≡ Some page = sym (in_hand core) ∙ e in
      let before : (core_at side core).due ≡ steps_left was =
      ap (λ (hand : CoreSide). hand.due) (own_hand core) ∙ ap (due_of r) has in
      omega (arith, before, next_due, steps_then)

  -- Why it prepares the page.

  at_hand : ((other : ℕ) → prepared_by r other ≢ Some page) → IsAtHand side page
  at_hand free = record {
    home = λ away. (let none = away.1 in omega arith);
    unprepared = λ other e. free other (sym (in_hand other) ∙ e);
  }

  why_for : MayPrepare r c.world core page
      → ((core_at side core).prepares ≡ Some page) ⊎ BeginsPage c.world side core page
  why_for (inl has) = inl (in_hand core ∙ has)
  why_for (inr begins) = inr (record {
    at_tick = record {
      runs = refl;
      free = (in_hand core ∙ begins.free, ap (λ (hand : CoreSide). hand.holds) (own_hand core));
    };
    there = begins.there;
    stores = begins.stores;
    not_yet = not_writable r page p.in_range begins.not_yet;
    at_hand = at_hand begins.at_hand;
  })

  -- Which pages may be stored to then.

  other_writable : (i : ℕ) → i ≢ page → writable_by n i ≡ writable_by r i
  other_writable i apart = writable_alike r n i (λ inside. ap state_at (p.stages i apart))

  done_at : IsWritable n page → (i : ℕ) → writable_by n i ≡ with_at (writable_by r) page true i
  done_at done i = elim (cases_eq i page) [
    | inl e ↦
        ap (writable_by n) e ∙ is_writable n page p.in_range done
        ∙ sym (ap (λ (b : Bool). if b then true else writable_by r i) (eq-eqb i page e))
    | inr apart ↦
        other_writable i apart
        ∙ sym (ap (λ (b : Bool). if b then true else writable_by r i) (ne_eqb i page apart))
  ]

  still_at : (IsWritable n page → ⊥) → (i : ℕ) → writable_by n i ≡ writable_by r i
  still_at goes_on i = elim (cases_eq i page) [
    | inl e ↦
        ap (writable_by n) e ∙ not_writable n page p.in_range goes_on
        ∙ sym (not_writable r page p.in_range not_yet) ∙ sym (ap (writable_by r) e)
    | inr apart ↦ other_writable i apart
  ]

  abbrev then_by : Bool → ℕ → Bool
  then_by done = if done then with_at (writable_by r) page true else writable_by r

  done_all : IsWritable n page → writable_by n ≡ then_by true
  done_all done = fun_ext (done_at done)

  still_all : (IsWritable n page → ⊥) → writable_by n ≡ then_by false
  still_all goes_on = fun_ext (still_at goes_on)

  writable_for : (IsWritable n page) ⊎ (IsWritable n page → ⊥)
      → writable_by n ≡ then_by (steps_left (stage_of n.rooms.pages page) == 0)
  writable_for (inl done) =
      done_all done
      ∙ sym (ap then_by (eq-eqb (steps_left (stage_of n.rooms.pages page)) 0
      (steps_done (stage_of n.rooms.pages page) done)))
  writable_for (inr goes_on) =
      still_all goes_on ∙ sym (ap then_by (steps_not_none (stage_of n.rooms.pages page) goes_on))

  writable_then : writable_by n ≡ writable_if_done side page (core_at (side_of new) core).due
  writable_then = writable_for is_done ∙ sym (ap (λ (due : ℕ). then_by (due == 0)) next_due)

  -- The side.

  abbrev seen_with : List CoreSide → (ℕ → ℕ) → (ℕ → Bool) → Side
  seen_with hands spent writable = record side { cores = hands; spent = spent; writable = writable }

  page_there : page < length k.spent
  page_there = let inside = p.in_range in omega (arith, size, inside)

  spent_all : spent_at (spent_more k.spent page) ≡ with_at (spent_at k.spent) page (spent_at k.spent page + 1)
  spent_all = fun_ext (spent_with k.spent page page_there)

  side_then : side_of new ≡ record side {
    cores = cores_but side core (side_of new);
    spent = with_at (spent_at k.spent) page (spent_at k.spent page + 1);
    writable = writable_if_done side page (core_at (side_of new) core).due;
  }
  side_then =
      ap (λ (hands : List CoreSide). seen_with hands (spent_at (spent_more k.spent page)) (writable_by n))
      (hands_but r n k.cores core below others_same)
      ∙ ap (λ (spent : ℕ → ℕ). seen_with (cores_but side core (side_of new)) spent (writable_by n)) spent_all
      ∙ ap (seen_with (cores_but side core (side_of new)) (with_at (spent_at k.spent) page (spent_at k.spent page + 1)))
      writable_then

  bound : spent_at k.spent page < MOST_PREPARES
  bound =
      let most = h.hands.seldom page p.in_range in
      let some = steps_some was not_yet in
      omega (arith, most, some)

  prepares : lawful.Prepares c.world side core page (side_of new)
  prepares = record {
    up = inl refl;
    why = why_for p.why;
    spent = bound;
    due = owes_less;
    prepares = subst (λ (hand : CoreSide). IsOrNone hand.prepares page) (sym next_hand) (own_hand_then is_done);
    holds =
        ap (λ (hand : CoreSide). hand.holds) next_hand ∙ sym (ap (λ (hand : CoreSide). hand.holds) (own_hand core));
    rest = side_then;
  }

  -- What it is at.

  spent_then : (i : ℕ) → i < PAGES
      → spent_at (spent_more k.spent page) i + steps_left (stage_of n.rooms.pages i) ≤ MOST_PREPARES
  spent_then i inside = elim (cases_eq i page) [
    | inl e ↦
        let count = spent_here k.spent page i page_there e in
        let steps = ap (λ (q : ℕ). steps_left (stage_of n.rooms.pages q)) e in
        let most = h.hands.seldom page p.in_range in
        omega (arith, count, steps, most, steps_then)
    | inr apart ↦
        let count = spent_there k.spent page i apart in
        let steps = ap steps_left (p.stages i apart) in
        let most = h.hands.seldom i inside in
        omega (arith, count, steps, most)
  ]

  commits_same : m.commits ≡ k.nvm.commits
  commits_same =
      no_commit k.nvm m p.counts
      (durable_version n k.accepted m c.world p.runs ∙ sym (durable_version r k.accepted k.nvm c.world h.work))

  at_then : IsAt new c
  at_then = record {
    work = p.runs;
    hands = record { below = below_then; seldom = spent_then };
    some = h.some;
    most = h.most;
    cores = h.cores;
    saved_cores = h.saved_cores;
    commits = commits_same ∙ h.commits;
    cuts = p.counts.cuts ∙ h.cuts;
  }

  pub prepared_turn : TakesTurn (running_as k r) c core (did.Inner (why.Prepare page)) new
  prepared_turn = record {
    goes = record {
      lawful = prepares;
      words = one_operation core (word_at k.nvm) (word_at m) p.operation;
      ops = let one = p.one in omega (arith, one, one_more_at_most k.nvm.ops);
      renewed = λ no. absurd no;
      board = λ closed opened. absurd (cc);
      opened = λ no. absurd no;
      rest = ap (λ (cuts : ℕ). record (seen_of (running_as k r)) {
        side = side_of new;
        words = word_at m;
        ops = m.ops;
        commits = m.commits;
        cuts = cuts;
      }) p.counts.cuts;
    };
    is_at = at_then;
  }
