-- Turns leave fewer turns to the leader, and prepare pages seldom.
use Rattle.std.proofs.Common.{◌≡◌, ◌≢◌, inl, inr, ℕ, zero, suc, ◌+◌, ◌<◌, ◌≤◌, ◌==◌, ◌∙◌, sym, ap, refl, Bool, true, false, if◌then◌else◌, nat_lt, arith, List, [], ◌∷◌, length, slice_index_or}
use Rattle.std.proofs.lemmas.Bool.Decides.{nat_tests}
use Rattle.plain_model.specs.Worlds.{World}
use Rattle.machine_contract.specs.declared.bounds.TheConstants.{MOST_PREPARES}
use Rattle.machine_contract.specs.declared.answers.Did.{Did}
use Rattle.machine_contract.specs.declared.answers.Did.TheVariants as did
use Rattle.machine_contract.specs.declared.answers.Why.{Why}
use Rattle.machine_contract.specs.declared.answers.Why.TheVariants as why
use Rattle.machine_contract.specs.declared.answers.Event.{Event}
use Rattle.machine_contract.specs.declared.answers.Event.TheVariants.{Turn}
use Rattle.machine_contract.specs.declared.answers.Answer.{Answer}
use Rattle.machine_contract.specs.declared.answers.Answer.TheVariants as told
use Rattle.machine_contract.specs.Side.{Side, CoreSide, Running, free_core, IsSound}
use Rattle.machine_contract.specs.Lawful.{IsLawful, HelperSteps}
use Rattle.machine_contract.specs.Courses.{Course, turn_label, after}
use Rattle.machine_contract.specs.Shown.{Seen, Format}
use Rattle.machine_contract.specs.Play.{IsPlayed}
use Rattle.machine_contract.specs.Laws.{AreTurns, fallen, prepared, prepared_by, StaysDid, StaysInEpoch, IsLead, AreLeads}
use Rattle.machine_contract.proofs.Labels.{turn_cores}

-- What a helper's step leaves of the side.

step_left : (old : Side) (core : ℕ) (new : Side) → HelperSteps old core new → new.left ≡ old.left
step_left old core new step = elim step [
  | inl on ↦ ap (λ (s : Side). s.left) on.1.rest
  | inr rest ↦ elim rest [
    | inl draws ↦ ap (λ (s : Side). s.left) draws.1.rest
    | inr none ↦ ap (λ (s : Side). s.left) none.rest
  ]
]

step_spent : (old : Side) (core : ℕ) (new : Side) → HelperSteps old core new → new.spent ≡ old.spent
step_spent old core new step = elim step [
  | inl on ↦ ap (λ (s : Side). s.spent) on.1.rest
  | inr rest ↦ elim rest [
    | inl draws ↦ ap (λ (s : Side). s.spent) draws.1.rest
    | inr none ↦ ap (λ (s : Side). s.spent) none.rest
  ]
]

-- A turn leaves no more turns.

same_left : (old new : Side) → new.left ≡ old.left → new.left ≤ old.left
same_left old new e = omega arith

inner_left : (w : World) (old : Side) (core : ℕ) (answer : Why) (new : Side)
    → IsLawful w old core (did.Inner answer) new → new.left ≤ old.left
inner_left w old core (why.Copy entry) new h = same_left old new (ap (λ (s : Side). s.left) h.step.rest)
inner_left w old core why.Lead new h =
    elim h.left [ inl less ↦ omega arith | inr waits ↦ same_left old new waits.left ]
inner_left w old core why.Help new h = same_left old new (step_left old core new h.step)
inner_left w old core why.Format new h = let less = h.left in omega arith
inner_left w old core why.Recover new h = let less = h.left in omega arith
inner_left w old core answer new h = same_left old new (ap (λ (s : Side). s.left) h.rest)

pub turn_left : (w : World) (old : Side) (core : ℕ) (answer : Did) (new : Side) → IsLawful w old core answer new
    → new.left ≤ old.left
turn_left w old core (did.Inner answer) new h = inner_left w old core answer new h
turn_left w old core (did.Committed v) new h = let less = h.left in omega arith
turn_left w old core (did.Up v) new h =
    let none : new.left ≡ 0 = ap (λ (s : Side). s.left) h.rest in omega arith
turn_left w old core answer new h = same_left old new (ap (λ (s : Side). s.left) h.rest)

-- one fall, and those behind it
falls : (b : Bool) (new mid old rest : ℕ) → nat_lt mid old ≡ b → mid ≤ old → new + rest ≤ mid
    → new + ((if b then 1 else 0) + rest) ≤ old
falls true new mid old rest is below behind = let less : mid < old = grind (arith, nat_tests) in omega arith
falls false new mid old rest is below behind = omega arith

-- How often a page is prepared.

-- the page is prepared by so many turns more, within the bound if it was within before
abbrev pub Spends : Side → Side → ℕ → ℕ → Type 0
Spends new old page n =
    (new.spent page ≡ old.spent page + n) × (old.spent page ≤ MOST_PREPARES → new.spent page ≤ MOST_PREPARES)

kept_spent : (new old : Side) (page : ℕ) → new.spent page ≡ old.spent page → Spends new old page 0
kept_spent new old page e = (omega arith, λ few. omega arith)

prepare_spent : (new old : Side) (k page : ℕ) (b : Bool) → (page == k) ≡ b → old.spent k < MOST_PREPARES
    → new.spent page ≡ (if b then old.spent k + 1 else old.spent page) → Spends new old page (if b then 1 else 0)
prepare_spent new old k page true is few e =
    let here : page ≡ k = grind (arith, nat_tests) in
    let same : old.spent page ≡ old.spent k = ap old.spent here in
    (omega arith, λ below. omega arith)
prepare_spent new old k page false is few e = kept_spent new old page e

spent_inner : (w : World) (old : Side) (core : ℕ) (answer : Why) (new : Side) (page : ℕ)
    → IsLawful w old core (did.Inner answer) new → Spends new old page (prepared (did.Inner answer) page)
spent_inner w old core (why.Prepare k) new page h =
    prepare_spent new old k page (page == k) refl h.spent (ap (λ (s : Side). s.spent page) h.rest)
spent_inner w old core (why.Copy entry) new page h =
    kept_spent new old page (ap (λ (s : Side). s.spent page) h.step.rest)
spent_inner w old core why.Help new page h =
    kept_spent new old page (ap (λ (f : ℕ → ℕ). f page) (step_spent old core new h.step))
spent_inner w old core answer new page h = kept_spent new old page (ap (λ (s : Side). s.spent page) h.rest)

spent_turn : (w : World) (old : Side) (core : ℕ) (answer : Did) (new : Side) (page : ℕ)
    → IsLawful w old core answer new → StaysDid answer → Spends new old page (prepared answer page)
spent_turn w old core did.Retired new page h stays = kept_spent new old page (ap (λ (s : Side). s.spent page) h.rest)
spent_turn w old core did.Idle new page h stays = kept_spent new old page (ap (λ (s : Side). s.spent page) h.rest)
spent_turn w old core (did.Inner answer) new page h stays = spent_inner w old core answer new page h
spent_turn w old core (did.Committed v) new page h stays = absurd stays
spent_turn w old core (did.Up v) new page h stays = absurd stays

spends_more : (new mid old : Side) (page n rest : ℕ) → Spends mid old page n → Spends new mid page rest
    → Spends new old page (n + rest)
spends_more new mid old page n rest a b =
    let x = a.0 in let y = b.0 in (omega arith, λ few. b.1 (a.1 few))

-- On one core nobody is waited for.

beyond : (cores : List CoreSide) → length cores ≡ 1 → (i : ℕ) → i ≢ 0
    → (slice_index_or cores i free_core).due ≡ 0
beyond [] one i other = absurd (omega arith)
beyond (core ∷ []) one zero other = absurd (other refl)
beyond (core ∷ []) one (suc i) other = refl
beyond (core ∷ next ∷ cores) one i other = absurd (omega arith)

lead_falls : (w : World) (old : Side) (core : ℕ) (answer : Why) (new : Side) → length old.cores ≡ 1
    → IsLead (did.Inner answer) → IsLawful w old core (did.Inner answer) new → new.left < old.left
lead_falls w old core why.Lead new one lead h = elim h.left [
  | inl less ↦ less
  | inr waits ↦
      let due = waits.due.2 in let none = beyond old.cores one waits.due.0 waits.due.1 in absurd (omega arith)
]
lead_falls w old core answer new one lead h = absurd lead

did_falls : (w : World) (old : Side) (core : ℕ) (answer : Did) (new : Side) → length old.cores ≡ 1 → IsLead answer
    → IsLawful w old core answer new → new.left < old.left
did_falls w old core (did.Inner answer) new one lead h = lead_falls w old core answer new one lead h
did_falls w old core (did.Committed v) new one lead h = h.left
did_falls w old core answer new one lead h = absurd lead

one_more : (b : Bool) (mid old n rest : ℕ) → nat_lt mid old ≡ b → mid < old → n ≤ rest
    → suc n ≤ (if b then 1 else 0) + rest
one_more true mid old n rest is less more = omega arith
one_more false mid old n rest is less more = absurd (grind (arith, nat_tests))

-- Plays of turns.

module _ {M : Type 0} (format : Format) (seen : M → Seen) (Shows : M → Course → Type 0) where
  pub left_falls : (events : List Event) (answers : List Answer) (old : M) (c : Course) (new : M)
      (h : IsPlayed format seen Shows events answers old c new) → AreTurns events
      → (seen new).side.left + fallen format seen Shows events answers old c new h ≤ (seen old).side.left
  left_falls [] [] old c new h turns =
      let same : (seen new).side.left ≡ (seen old).side.left = ap (λ (m : M). (seen m).side.left) (sym h) in
      omega arith
  left_falls (Turn core ∷ events) (told.Did answer ∷ answers) old c new h turns =
      falls (nat_lt (seen h.0).side.left (seen old).side.left) (seen new).side.left (seen h.0).side.left
      (seen old).side.left (fallen format seen Shows events answers h.0 (after c (turn_label core answer)) new h.2) refl
      (turn_left c.world (seen old).side core answer (seen h.0).side h.1.goes.lawful)
      (left_falls events answers h.0 (after c (turn_label core answer)) new h.2 turns)
  left_falls (Turn core ∷ events) (answer ∷ answers) old c new h turns = absurd h.1.goes
  left_falls (event ∷ events) (answer ∷ answers) old c new h turns = absurd turns
  left_falls (event ∷ events) [] old c new h turns = absurd h
  left_falls [] (answer ∷ answers) old c new h turns = absurd h

  -- a play of turns by which so many fall as were left has come to an end
  pub turns_end : (events : List Event) (answers : List Answer) (old : M) (c : Course) (new : M)
      (h : IsPlayed format seen Shows events answers old c new) → AreTurns events → IsSound (seen new).side
      → (seen old).side.left ≤ fallen format seen Shows events answers old c new h → (seen new).side.mode ≡ Running
  turns_end events answers old c new h turns sound many =
      let bound = left_falls events answers old c new h turns in sound.left.0 (omega arith)

  pub spent_in_epoch : (events : List Event) (answers : List Answer) (old : M) (c : Course) (new : M) (page : ℕ)
      → IsPlayed format seen Shows events answers old c new → AreTurns events → StaysInEpoch answers
      → Spends (seen new).side (seen old).side page (prepared_by answers page)
  spent_in_epoch [] [] old c new page h turns stays =
      kept_spent (seen new).side (seen old).side page (ap (λ (m : M). (seen m).side.spent page) (sym h))
  spent_in_epoch (Turn core ∷ events) (told.Did answer ∷ answers) old c new page h turns stays =
      spends_more (seen new).side (seen h.0).side (seen old).side page (prepared answer page) (prepared_by answers page)
      (spent_turn c.world (seen old).side core answer (seen h.0).side page h.1.goes.lawful stays.0)
      (spent_in_epoch events answers h.0 (after c (turn_label core answer)) new page h.2 turns stays.1)
  spent_in_epoch (Turn core ∷ events) (answer ∷ answers) old c new page h turns stays = absurd h.1.goes
  spent_in_epoch (event ∷ events) (answer ∷ answers) old c new page h turns stays = absurd turns
  spent_in_epoch (event ∷ events) [] old c new page h turns stays = absurd h
  spent_in_epoch [] (answer ∷ answers) old c new page h turns stays = absurd h

  leads_fall : (events : List Event) (answers : List Answer) (old : M) (c : Course) (new : M)
      (h : IsPlayed format seen Shows events answers old c new) → length (seen old).side.cores ≡ 1
      → AreTurns events → AreLeads answers
      → length answers ≤ fallen format seen Shows events answers old c new h
  leads_fall [] [] old c new h one turns leads = omega arith
  leads_fall (Turn core ∷ events) (told.Did answer ∷ answers) old c new h one turns leads =
      one_more (nat_lt (seen h.0).side.left (seen old).side.left) (seen h.0).side.left (seen old).side.left
      (length answers) (fallen format seen Shows events answers h.0 (after c (turn_label core answer)) new h.2) refl
      (did_falls c.world (seen old).side core answer (seen h.0).side one leads.0 h.1.goes.lawful)
      (leads_fall events answers h.0 (after c (turn_label core answer)) new h.2
      (turn_cores c.world (seen old).side core answer (seen h.0).side h.1.goes.lawful ∙ one) turns leads.1)
  leads_fall (Turn core ∷ events) (answer ∷ answers) old c new h one turns leads = absurd leads
  leads_fall (event ∷ events) (answer ∷ answers) old c new h one turns leads = absurd turns
  leads_fall (event ∷ events) [] old c new h one turns leads = absurd h
  leads_fall [] (answer ∷ answers) old c new h one turns leads = absurd h

  -- on one core, as many turns of the leader as were left end the checkpoint
  pub leads_end : (events : List Event) (answers : List Answer) (old : M) (c : Course) (new : M)
      → IsPlayed format seen Shows events answers old c new → length (seen old).side.cores ≡ 1 → AreTurns events
      → AreLeads answers → IsSound (seen new).side → (seen old).side.left ≤ length answers
      → (seen new).side.mode ≡ Running
  leads_end events answers old c new h one turns leads sound many =
      let fall = leads_fall events answers old c new h one turns leads in
      turns_end events answers old c new h turns sound (omega arith)
