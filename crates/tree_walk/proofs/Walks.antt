-- A walk finds what is reached.
use Rattle.std.specs.Prelude.{◌≡◌, ℕ, ◌+◌, ◌<◌, ◌≤◌, ◌||◌, nat_lt, Bool, true, false, List, ◌++◌, length, slice_index}
use Rattle.std.proofs.Common.{refl, ap, sym, ◌∙◌, arith, inl, inr}
use Rattle.std.proofs.lemmas.Bool.{lt-ltb, ltb-true, cases_lt}
use Rattle.std.proofs.Common.{length-append}
use Rattle.std.proofs.Math.ListN.{get_or-append}
use Rattle.sls_base.specs.declared.limits.TheConstants.{OBJECTS}
use Rattle.sls_base.specs.declared.fixed.TheConstants.{FIRST_PROGRAM_OBJECT}
use Rattle.plain_model.specs.States.{State}
use Rattle.plain_model.specs.Sweep.{leads_to, is_reached}
use Rattle.plain_laws.specs.Laws.{IsClosed, IsLeast}
use Rattle.kobj_table.specs.declared.objects.Objects.{Objects}
use Rattle.kobj_table.specs.Objects.{object_at, Rest, state_of}
use Rattle.sls_base.proofs.ListTests.{or_left, or_right, or_cases}
use Rattle.tree_walk.specs.declared.reached.Reached.{Reached}
use Rattle.tree_walk.specs.Reached.{has, TellsReached}
use Rattle.tree_walk.specs.Walk.{is_among, Continues}
use Rattle.tree_walk.proofs.Lists.{place_among}

-- What was found is reached, and the first of it was entered: what these lead to is found.
pub record Walks (o : Objects) (reached : Reached) (found : List ℕ) (entered : ℕ) : Type 0 where
  pub within : entered ≤ length found
  pub fixed : (i : ℕ) → i < FIRST_PROGRAM_OBJECT → has reached i ≡ true
  pub sound : (rest : Rest) (i : ℕ) → has reached i ≡ true → is_reached (state_of o rest) i ≡ true
  pub closed : (content : ℕ → ℕ → ℕ) (k i : ℕ) → k < entered → leads_to (object_at content o (slice_index found k)) i ≡ true
      → has reached i ≡ true

-- before any is entered
pub walks_begin : (o : Objects) (reached : Reached) (found : List ℕ) → ((s : State) → IsLeast s) → ((i : ℕ) → has reached i ≡ nat_lt i FIRST_PROGRAM_OBJECT) →
    Walks o reached found 0
walks_begin o reached found least first = record {
  within = omega arith;
  fixed = λ i below. first i ∙ lt-ltb i FIRST_PROGRAM_OBJECT below;
  sound = λ rest i is. (least (state_of o rest)).fixed i (ltb-true i FIRST_PROGRAM_OBJECT (sym (first i) ∙ is));
  closed = λ content k i none. absurd (omega arith);
}

-- one more is entered: these are found that were found, and those to which it leads
pub record Enters (o : Objects) (old new : Reached) (id : ℕ) : Type 0 where
  pub finds : (content : ℕ → ℕ → ℕ) (i : ℕ) → has new i ≡ (has old i || leads_to (object_at content o id) i)
  pub there : (content : ℕ → ℕ → ℕ) (i : ℕ) → leads_to (object_at content o id) i ≡ true → id < OBJECTS

stays : (o : Objects) (old new : Reached) (id i : ℕ) → Enters o old new id → has old i ≡ true → has new i ≡ true
stays o old new id i enters is = enters.finds (λ _ _. 0) i ∙ or_left (has old i) (leads_to (object_at (λ _ _. 0) o id) i) is

sound_still : (o : Objects) (old new : Reached) (id i : ℕ) (rest : Rest) → ((s : State) → IsLeast s) → ((j : ℕ) → has old j ≡ true → is_reached (state_of o rest) j ≡ true) →
    has old id ≡ true → Enters o old new id → has new i ≡ true → is_reached (state_of o rest) i ≡ true
unfolding state_of
sound_still o old new id i rest least sound was enters is =
    elim (or_cases (has old i) (leads_to (object_at rest.content o id) i) (sym (enters.finds rest.content i) ∙ is)) [
      | inl before ↦ sound i before
      | inr led ↦ (least (state_of o rest)).closed id i (enters.there rest.content i led) (sound id was) led
    ]

closed_still : (o : Objects) (old new : Reached) (found others : List ℕ) (entered id k i : ℕ) (content : ℕ → ℕ → ℕ) → entered < length found → slice_index found entered ≡ id →
    Walks o old found entered → Enters o old new id → k < entered + 1 → leads_to (object_at content o (slice_index (found ++ others) k)) i ≡ true → has new i ≡ true
closed_still o old new found others entered id k i content left here walks enters below leads =
    let same : slice_index (found ++ others) k ≡ slice_index found k = get_or-append found others 0 k (omega arith) in
    let leads_so = rw same at leads in
    elim (cases_lt k entered) [
      | inl before ↦ stays o old new id i enters (walks.closed content k i before leads_so)
      | inr not_before ↦
          let now : k ≡ entered = omega arith in
          let from_id = rw (now, here) at leads_so in
          enters.finds content i ∙ or_right (has old i) (leads_to (object_at content o id) i) from_id
    ]

pub walks_on : (o : Objects) (old new : Reached) (found longer : List ℕ) (entered id : ℕ) → ((s : State) → IsLeast s) → entered < length found → slice_index found entered ≡ id →
    has old id ≡ true → Walks o old found entered → Enters o old new id → Continues found longer → Walks o new longer (entered + 1)
walks_on o old new found longer entered id least left here was walks enters continues = record {
  within = omega (arith, ap length continues.is, length-append found continues.others);
  fixed = λ i below. stays o old new id i enters (walks.fixed i below);
  sound = λ rest i is. sound_still o old new id i rest least (walks.sound rest) was enters is;
  closed = λ content k i below leads.
      let leads_then = rw continues.is at leads in
      closed_still o old new found continues.others entered id k i content left here walks enters below leads_then;
}

same_tests : (a b : Bool) → (a ≡ true → b ≡ true) → (b ≡ true → a ≡ true) → a ≡ b
same_tests true b to from = sym (to refl)
same_tests false true to from = from refl
same_tests false false to from = refl

closed_whole : (o : Objects) (reached : Reached) (found : List ℕ) (rest : Rest) → Walks o reached found (length found) → ((i : ℕ) → has reached i ≡ is_among found i) → IsClosed (state_of o rest) (has reached)
unfolding state_of
closed_whole o reached found rest walks listed from i below is leads =
    let place = place_among found from (sym (listed from) ∙ is) in
    walks.closed rest.content place.0 i place.1 (rw place.2 leads)

-- where all that was found is entered, that is what is reached
pub walks_end : (o : Objects) (reached : Reached) (found : List ℕ) (rest : Rest) → ((s : State) → IsLeast s) → Walks o reached found (length found) →
    ((i : ℕ) → has reached i ≡ is_among found i) → TellsReached reached (state_of o rest)
walks_end o reached found rest least walks listed i =
    same_tests (has reached i) (is_reached (state_of o rest) i) (walks.sound rest i)
    ((least (state_of o rest)).least (has reached) walks.fixed (closed_whole o reached found rest walks listed) i)
