-- The words that a seed has written back, one after the other.
use Rattle.std.proofs.Common.{◌≡◌, ℕ, zero, suc, ◌+◌, ◌<◌, ◌≤◌, Bool, true, false, cond, ◌==◌, Option, Some, None, IfSome, refl, sym, ap, ◌∙◌, subst, arith, ⊎_elim, eq-eqb, eqb-true, add-one}
use Rattle.std.proofs.lemmas.Bool.{cases_lt}
use Rattle.std.proofs.lemmas.Bool.Decides.{nat_tests}
use Rattle.pmem_model.specs.Words.{Word, written_back, writes_back, is_within}
use Rattle.sls_base.specs.Lcg.{next_state}
use Rattle.sls_kernel.specs.Plain.{World}
use Rattle.sls_kernel.specs.Shows.{Shows}
use Rattle.sls_kernel.specs.Side as side
use Rattle.sls_kernel.specs.Side.{Running, BeforeCommit, AfterCommit, IsWritten, mode, left}
use Rattle.sls_kernel.specs.declared.machine.Machine.{Machine}
use Rattle.job_run.specs.Ends.{Keeps}
use Rattle.job_run.specs.WriteBacks.{state_after, chooses, is_dirty, dirty_below, is_chosen}

clean : (w : Word) → w.cached ≡ w.durable → is_dirty w ≡ false
clean w h = let test : (w.cached == w.durable) ≡ true = eq-eqb w.cached w.durable h in rw test refl

differs : (b : Bool) → b ≡ false → cond b false true ≡ true
differs true h = sym h
differs false h = refl

not_equal : (a b : ℕ) → (a ≡ b → ⊥) → (a == b) ≡ false
not_equal a b h = test (a == b) refl
  where
    test : (c : Bool) → (a == b) ≡ c → c ≡ false
    test true e = absurd (h (eqb-true a b e))
    test false e = refl

dirty : (w : Word) → (w.cached ≡ w.durable → ⊥) → is_dirty w ≡ true
dirty w h = differs (w.cached == w.durable) (not_equal w.cached w.durable h)

-- clean words take no draw
none_between : (f : ℕ → Word) (from k : ℕ) → from ≤ k → ((i : ℕ) → from ≤ i → i < k → is_dirty (f i) ≡ false) → dirty_below f k ≡ dirty_below f from
unfolding dirty_below
none_between f from zero le none = let same : from ≡ 0 = omega arith in rw same refl
none_between f from (suc k) le none = ⊎_elim
    (λ (lt : from < suc k). rw (none k (omega arith) (omega arith)) (none_between f from k (omega arith) (λ i a b. none i a (omega arith))))
    (λ (ge : suc k ≤ from). let same : from ≡ suc k = omega arith in rw same refl)
    (cases_lt from (suc k))

-- the words below a place are as the seed has them, the others as they were, and this is the generator's state
pub record IsChosenTo (seed : ℕ) (f g : ℕ → Word) (from state : ℕ) : Type 0 where
  pub drawn : state ≡ state_after (dirty_below f from) seed
  pub behind : (i : ℕ) → i < from → g i ≡ writes_back (is_chosen seed f) f i
  pub ahead : (i : ℕ) → from ≤ i → g i ≡ f i

pub start : (seed : ℕ) (f : ℕ → Word) → IsChosenTo seed f f 0 seed
unfolding dirty_below state_after
start seed f = record { drawn = refl; behind = λ i lt. absurd (omega arith); ahead = λ i le. refl }

not_chosen : (seed : ℕ) (f : ℕ → Word) (i : ℕ) → is_dirty (f i) ≡ false → f i ≡ writes_back (is_chosen seed f) f i
unfolding is_chosen
not_chosen seed f i h = rw h refl

module _ (seed : ℕ) (f g : ℕ → Word) (from k state : ℕ) (so_far : IsChosenTo seed f g from state) (le : from ≤ k) (is : (g k).cached ≡ (g k).durable → ⊥) (before : (i : ℕ) → from ≤ i → i < k → (g i).cached ≡ (g i).durable) where
  same_at : (i : ℕ) → from ≤ i → i < k → is_dirty (f i) ≡ false
  same_at i a b = let P : Word → Type 0 = λ w. is_dirty w ≡ false in subst P (so_far.ahead i a) (clean (g i) (before i a b))

  here : is_dirty (f k) ≡ true
  here = let P : Word → Type 0 = λ w. is_dirty w ≡ true in subst P (so_far.ahead k le) (dirty (g k) is)

  count : dirty_below f (k + 1) ≡ suc (dirty_below f from)
  unfolding dirty_below
  count = rw (add-one, here) (ap suc (none_between f from k le same_at))

  draw : state_after (suc (dirty_below f k)) seed ≡ next_state state
  unfolding state_after
  draw = rw (none_between f from k le same_at, so_far.drawn) refl

  chosen_here : is_chosen seed f k ≡ chooses (next_state state)
  unfolding is_chosen
  chosen_here = rw (here, draw) refl

  pub goes_on : (after : ℕ → Word) (state_now : ℕ) → state_now ≡ next_state state → ((i : ℕ) → i < k → after i ≡ g i) → ((i : ℕ) → k < i → after i ≡ g i)
      → after k ≡ cond (chooses state_now) (written_back (g k)) (g k) → IsChosenTo seed f after (k + 1) state_now
  unfolding state_after
  goes_on after state_now now below above at = record {
    drawn = rw (count, now, so_far.drawn) refl;
    behind = λ i lt. ⊎_elim
        (λ (early : i < from). below i (omega arith) ∙ so_far.behind i early)
        (λ (late : from ≤ i). ⊎_elim
        (λ (between : i < k). below i between ∙ so_far.ahead i late ∙ not_chosen seed f i (same_at i late between))
        (λ (last : k ≤ i).
        let same : k ≡ i = omega arith in
        let P : ℕ → Type 0 = λ j. after j ≡ writes_back (is_chosen seed f) f j in
        subst P same (rw chosen_here (rw (now, so_far.ahead k le) at at)))
        (cases_lt i k))
        (cases_lt i from);
    ahead = λ i lt. above i (omega arith) ∙ so_far.ahead i (omega arith);
  }

-- which words a write-back of one word leaves
below_within : (k i : ℕ) → i < k → is_within k 1 i ≡ false
below_within k i lt = grind (arith, nat_tests)

above_within : (k i : ℕ) → k < i → is_within k 1 i ≡ false
above_within k i lt = grind (arith, nat_tests)

is_within_itself : (k : ℕ) → is_within k 1 k ≡ true
is_within_itself k = grind (arith, nat_tests)

-- the next dirty word is written back
pub written : (seed : ℕ) (f g : ℕ → Word) (from k state : ℕ) → IsChosenTo seed f g from state → from ≤ k → ((g k).cached ≡ (g k).durable → ⊥) → ((i : ℕ) → from ≤ i → i < k → (g i).cached ≡ (g i).durable)
    → (after : ℕ → Word) (state_now : ℕ) → state_now ≡ next_state state → chooses state_now ≡ true → ((i : ℕ) → after i ≡ writes_back (is_within k 1) g i) → IsChosenTo seed f after (k + 1) state_now
written seed f g from k state so_far le is before after state_now now bit words =
    goes_on seed f g from k state so_far le is before after state_now now
    (λ i lt. words i ∙ (rw (below_within k i lt) refl))
    (λ i lt. words i ∙ (rw (above_within k i lt) refl))
    (words k ∙ (rw (is_within_itself k, bit) refl))

-- the next dirty word is left
pub passed : (seed : ℕ) (f g : ℕ → Word) (from k state : ℕ) → IsChosenTo seed f g from state → from ≤ k → ((g k).cached ≡ (g k).durable → ⊥) → ((i : ℕ) → from ≤ i → i < k → (g i).cached ≡ (g i).durable)
    → (state_now : ℕ) → state_now ≡ next_state state → chooses state_now ≡ false → IsChosenTo seed f g (k + 1) state_now
passed seed f g from k state so_far le is before state_now now bit =
    goes_on seed f g from k state so_far le is before g state_now now (λ i lt. refl) (λ i lt. refl) (rw bit refl)

-- a write-back while the machine runs keeps what it shows
pub kept_back : (old new : Machine) (version : Option ℕ) → mode old ≡ Running → IfSome version (λ v. (mode old ≡ BeforeCommit) × (mode new ≡ AfterCommit) × (left old ≤ 2))
    → ((w : World) → Shows old w → IsWritten w version × Shows new (side.written w version)) → Keeps old new
kept_back old new None up commit shows = λ w s. (shows w s).1
kept_back old new (Some v) up commit shows = absurd (let both : Running ≡ BeforeCommit = sym up ∙ commit.0 in cc)

-- no dirty word is left
pub whole : (seed : ℕ) (f g : ℕ → Word) (from state most : ℕ) → IsChosenTo seed f g from state → ((i : ℕ) → from ≤ i → i < most → (g i).cached ≡ (g i).durable)
    → (i : ℕ) → i < most → g i ≡ writes_back (is_chosen seed f) f i
whole seed f g from state most so_far none i lt = ⊎_elim
    (λ (early : i < from). so_far.behind i early)
    (λ (late : from ≤ i).
    let P : Word → Type 0 = λ w. is_dirty w ≡ false in
    so_far.ahead i late ∙ not_chosen seed f i (subst P (so_far.ahead i late) (clean (g i) (none i late lt))))
    (cases_lt i from)
