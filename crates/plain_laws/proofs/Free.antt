-- Numbers that are free.
use Rattle.std.specs.Prelude.{◌≡◌, ℕ, zero, suc, ◌+◌, ◌<◌, ◌≤◌, Bool, true, false, not, List, [], ◌∷◌, length, filter, AllPairs, Contains, Option, Some, None, is_some, slice_index_or}
use Rattle.std.specs.List.{range_with_len}
use Rattle.std.proofs.Common.{refl, ap, subst, arith, inl, inr}
use Rattle.std.proofs.lemmas.Bool.{cases_eq, not-true, not-false}
use Rattle.std.proofs.lemmas.List.Kept.{AllPairs-filter}
use Rattle.std.proofs.lemmas.List.FromFn.{length-range_with_len, get_or-range_with_len}
use Rattle.sls_base.specs.declared.limits.TheConstants.{OBJECTS, PAGES}
use Rattle.plain_model.specs.Objects.{Object, every_object, every_page}
use Rattle.plain_model.specs.Worlds.{World, is_used_object, is_used_page, free_objects, free_pages, has_page}
use Rattle.plain_model.specs.CallEffects.{new_id}
use Rattle.plain_laws.specs.Laws.{IsLeastFree, IsFreePage, AreFreePages}
use Rattle.sls_base.proofs.ListTests.{IsIn, here, there, in_range, range_in, or_false}

-- the first number of a range that passes a test: it is in the range, it passes, and none below it does
pub record IsFirst (p : ℕ → Bool) (from end first : ℕ) : Type 0 where
  pub in_range : first < end
  pub passes : p first ≡ true
  pub before : (i : ℕ) → from ≤ i → i < first → p i ≡ false

-- it is the range's first number, or the first of the rest
pub first_from : (p : ℕ → Bool) (a n : ℕ) (b : Bool) → p a ≡ b
    → (0 < length (filter p (range_with_len (a + 1) n)) → IsFirst p (a + 1) (a + 1 + n) (slice_index_or (filter p (range_with_len (a + 1) n)) 0 0))
    → 0 < length (filter p (range_with_len a (suc n))) → IsFirst p a (a + suc n) (slice_index_or (filter p (range_with_len a (suc n))) 0 0)
first_from p a n true e rest l = rw e (record { in_range = omega arith; passes = e; before = λ i from below. absurd (omega arith) })
first_from p a n false e rest l =
    let shorter : 0 < length (filter p (range_with_len (a + 1) n)) = rw e at l in
    let found = rest shorter in
    rw e (record {
      in_range = (let r = found.in_range in omega arith);
      passes = found.passes;
      before = λ i from below. elim (cases_eq i a) [
        | inl same ↦ rw same e
        | inr other ↦ found.before i (omega arith) below
      ];
    })

pub first_of_range : (p : ℕ → Bool) (a n : ℕ) → 0 < length (filter p (range_with_len a n)) → IsFirst p a (a + n) (slice_index_or (filter p (range_with_len a n)) 0 0)
first_of_range p a zero l = absurd (omega arith)
first_of_range p a (suc n) l = first_from p a n (p a) refl (first_of_range p (a + 1) n) l

-- Elements of filtered lists.

pub head_or_rest : (p : ℕ → Bool) (y : ℕ) (ys : List ℕ) (x : ℕ) → p y ≡ true → (IsIn x (filter p ys) → IsIn x ys × (p x ≡ true)) → IsIn x (y ∷ filter p ys) → IsIn x (y ∷ ys) × (p x ≡ true)
head_or_rest p y ys x e rest here = (here, e)
head_or_rest p y ys x e rest (there i) = let r = rest i in (there r.0, r.1)

pub passes_on : (p : ℕ → Bool) (y : ℕ) (ys : List ℕ) (x : ℕ) (b : Bool) → p y ≡ b → (IsIn x (filter p ys) → IsIn x ys × (p x ≡ true)) → IsIn x (filter p (y ∷ ys)) → IsIn x (y ∷ ys) × (p x ≡ true)
passes_on p y ys x true e rest i = head_or_rest p y ys x e rest (rw e at i)
passes_on p y ys x false e rest i = let r = rest (rw e at i) in (there r.0, r.1)

pub in_filtered : (p : ℕ → Bool) (xs : List ℕ) (x : ℕ) → IsIn x (filter p xs) → IsIn x xs × (p x ≡ true)
in_filtered p [] x i = elim i [ ]
in_filtered p (y ∷ ys) x i = passes_on p y ys x (p y) refl (in_filtered p ys x) i

pub kept_on : (p : ℕ → Bool) (y : ℕ) (ys : List ℕ) (x : ℕ) (b : Bool) → p y ≡ b → IsIn x (filter p ys) → IsIn x (filter p (y ∷ ys))
kept_on p y ys x true e i = rw e (there i)
kept_on p y ys x false e i = rw e i

pub stays_in : (p : ℕ → Bool) (xs : List ℕ) (x : ℕ) → IsIn x xs → p x ≡ true → IsIn x (filter p xs)
stays_in p [] x i e = elim i [ ]
stays_in p (y ∷ ys) x here e = rw e here
stays_in p (y ∷ ys) x (there i) e = kept_on p y ys x (p y) refl (stays_in p ys x i e)

pub index_in : (xs : List ℕ) (k d : ℕ) → k < length xs → IsIn (slice_index_or xs k d) xs
index_in [] k d l = absurd (omega arith)
index_in (x ∷ xs) zero d l = here
index_in (x ∷ xs) (suc k) d l = there (index_in xs k d (omega arith))

pub in_contains : (xs : List ℕ) (x : ℕ) → IsIn x xs → Contains xs x
in_contains [] x i = elim i [ ]
in_contains (y ∷ ys) x here = (0, omega arith, refl)
in_contains (y ∷ ys) x (there i) = let r = in_contains ys x i in (suc r.0, (let l = r.1 in omega arith), r.2)

pub range_rises : (a n : ℕ) → AllPairs (λ p q. p < q) (range_with_len a n)
range_rises a n i j d l m =
    let below : j < n = (let e = length-range_with_len a n in omega arith) in
    let above : i < n = omega arith in
    rw (get_or-range_with_len a n i d above, get_or-range_with_len a n j d below) (omega arith)

-- Objects and pages.

pub none_from : (object : Option Object) → is_some object ≡ false → object ≡ None
none_from None e = refl
none_from (Some o) e = absurd (cc)

pub least_free : (w : World) → 0 < length (free_objects w) → IsLeastFree w (new_id w)
unfolding free_objects every_object
least_free w l =
    let first = first_of_range (λ i. not (is_used_object w i)) 0 OBJECTS l in
    let unused = or_false (is_some (w.now.objects (new_id w))) (is_some (w.saved.objects (new_id w))) (not-true (is_used_object w (new_id w)) first.passes) in
    record {
      in_range = (let r = first.in_range in omega arith);
      now = none_from (w.now.objects (new_id w)) unused.0;
      saved = none_from (w.saved.objects (new_id w)) unused.1;
      least = λ i below. not-false (is_used_object w i) (first.before i (omega arith) below);
    }

none_passes : (p : ℕ → Bool) (xs : List ℕ) → ((x : ℕ) → IsIn x xs → p x ≡ false) → filter p xs ≡ []
none_passes p [] fails = refl
none_passes p (x ∷ xs) fails = rw (fails x here) (none_passes p xs (λ y i. fails y (there i)))

used_if : (w : World) (id : ℕ) (b : Bool) → is_used_object w id ≡ b → id < OBJECTS → free_objects w ≡ [] → b ≡ true
unfolding free_objects every_object
used_if w id true e below none = refl
used_if w id false e below none =
    let among : IsIn id (free_objects w) = stays_in (λ i. not (is_used_object w i)) every_object id (in_range 0 OBJECTS id (omega arith) (omega arith)) (ap not e) in
    elim (subst (λ (l : List ℕ). IsIn id l) none among) [ ]

pub all_used : (w : World) → free_objects w ≡ [] → (id : ℕ) → id < OBJECTS → is_used_object w id ≡ true
all_used w none id below = used_if w id (is_used_object w id) refl below none

pub no_object_free : (w : World) → ((id : ℕ) → id < OBJECTS → is_used_object w id ≡ true) → free_objects w ≡ []
unfolding free_objects every_object
no_object_free w used =
    none_passes (λ i. not (is_used_object w i)) every_object (λ id i. ap not (used id (let below = range_in 0 OBJECTS id i in let l = below.1 in omega arith)))

pub page_is_free : (w : World) (page : ℕ) → IsIn page (free_pages w) → IsFreePage w page
unfolding free_pages every_page
page_is_free w page i =
    let r = in_filtered (λ q. not (is_used_page w q)) every_page page i in
    let unused = or_false (has_page w.now page) (has_page w.saved page) (not-true (is_used_page w page) r.1) in
    record {
      in_range = (let below = range_in 0 PAGES page r.0 in let l = below.1 in omega arith);
      now = unused.0;
      saved = unused.1;
    }

pub free_page_is_there : (w : World) (page : ℕ) → page < PAGES → is_used_page w page ≡ false → IsIn page (free_pages w)
unfolding free_pages every_page
free_page_is_there w page l e =
    stays_in (λ q. not (is_used_page w q)) every_page page (in_range 0 PAGES page (omega arith) (omega arith)) (ap not e)

pub pages_rise : (w : World) → AllPairs (λ p q. p < q) (free_pages w)
unfolding free_pages every_page
pages_rise w = AllPairs-filter (λ p q. p < q) (λ page. not (is_used_page w page)) every_page (range_rises 0 PAGES)

pub pages_are_free : (w : World) → AreFreePages w
pages_are_free w = record {
  free = λ k d l. page_is_free w (slice_index_or (free_pages w) k d) (index_in (free_pages w) k d l);
  rising = pages_rise w;
  all = λ page l e. in_contains (free_pages w) page (free_page_is_there w page l e);
}
