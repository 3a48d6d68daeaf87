-- The regions of a space as a list.
use Rattle.std.proofs.Common.{◌≡◌, ◌≢◌, ◌⊎◌, ℕ, suc, ◌+◌, ◌<◌, ◌≤◌, ◌↔◌, Bool, true, false, not, List, [], ◌∷◌, ◌++◌, length, get_or, take, drop, filter, All, Any, Contains, AllPairs, nat_lt, ltb, refl, sym, ap, ◌∙◌, subst, inl, inr, arith}
use Rattle.std.specs.Prelude.{◌==◌}
use Rattle.std.specs.List.{insert, AllWithin}
use Rattle.std.proofs.lemmas.Bool.{cases_lt, cases_order, ltb-true, ltb-false, lt-ltb, le-ltb, eqb-true, eq-eqb, ne_eqb, not-true, false≢true}
use Rattle.std.proofs.lemmas.List.{get_or_default}
use Rattle.std.proofs.lemmas.List.Elements.{All-head, All-tail, All-cons, All-append, All-filter, All-contains, Contains-append_cases, Contains-append_left, Contains-append_right}
use Rattle.std.proofs.lemmas.List.Kept.{AllPairs-cons, AllPairs-filter}
use Rattle.std.specs.List.Sorted.{IsNonDecreasingBy}
use Rattle.mem_space.proofs.FilterLemmas.{filter-all, filter-none, filter-both, filter-front, filter-back, AllPairs-append, filter-kept, shorter_any, any_shorter, contained_before, contained_passes, contained_after, only_one}
use Rattle.mem_space.specs.declared.region.Region.{Region}
use Rattle.mem_space.specs.declared.space.Space.{Space}
use Rattle.mem_space.specs.Region.{IsRegion, HasPage, SharesPages, IsApart}
use Rattle.mem_space.specs.Space.{IsSpace, with_region, inserted, without_base}

-- A page is one region's at most.
pub one_region : (space : Space) (page : ℕ) (a b : Region) → IsSpace space
    → Contains space.regions.items a → Contains space.regions.items b → HasPage a page → HasPage b page → a ≡ b
one_region space page a b is at_a at_b has_a has_b =
    let xs = space.regions.items in
    let b_here : get_or xs at_b.0 a ≡ b = get_or_default xs at_b.0 a b at_b.1 ∙ at_b.2 in
    elim (cases_order at_a.0 at_b.0) [
      | inl same ↦ sym at_a.2 ∙ ap (λ k. get_or xs k a) same ∙ b_here
      | inr other ↦ elim other [
        | inl before ↦ absurd (is.apart at_a.0 at_b.0 a before at_b.1 page (subst (λ r. HasPage r page) (sym at_a.2) has_a) (subst (λ r. HasPage r page) (sym b_here) has_b))
        | inr after ↦ absurd (is.apart at_b.0 at_a.0 a after at_a.1 page (subst (λ r. HasPage r page) (sym b_here) has_b) (subst (λ r. HasPage r page) (sym at_a.2) has_a))
      ]
    ]

-- A region that begins below some pages and shares none of them ends before they begin.
ends_before : (x : Region) (base count : ℕ) → 1 ≤ count → x.base < base → (SharesPages x base count → ⊥) → x.base + x.count ≤ base
ends_before x base count some below apart =
    elim (cases_lt base (x.base + x.count)) [
      | inl past ↦ absurd (apart (base, (omega arith, past), omega arith, omega arith))
      | inr before ↦ before
    ]

-- A region that doesn't begin below some pages, and shares none of them, begins after they end.
begins_after : (x : Region) (base count : ℕ) → 1 ≤ x.count → base ≤ x.base → (SharesPages x base count → ⊥) → base + count ≤ x.base
begins_after x base count some above apart =
    elim (cases_lt x.base (base + count)) [
      | inl within ↦ absurd (apart (x.base, (omega arith, omega arith), above, within))
      | inr after ↦ after
    ]

-- a region in form that shares none of another's pages
record IsBeside (region x : Region) : Type 0 where
  in_form : IsRegion x
  apart : SharesPages x region.base region.count → ⊥

-- a region in form that ends before another begins, and one that begins after another ends
record IsLower (region x : Region) : Type 0 where
  in_form : IsRegion x
  before : x.base + x.count ≤ region.base

record IsUpper (region x : Region) : Type 0 where
  after : region.base + region.count ≤ x.base

-- Pages end where others begin, or before: what that says of two regions.
abbrev FollowsFromOrder : (Region → Region → Type 0) → Type 0
FollowsFromOrder R = (x y : Region) → 1 ≤ x.count → x.base + x.count ≤ y.base → R x y

module _ (xs : List Region) (region : Region) (all : All IsRegion xs) (is : IsRegion region)
    (apart : Any (λ x. SharesPages x region.base region.count) xs → ⊥) where
  -- whether a region begins below the new one, or above it
  below : Region → Bool
  below x = nat_lt x.base region.base

  above : Region → Bool
  above x = nat_lt region.base x.base

  -- the regions that are there share none of the new one's pages
  beside : All (IsBeside region) xs
  beside k d inside = record {
    in_form = all k d inside;
    apart = λ shares. apart (k, get_or xs k d, inside, get_or_default xs k (get_or xs k d) d inside, shares);
  }

  -- so those that begin below it end before it begins
  lower : All (IsLower region) (filter below xs)
  unfolding below
  lower = filter-both below (IsBeside region) (IsLower region) xs beside (λ x is_below b. record { in_form = b.in_form; before = ends_before x region.base region.count is.some_page (ltb-true _ _ is_below) b.apart })

  -- and those that begin above it begin after it ends
  upper : All (IsUpper region) (filter above xs)
  unfolding above
  upper = filter-both above (IsBeside region) (IsUpper region) xs beside (λ x is_above b. let up : region.base < x.base = ltb-true _ _ is_above in record { after = begins_after x region.base region.count b.in_form.some_page (omega arith) b.apart })

  -- what follows from their order holds of each two, with the region in its place
  pairs_with : (R : Region → Region → Type 0) → FollowsFromOrder R → AllPairs R xs → AllPairs R (filter below xs ++ region ∷ filter above xs)
  pairs_with R follows pairs =
      let low = filter below xs in
      let high = filter above xs in
      let behind : All (R region) high = λ j e within. follows region (get_or high j e) is.some_page (upper j e within).after in
      let across : All (λ x. All (R x) (region ∷ high)) low =
      λ k d inside. let x = get_or low k d in let l = lower k d inside in
      All-cons (R x) region high (follows x region l.in_form.some_page l.before) (λ j e within. follows x (get_or high j e) l.in_form.some_page (omega (arith, l.before, is.some_page, (upper j e within).after))) in
      AllPairs-append R low (region ∷ high) (AllPairs-filter R below xs pairs) (AllPairs-cons R region high behind (AllPairs-filter R above xs pairs)) across

  -- the regions with the new one make a space in form
  pub space_with : (space : Space) → space.regions.items ≡ with_region xs region → AllPairs (λ a b. a.base < b.base) xs → AllPairs IsApart xs → IsSpace space
  unfolding below above
  space_with space same rising pairs_apart = record {
    regions = subst (All IsRegion) (sym same) (All-append IsRegion (filter below xs) (region ∷ filter above xs) (All-filter below IsRegion xs all) (All-cons IsRegion region (filter above xs) is (All-filter above IsRegion xs all)));
    rising = subst (AllPairs (λ a b. a.base < b.base)) (sym same) (pairs_with (λ a b. a.base < b.base) (λ x y some order. omega arith) rising);
    apart = subst (AllPairs IsApart) (sym same) (pairs_with IsApart (λ x y some order page in_x in_y. absurd (omega (arith, in_x, in_y))) pairs_apart);
  }

  -- at the place behind all regions that begin below it, the region is in its place
  pub insert-with_region : (i : ℕ) → i ≤ length xs → AllWithin (λ x. nat_lt x.base region.base ≡ true) xs 0 i → AllWithin (λ x. nat_lt x.base region.base ≡ false) xs i (length xs)
      → insert xs i region ≡ with_region xs region
  unfolding below above
  insert-with_region i inside lows highs =
      let front : filter below xs ≡ take i xs = filter-front below xs i inside lows highs in
      let back : filter above xs ≡ drop i xs =
      filter-back above xs i inside
      (λ k d from to. le-ltb _ _ (let l = ltb-true _ _ (lows k d from to) in omega arith))
      (λ k d from to. let b = beside k d to in let after = begins_after (get_or xs k d) region.base region.count b.in_form.some_page (ltb-false _ _ (highs k d from to)) b.apart in lt-ltb _ _ (omega (arith, after, is.some_page))) in
      sym (ap (λ ys. ys ++ region ∷ filter above xs) front ∙ ap (λ ys. take i xs ++ region ∷ ys) back)

  -- they are the old ones and the new one
  pub has_region : (other : Region) → Contains (with_region xs region) other ↔ (Contains xs other ⊎ (other ≡ region))
  unfolding below above
  has_region other = (before, after)
    where
      before : Contains (with_region xs region) other → Contains xs other ⊎ (other ≡ region)
      before has =
          elim (Contains-append_cases (filter below xs) (region ∷ filter above xs) other has) [
            | inl low ↦ inl (contained_before below xs other low)
            | inr rest ↦ elim (Contains-append_cases (region ∷ []) (filter above xs) other rest) [
              | inl here ↦ inr (sym (only_one region other here))
              | inr high ↦ inl (contained_before above xs other high)
            ]
          ]

      after : Contains xs other ⊎ (other ≡ region) → Contains (with_region xs region) other
      after (inr same) = rw same (Contains-append_right (filter below xs) (region ∷ filter above xs) region (0, omega arith, refl))
      after (inl has) =
          let b : IsBeside region other = All-contains (IsBeside region) xs other beside has in
          elim (cases_lt other.base region.base) [
            | inl low ↦ Contains-append_left (filter below xs) (region ∷ filter above xs) other (contained_after below xs other has (lt-ltb _ _ low))
            | inr high ↦
                let up = begins_after other region.base region.count b.in_form.some_page high b.apart in
                Contains-append_right (filter below xs) (region ∷ filter above xs) other (Contains-append_right (region ∷ []) (filter above xs) other (contained_after above xs other has (lt-ltb _ _ (omega (arith, up, is.some_page)))))
          ]

  -- none of them begins where the new one does
  pub elsewhere : All (λ x. x.base ≢ region.base) xs
  elsewhere k d inside = λ same.
      let b : IsBeside region (get_or xs k d) = beside k d inside in
      b.apart (region.base, (omega arith, omega (arith, b.in_form.some_page)), omega arith, omega (arith, is.some_page))

-- where all begin elsewhere and rise, it stands before the first that begins above it
pub inserted-with_region : (ys : List Region) (region : Region) → AllPairs (λ a b. a.base < b.base) ys → All (λ y. y.base ≢ region.base) ys → inserted region ys ≡ with_region ys region
inserted-with_region [] region rising elsewhere = refl
inserted-with_region (y ∷ ys) region rising elsewhere =
    let here : y.base ≢ region.base = All-head (λ y. y.base ≢ region.base) y ys elsewhere in
    let rest : All (λ y. y.base ≢ region.base) ys = All-tail (λ y. y.base ≢ region.base) y ys elsewhere in
    let later : AllPairs (λ a b. a.base < b.base) ys = λ i j d before inside. rising (suc i) (suc j) d (omega arith) (omega arith) in
    elim (cases_lt region.base y.base) [
      | inl lower ↦
          let first : ltb region.base y.base ≡ true = lt-ltb _ _ lower in
          let not_below : ltb y.base region.base ≡ false = le-ltb _ _ (omega arith) in
          let all_above : All (λ r. ltb region.base r.base ≡ true) ys = λ k d inside. let up : y.base < (get_or ys k d).base = rising 0 (suc k) d (omega arith) (omega arith) in lt-ltb _ _ (omega arith) in
          let none_below : All (λ r. ltb r.base region.base ≡ false) ys = λ k d inside. let up : y.base < (get_or ys k d).base = rising 0 (suc k) d (omega arith) (omega arith) in le-ltb _ _ (omega arith) in
          rw first (rw not_below (rw (filter-none (λ r. ltb r.base region.base) ys none_below) (rw (filter-all (λ r. ltb region.base r.base) ys all_above) refl)))
      | inr upper ↦
          let first : ltb region.base y.base ≡ false = le-ltb _ _ upper in
          let is_below : ltb y.base region.base ≡ true = lt-ltb _ _ (omega (arith, here)) in
          rw first (rw is_below (ap (λ l. y ∷ l) (inserted-with_region ys region later rest)))
    ]

-- regions that rise don't fall
pub never_falling : (xs : List Region) → AllPairs (λ a b. a.base < b.base) xs → IsNonDecreasingBy (λ r. r.base) xs
never_falling xs rising i j d most inside =
    elim (cases_lt i j) [
      | inl before ↦ let up : (get_or xs i d).base < (get_or xs j d).base = rising i j d before inside in omega arith
      | inr same ↦ let e : (get_or xs i d).base ≡ (get_or xs j d).base = ap (λ k. (get_or xs k d).base) (omega arith) in omega arith
    ]

-- a test denied twice is the test
not-not : (b : Bool) → not (not b) ≡ b
not-not true = refl
not-not false = refl

-- whether a region begins at a page
begins : ℕ → Region → Bool
begins base region = region.base == base

-- The list is shorter without a base exactly where some region begins there.
pub unmapped_found : (xs ys : List Region) (base n m : ℕ) → ys ≡ without_base xs base → n ≡ length ys → m ≡ length xs
    → (ltb n m ≡ true) ↔ Any (λ region. region.base ≡ base) xs
unfolding begins
unmapped_found xs ys base n m same is_n is_m =
    let other : (r : Region) → begins base r ≡ not (not (begins base r)) = λ r. sym (not-not (begins base r)) in
    let short : n ≡ length (without_base xs base) = is_n ∙ ap length same in (
      λ t. let w = shorter_any (λ r. not (begins base r)) (begins base) other xs (let l = ltb-true _ _ t in omega arith) in (w.0, w.1, w.2, w.3, eqb-true _ _ w.4),
      λ w. lt-ltb _ _ (let l : length (without_base xs base) < length xs = any_shorter (λ r. not (begins base r)) (begins base) other xs (w.0, w.1, w.2, w.3, eq-eqb _ _ w.4) in omega arith),
    )

-- Where it isn't shorter it is as before.
pub unmapped_kept : (xs ys : List Region) (base n m : ℕ) → ys ≡ without_base xs base → n ≡ length ys → m ≡ length xs
    → ltb n m ≡ false → ys ≡ xs
unfolding begins
unmapped_kept xs ys base n m same is_n is_m long =
    let other : (r : Region) → begins base r ≡ not (not (begins base r)) = λ r. sym (not-not (begins base r)) in
    let short : n ≡ length (without_base xs base) = is_n ∙ ap length same in
    same ∙ filter-kept (λ r. not (begins base r)) (begins base) other xs (let l = ltb-false _ _ long in omega arith)

-- Without a base it has the regions that begin elsewhere.
pub has_without : (xs : List Region) (base : ℕ) (other : Region) → Contains (without_base xs base) other ↔ (Contains xs other × (other.base ≢ base))
has_without xs base other =
    let p : Region → Bool = λ r. not (r.base == base) in (
      λ has. (contained_before p xs other has, λ same. false≢true (sym (not-true _ (contained_passes p xs other has)) ∙ eq-eqb _ _ same)),
      λ both. contained_after p xs other both.0 (ap not (ne_eqb _ _ both.1)),
    )

-- A space without some of its regions is a space.
pub space_without : (old new : Space) (base : ℕ) → new.regions.items ≡ without_base old.regions.items base → IsSpace old → IsSpace new
space_without old new base same is =
    let p : Region → Bool = λ r. not (r.base == base) in
    record {
      regions = subst (All IsRegion) (sym same) (All-filter p IsRegion old.regions.items is.regions);
      rising = subst (AllPairs (λ a b. a.base < b.base)) (sym same) (AllPairs-filter (λ a b. a.base < b.base) p old.regions.items is.rising);
      apart = subst (AllPairs IsApart) (sym same) (AllPairs-filter IsApart p old.regions.items is.apart);
    }
