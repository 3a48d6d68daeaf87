-- What has been read of a record, part by part: it is what each object has that the record is of.
use Rattle.std.proofs.Common.{◌≡◌, ℕ, zero, suc, ◌+◌, ◌<◌, ◌≤◌, ◌∙◌, sym, ap, arith, List, [], ◌∷◌, ◌++◌, length, get_or, set, take, Some, None, below_more, get_or-set_same, get_or-set_other, subst}
use Rattle.std.specs.Prelude.{slice_get}
use Rattle.std.proofs.lemmas.List.{ext_get_or, take_more, take_all}
use Rattle.std.proofs.lemmas.Option.{slice_get_within, get_or_from_slice_get}

-- An array, of which the parts before a place are read.
pub record ReadsBelow {A : Type 0} (d : A) (Wanted : List A → Type 0) (read : List A) (n : ℕ) : Type 0 where
  pub same : (xs : List A) → Wanted xs → (k : ℕ) → k < n → get_or read k d ≡ get_or xs k d

pub below_one_more : {A : Type 0} {d : A} {Wanted : List A → Type 0} {read : List A} {n : ℕ} (a : A) → ReadsBelow d Wanted read n
    → n < length read → ((xs : List A) → Wanted xs → a ≡ get_or xs n d) → ReadsBelow d Wanted (set read n a) (n + 1)
below_one_more {A} {d} {Wanted} {read} {n} a h inside told = record {
  same = λ xs w. below_more (λ k. get_or (set read n a) k d ≡ get_or xs k d) n
      (λ k lt. get_or-set_other read n k a d (λ e. absurd (omega arith)) ∙ h.same xs w k lt)
      (get_or-set_same read n a d inside ∙ told xs w);
}

pub below_all : {A : Type 0} {d : A} {Wanted : List A → Type 0} {read : List A} {n : ℕ} → ReadsBelow d Wanted read n → length read ≡ n
    → (xs : List A) → Wanted xs → length xs ≡ n → read ≡ xs
below_all {A} {d} {Wanted} {read} {n} h size xs w other =
    ext_get_or d read xs (size ∙ sym other) (λ k lt. h.same xs w k (omega arith))

-- A list, of which the first parts are read.
pub record ReadsFirst {A : Type 0} (Wanted : List A → Type 0) (read : List A) (n : ℕ) : Type 0 where
  pub same : (xs : List A) → Wanted xs → read ≡ take n xs

more_taken : {A : Type 0} (xs : List A) (n : ℕ) (a : A) → slice_get xs n ≡ Some a → take n xs ++ a ∷ [] ≡ take (n + 1) xs
more_taken xs n a is =
    let inside = slice_get_within xs n a is in
    sym (take_more xs n a inside ∙ ap (λ x. take n xs ++ x ∷ []) (get_or_from_slice_get xs n a a is))

pub first_one_more : {A : Type 0} {Wanted : List A → Type 0} {read : List A} {n : ℕ} (a : A) → ReadsFirst Wanted read n
    → ((xs : List A) → Wanted xs → slice_get xs n ≡ Some a) → ReadsFirst Wanted (read ++ a ∷ []) (n + 1)
first_one_more {A} {Wanted} {read} {n} a h told = record {
  same = λ xs w. ap (λ ys. ys ++ a ∷ []) (h.same xs w) ∙ more_taken xs n a (told xs w);
}

pub first_all : {A : Type 0} {Wanted : List A → Type 0} {read : List A} {n : ℕ} → ReadsFirst Wanted read n
    → (xs : List A) → Wanted xs → length xs ≤ n → read ≡ xs
first_all {A} {Wanted} {read} {n} h xs w short = h.same xs w ∙ take_all n xs short

pub first_none : {A : Type 0} {Wanted : List A → Type 0} {read : List A} → read ≡ [] → ReadsFirst Wanted read 0
first_none none = record { same = λ xs w. none }

-- what is pushed is the next part
pub first_pushed : {A : Type 0} {Wanted : List A → Type 0} {read pushed : List A} {n : ℕ} (a : A) → ReadsFirst Wanted read n → pushed ≡ read ++ a ∷ []
    → ((xs : List A) → Wanted xs → slice_get xs n ≡ Some a) → ReadsFirst Wanted pushed (n + 1)
first_pushed {A} {Wanted} {read} {pushed} {n} a h is told =
    subst (λ (ys : List A). ReadsFirst Wanted ys (n + 1)) (sym is) (first_one_more a h told)

-- where nothing is at a place, the list ends before it
pub none_behind : {A : Type 0} (xs : List A) (n : ℕ) → slice_get xs n ≡ None → length xs ≤ n
none_behind [] n none = omega arith
none_behind (x ∷ xs) zero none = cc
none_behind (x ∷ xs) (suc n) none = let more = none_behind xs n none in omega (arith, more)
