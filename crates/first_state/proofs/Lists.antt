-- Lists with one more behind them.
use Rattle.std.proofs.Common.{◌≡◌, ◌≢◌, ℕ, zero, suc, ◌+◌, ◌<◌, ◌≤◌, Bool, List, [], ◌∷◌, ◌++◌, length, map, get_or, take, drop, replicate, All, Option, Some, None, refl, ap, sym, ◌∙◌, subst, arith, inl, inr, append_assoc, length-append, get_or-set_other}
use Rattle.std.specs.Prelude.{if◌then◌else◌, slice_get, slice_set, option_map, filter}
use Rattle.std.specs.List.{range_with_len}
use Rattle.std.proofs.lemmas.List.{at_drop_more, ext_get_or, get_or_past, get_or-set_same, get_or-take, length-map, length-replicate, length-take}
use Rattle.std.proofs.Math.ListN.{get_or-map}
use Rattle.std.proofs.lemmas.List.FromFn.{map-range_with_len_more}
use Rattle.std.proofs.lemmas.Bool.{cases_lt}

-- what a list has with one more behind it

pub pushed_last : {X : Type 0} (xs : List X) (x : X) → slice_get (xs ++ x ∷ []) (length xs) ≡ Some x
pushed_last [] x = refl
pushed_last (y ∷ xs) x = pushed_last xs x

pub pushed_other : {X : Type 0} (xs : List X) (x : X) (i : ℕ) → i ≢ length xs → slice_get (xs ++ x ∷ []) i ≡ slice_get xs i
pushed_other [] x zero other = absurd (other refl)
pushed_other [] x (suc i) other = refl
pushed_other (y ∷ xs) x zero other = refl
pushed_other (y ∷ xs) x (suc i) other = pushed_other xs x i (λ e. other (ap suc e))

same_mapped : (xs : List ℕ) → map (λ i. i) xs ≡ xs
same_mapped [] = refl
same_mapped (x ∷ xs) = ap (λ l. x ∷ l) (same_mapped xs)

pub range_pushed : (a n : ℕ) → range_with_len a (n + 1) ≡ range_with_len a n ++ (a + n) ∷ []
range_pushed a n =
    sym (same_mapped (range_with_len a (n + 1))) ∙ (map-range_with_len_more (λ i. i) a n (a + n) refl ∙ ap (λ l. l ++ (a + n) ∷ []) (same_mapped (range_with_len a n)))

-- tests that agree on the numbers of a range keep the same of them
pub filter_range : (p q : ℕ → Bool) (a n : ℕ) → ((i : ℕ) → a ≤ i → i < a + n → p i ≡ q i) → filter p (range_with_len a n) ≡ filter q (range_with_len a n)
filter_range p q a zero same = refl
filter_range p q a (suc n) same =
    let rest = filter_range p q (a + 1) n (λ i from below. same i (omega arith) (omega arith)) in
    let here = same a (omega arith) (omega arith) in
    ap (λ b. if b then a ∷ filter p (range_with_len (a + 1) n) else filter p (range_with_len (a + 1) n)) here
    ∙ ap (λ (l : List ℕ). if q a then a ∷ l else l) rest

-- functions that agree on a range map it alike
pub map_range : {X : Type 0} (f g : ℕ → X) (a n : ℕ) → ((i : ℕ) → a ≤ i → i < a + n → f i ≡ g i) → map f (range_with_len a n) ≡ map g (range_with_len a n)
map_range {X} f g a zero same = refl
map_range {X} f g a (suc n) same =
    let rest = map_range f g (a + 1) n (λ i from below. same i (omega arith) (omega arith)) in
    ap (λ (x : X). x ∷ map f (range_with_len (a + 1) n)) (same a (omega arith) (omega arith)) ∙ ap (λ (l : List X). g a ∷ l) rest

pub map_twice : {X Y Z : Type 0} (f : Y → Z) (g : X → Y) (xs : List X) → map f (map g xs) ≡ map (λ x. f (g x)) xs
map_twice f g [] = refl
map_twice {X} {Y} {Z} f g (x ∷ xs) = ap (λ (l : List Z). f (g x) ∷ l) (map_twice f g xs)

pub drop_next : {X : Type 0} (xs : List X) (i : ℕ) (x : X) → i < length xs → x ≡ get_or xs i x → drop i xs ≡ x ∷ drop (i + 1) xs
drop_next {X} xs i x below e = at_drop_more (λ l. l) xs i x below ∙ ap (λ y. y ∷ drop (i + 1) xs) (sym e)

pub others_too : {X : Type 0} (P : X → Type 0) (xs rest : List X) (x : X) → xs ≡ x ∷ rest → All P xs → All P rest
others_too P xs rest x e all = let here : All P (x ∷ rest) = subst (All P) e all in λ k d below. here (suc k) d (omega arith)

pub first_too : {X : Type 0} (P : X → Type 0) (xs rest : List X) (x : X) → xs ≡ x ∷ rest → All P xs → P x
first_too P xs rest x e all = let here : All P (x ∷ rest) = subst (All P) e all in here 0 x (omega arith)

-- a range behind a list, with one more
pub behind_more : {X : Type 0} (f : ℕ → X) (before xs after : List X) (x : X) (a n m : ℕ) → xs ≡ before ++ map f (range_with_len a n) → after ≡ xs ++ x ∷ [] → x ≡ f (a + n) → m ≡ n + 1 →
    after ≡ before ++ map f (range_with_len a m)
behind_more {X} f before xs after x a n m was now here next =
    now ∙ (ap (λ (l : List X). l ++ x ∷ []) was ∙ (ap (λ (y : X). (before ++ map f (range_with_len a n)) ++ y ∷ []) here
    ∙ (append_assoc before (map f (range_with_len a n)) (f (a + n) ∷ [])
    ∙ (ap (λ (l : List X). before ++ l) (sym (map-range_with_len_more f a n (a + n) refl)) ∙ ap (λ k. before ++ map f (range_with_len a k)) (sym next)))))

-- Lists that are read place by place, None where nothing is.

abbrev absent : (X : Type 0) → Option X
absent X = None

pub none_there : (X : Type 0) (n j : ℕ) → get_or (replicate n (absent X)) j None ≡ None
none_there X zero j = refl
none_there X (suc n) zero = refl
none_there X (suc n) (suc j) = none_there X n j

padded_at : {X : Type 0} (xs : List (Option X)) (n j : ℕ) → get_or (xs ++ replicate n None) j None ≡ get_or xs j None
padded_at {X} [] n j = none_there X n j
padded_at (x ∷ xs) n zero = refl
padded_at (x ∷ xs) n (suc j) = padded_at xs n j

-- one more place of a list is copied
pub copied_more : {X : Type 0} (xs ys : List X) (d : X) (i j : ℕ) → i < length xs → i < length ys → ((j : ℕ) → get_or xs j d ≡ get_or (take i ys) j d) →
    get_or (slice_set xs i (get_or ys i d)) j d ≡ get_or (take (i + 1) ys) j d
copied_more {X} xs ys d i j room inside same =
    elim (cases_lt j i) [
      | inl lt ↦ get_or-set_other xs i j (get_or ys i d) d (λ e. absurd (omega arith)) ∙ (same j ∙ (get_or-take i ys j d lt ∙ sym (get_or-take (i + 1) ys j d (omega arith))))
      | inr ge ↦ elim (cases_lt i j) [
        | inl lt ↦
            let short = length-take i ys in
            let more = length-take (i + 1) ys in
            get_or-set_other xs i j (get_or ys i d) d (λ e. absurd (omega arith)) ∙ (same j ∙ (get_or_past (take i ys) j d (omega arith) ∙ sym (get_or_past (take (i + 1) ys) j d (omega arith))))
        | inr le ↦
            let at : i ≡ j = omega arith in
            subst (λ (k : ℕ). get_or (slice_set xs i (get_or ys i d)) k d ≡ get_or (take (i + 1) ys) k d) at
            (get_or-set_same xs i (get_or ys i d) d room ∙ sym (get_or-take (i + 1) ys i d (omega arith)))
      ]
    ]

-- an array that has a list, and behind it nothing
pub array_of : {X Y : Type 0} (f : X → Y) (n : ℕ) (array xs : List (Option X)) → length array ≡ n → ((j : ℕ) → get_or array j None ≡ get_or xs j None) →
    map (option_map f) array ≡ take n (map (option_map f) xs ++ replicate n None)
array_of {X} {Y} f n array xs size same =
    let mapped = length-map array (option_map f) in
    let padded = length-append (map (option_map f) xs) (replicate n (absent Y)) in
    let behind = length-replicate n (absent Y) in
    let count = length-take n (map (option_map f) xs ++ replicate n None) in
    ext_get_or None (map (option_map f) array) (take n (map (option_map f) xs ++ replicate n None)) (omega arith)
    (λ j below. get_or-map (option_map f) array j None ∙ (ap (option_map f) (same j)
    ∙ sym (get_or-take n (map (option_map f) xs ++ replicate n None) j None (omega arith) ∙ (padded_at (map (option_map f) xs) n j ∙ get_or-map (option_map f) xs j None))))
