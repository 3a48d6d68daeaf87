-- Texts of bytes that no test stops at.
use Rattle.std.proofs.Common.{◌≡◌, ℕ, Bool, true, false, not, ◌&&◌, List, [], ◌∷◌, ◌++◌, ◌∙◌, ap, refl}
use Rattle.std.proofs.lemmas.Bool.{cond-true, cond-false, and_parts, not-true}
use Rattle.std.specs.List.{list_all}
use Rattle.rv_asm.specs.Text.{front, rest, is_blank, trim_start, trim_end, before_trimmed}

-- no byte passes the test
abbrev pub passes_none : (ℕ → Bool) → List ℕ → Bool
passes_none p text = list_all (λ c. not (p c)) text

pub front_token : (p : ℕ → Bool) (t r : List ℕ) (c : ℕ) → passes_none p t ≡ true → p c ≡ true → front p (t ++ c ∷ r) ≡ t
front_token p [] r c none stop = cond-true _ _ _ stop
front_token p (x ∷ xs) r c none stop =
    let parts = and_parts _ _ none in
    cond-false _ _ _ (not-true _ parts.0) ∙ ap (λ ys. x ∷ ys) (front_token p xs r c parts.1 stop)

pub rest_token : (p : ℕ → Bool) (t r : List ℕ) (c : ℕ) → passes_none p t ≡ true → p c ≡ true → rest p (t ++ c ∷ r) ≡ c ∷ r
rest_token p [] r c none stop = cond-true _ _ _ stop
rest_token p (x ∷ xs) r c none stop =
    let parts = and_parts _ _ none in
    cond-false _ _ _ (not-true _ parts.0) ∙ rest_token p xs r c parts.1 stop

pub front_all : (p : ℕ → Bool) (t : List ℕ) → passes_none p t ≡ true → front p t ≡ t
front_all p [] none = refl
front_all p (x ∷ xs) none =
    let parts = and_parts _ _ none in
    cond-false _ _ _ (not-true _ parts.0) ∙ ap (λ ys. x ∷ ys) (front_all p xs parts.1)

pub rest_all : (p : ℕ → Bool) (t : List ℕ) → passes_none p t ≡ true → rest p t ≡ []
rest_all p [] none = refl
rest_all p (x ∷ xs) none =
    let parts = and_parts _ _ none in
    cond-false _ _ _ (not-true _ parts.0) ∙ rest_all p xs parts.1

pub passes_none-append : (p : ℕ → Bool) (xs ys : List ℕ) → passes_none p xs ≡ true → passes_none p ys ≡ true → passes_none p (xs ++ ys) ≡ true
passes_none-append p [] ys one two = two
passes_none-append p (x ∷ xs) ys one two =
    let parts = and_parts _ _ one in
    ap (λ b. b && passes_none p (xs ++ ys)) parts.0 ∙ passes_none-append p xs ys parts.1 two

-- a text without a blank at its end
pub trim_end_token : (t : List ℕ) → passes_none is_blank t ≡ true → trim_end t ≡ t
trim_end_token [] none = refl
trim_end_token (x ∷ []) none =
    cond-false (is_blank x) [] (x ∷ []) (not-true (is_blank x) (and_parts (not (is_blank x)) true none).0)
trim_end_token (x ∷ y ∷ ys) none = ap (before_trimmed x) (trim_end_token (y ∷ ys) (and_parts _ _ none).1)

-- what ends in such a text, which isn't empty
pub trim_end_behind : (xs t : List ℕ) (y : ℕ) → passes_none is_blank (y ∷ t) ≡ true → trim_end (xs ++ y ∷ t) ≡ xs ++ y ∷ t
trim_end_behind [] t y none = trim_end_token (y ∷ t) none
trim_end_behind (x ∷ []) t y none = ap (before_trimmed x) (trim_end_behind [] t y none)
trim_end_behind (x ∷ z ∷ zs) t y none = ap (before_trimmed x) (trim_end_behind (z ∷ zs) t y none)

pub trim_start_token : (x : ℕ) (xs : List ℕ) → is_blank x ≡ false → trim_start (x ∷ xs) ≡ x ∷ xs
trim_start_token x xs other = cond-false _ _ _ other
