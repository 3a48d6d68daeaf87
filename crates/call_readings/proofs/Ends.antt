-- Bytes behind one another, at most a page's, are on the pages of their first and of their last.
use Rattle.std.specs.Prelude.{◌≡◌, ◌⊎◌, ℕ, zero, suc, ◌+◌, ◌-◌, ◌/◌, ◌<◌, ◌≤◌, ◌&&◌, ◌||◌, Bool, true, false, List, [], ◌∷◌, find, Option, Some, None, is_some, option_map}
use Rattle.std.specs.List.{list_all, list_any, range_with_len}
use Rattle.std.proofs.Common.{refl, sym, ◌∙◌, ap, inl, inr, arith}
use Rattle.std.proofs.lemmas.Bool.{cases_Bool}
use Rattle.sls_base.specs.declared.limits.TheConstants.{PAGE_BYTES}
use Rattle.plain_state.specs.declared.objects.Region.{Region}
use Rattle.plain_model.specs.Memory.{covers, place_of, place_in, is_covered}

-- a test of an address says the same of each address on a page
abbrev pub IsByPage : (ℕ → Bool) → Type 0
IsByPage t = (a b : ℕ) → a / PAGE_BYTES ≡ b / PAGE_BYTES → t a ≡ t b

same_covering : (right a b : ℕ) (region : Region) (regions : List Region) → a / PAGE_BYTES ≡ b / PAGE_BYTES
    → find (covers right a) regions ≡ find (covers right b) regions
    → find (covers right a) (region ∷ regions) ≡ find (covers right b) (region ∷ regions)
same_covering right a b region regions e h = rw e (rw h refl)

-- one region covers all addresses of a page
pub one_covering : (right a b : ℕ) (regions : List Region) → a / PAGE_BYTES ≡ b / PAGE_BYTES
    → find (covers right a) regions ≡ find (covers right b) regions
one_covering right a b [] e = refl
one_covering right a b (region ∷ regions) e = same_covering right a b region regions e (one_covering right a b regions e)

pub has_place : (right at : ℕ) (regions : List Region) → is_some (place_of regions right at) ≡ is_some (find (covers right at) regions)
has_place right at regions = by_option (find (covers right at) regions)
  where
    by_option : (o : Option Region) → is_some (option_map (place_in at) o) ≡ is_some o
    by_option None = refl
    by_option (Some region) = refl

all_true : (t : ℕ → Bool) (at n : ℕ) → ((k : ℕ) → k < n → t (at + k) ≡ true) → list_all t (range_with_len at n) ≡ true
all_true t at zero h = refl
all_true t at (suc n) h =
    let first : t at ≡ true = (let e : at + 0 ≡ at = omega arith in sym (ap t e) ∙ h 0 (omega arith)) in
    let rest = all_true t (at + 1) n (λ k l. let e : at + 1 + k ≡ at + (k + 1) = omega arith in ap t e ∙ h (k + 1) (omega arith)) in
    rw (first, rest) refl

and_false : (a b : Bool) → b ≡ false → (a && b) ≡ false
and_false true b e = e
and_false false b e = refl

all_false : (t : ℕ → Bool) (at n k : ℕ) → k < n → t (at + k) ≡ false → list_all t (range_with_len at n) ≡ false
all_false t at zero k l e = absurd (omega arith)
all_false t at (suc n) zero l e = (let same : at + 0 ≡ at = omega arith in rw (sym (ap t same) ∙ e) refl)
all_false t at (suc n) (suc k) l e =
    let same : at + 1 + k ≡ at + suc k = omega arith in
    and_false (t at) _ (all_false t (at + 1) n k (omega arith) (ap t same ∙ e))

-- each byte is on the page of the first or of the last
either_end : (at n k : ℕ) → k < n → n ≤ PAGE_BYTES → ((at + k) / PAGE_BYTES ≡ at / PAGE_BYTES) ⊎ ((at + k) / PAGE_BYTES ≡ (at + (n - 1)) / PAGE_BYTES)
either_end at n k l most = elim (cases_order_of at n k l most) [ inl e ↦ inl e | inr e ↦ inr e ]
  where
    cases_order_of : (at n k : ℕ) → k < n → n ≤ PAGE_BYTES → ((at + k) / PAGE_BYTES ≡ at / PAGE_BYTES) ⊎ ((at + k) / PAGE_BYTES ≡ (at + (n - 1)) / PAGE_BYTES)
    cases_order_of at n k l most = grind arith

pub all_by_ends : (t : ℕ → Bool) (at n : ℕ) → IsByPage t → 1 ≤ n → n ≤ PAGE_BYTES
    → list_all t (range_with_len at n) ≡ (t at && t (at + (n - 1)))
all_by_ends t at n by some most = elim (cases_Bool (t at)) [
  | inl first ↦ elim (cases_Bool (t (at + (n - 1)))) [
    | inl last ↦
        rw (first, last) (all_true t at n (λ k l. elim (either_end at n k l most) [
          | inl e ↦ by (at + k) at e ∙ first
          | inr e ↦ by (at + k) (at + (n - 1)) e ∙ last
        ]))
    | inr last ↦ rw (first, last) (all_false t at n (n - 1) (omega arith) last)
  ]
  | inr first ↦ rw first (all_false t at n 0 (omega arith) (let e : at + 0 ≡ at = omega arith in ap t e ∙ first))
]

any_false : (t : ℕ → Bool) (at n : ℕ) → ((k : ℕ) → k < n → t (at + k) ≡ false) → list_any t (range_with_len at n) ≡ false
any_false t at zero h = refl
any_false t at (suc n) h =
    let first : t at ≡ false = (let e : at + 0 ≡ at = omega arith in sym (ap t e) ∙ h 0 (omega arith)) in
    let rest = any_false t (at + 1) n (λ k l. let e : at + 1 + k ≡ at + (k + 1) = omega arith in ap t e ∙ h (k + 1) (omega arith)) in
    rw (first, rest) refl

or_true : (a b : Bool) → b ≡ true → (a || b) ≡ true
or_true true b e = refl
or_true false b e = e

any_true : (t : ℕ → Bool) (at n k : ℕ) → k < n → t (at + k) ≡ true → list_any t (range_with_len at n) ≡ true
any_true t at zero k l e = absurd (omega arith)
any_true t at (suc n) zero l e = (let same : at + 0 ≡ at = omega arith in rw (sym (ap t same) ∙ e) refl)
any_true t at (suc n) (suc k) l e =
    let same : at + 1 + k ≡ at + suc k = omega arith in
    or_true (t at) _ (any_true t (at + 1) n k (omega arith) (ap t same ∙ e))

pub any_by_ends : (t : ℕ → Bool) (at n : ℕ) → IsByPage t → 1 ≤ n → n ≤ PAGE_BYTES
    → list_any t (range_with_len at n) ≡ (t at || t (at + (n - 1)))
any_by_ends t at n by some most = elim (cases_Bool (t at)) [
  | inr first ↦ elim (cases_Bool (t (at + (n - 1)))) [
    | inr last ↦
        rw (first, last) (any_false t at n (λ k l. elim (either_end at n k l most) [
          | inl e ↦ by (at + k) at e ∙ first
          | inr e ↦ by (at + k) (at + (n - 1)) e ∙ last
        ]))
    | inl last ↦ rw (first, last) (any_true t at n (n - 1) (omega arith) last)
  ]
  | inl first ↦ rw first (any_true t at n 0 (omega arith) (let e : at + 0 ≡ at = omega arith in ap t e ∙ first))
]

-- bytes are covered where both ends are
pub covered_by_ends : (regions : List Region) (right at n : ℕ) → 1 ≤ n → n ≤ PAGE_BYTES
    → is_covered regions right at n ≡ (is_some (find (covers right at) regions) && is_some (find (covers right (at + (n - 1))) regions))
covered_by_ends regions right at n some most =
    let t : ℕ → Bool = λ address. is_some (place_of regions right address) in
    let by : IsByPage t = λ a b e. has_place right a regions ∙ ap (λ (o : Option Region). is_some o) (one_covering right a b regions e) ∙ sym (has_place right b regions) in
    all_by_ends t at n by some most
    ∙ ap (λ b. b && t (at + (n - 1))) (has_place right at regions)
    ∙ ap (λ b. is_some (find (covers right at) regions) && b) (has_place right (at + (n - 1)) regions)
