-- A bank is added behind those that are there.
use Rattle.std.proofs.Common.{◌≡◌, ◌≢◌, ℕ, ◌+◌, ◌<◌, ◌≤◌, arith, length, List, ◌++◌, ◌∷◌, [], Option, Some, None, ⊎_elim}
use Rattle.std.proofs.lemmas.Bool.{cases_eq, cases_lt}
use Rattle.std.proofs.lemmas.List.{get_or_append_left, get_or_push, get_or_past, length_push}
use Rattle.pmem_model.specs.Words.{BankWords}
use Rattle.pmem_model.specs.Places.{bank_at}

-- what holds of each bank before it and of this one holds of each bank up to it
pub each_pushed : (P : ℕ → Option BankWords → Type 0) (banks : List (Option BankWords)) (b : BankWords) (k : ℕ) → length banks ≡ k
    → ((j : ℕ) → j < k → P j (bank_at banks j)) → P k (Some b)
    → (j : ℕ) → j < k + 1 → P j (bank_at (banks ++ Some b ∷ []) j)
each_pushed P banks b k len before this j lt =
    ⊎_elim
    (λ (same : j ≡ k). rw (same, get_or_push banks (Some b) None k len) this)
    (λ (ne : j ≢ k). let low : j < k = omega arith in rw (get_or_append_left banks (Some b ∷ []) None j (omega arith)) (before j low))
    (cases_eq j k)

-- and so of all, where it holds of those that aren't there
pub all_pushed : (P : ℕ → Option BankWords → Type 0) (banks : List (Option BankWords)) (b : BankWords) (k : ℕ) → length banks ≡ k
    → ((j : ℕ) → P j (bank_at banks j)) → P k (Some b) → ((j : ℕ) → P j None)
    → (j : ℕ) → P j (bank_at (banks ++ Some b ∷ []) j)
all_pushed P banks b k len before this none j =
    ⊎_elim
    (λ (low : j < k + 1). each_pushed P banks b k len (λ i lt. before i) this j low)
    (λ (high : k + 1 ≤ j). rw (get_or_past (banks ++ Some b ∷ []) j None (rw length_push (omega arith))) (none j))
    (cases_lt j (k + 1))
