-- What cores run.
use Rattle.std.specs.Prelude.{◌≡◌, ℕ, zero, suc, ◌+◌, ◌<◌, Bool, true, false, List, [], ◌∷◌, ◌++◌, ◌≤◌, length, map, take, drop, slice_set, Option, None, option_map, slice_index_or}
use Rattle.std.specs.List.{list_any}
use Rattle.std.proofs.Common.{refl, ap, arith, add-one}
use Rattle.plain_model.specs.States.{State}
use Rattle.plain_model.specs.Sweep.{is_lost, thread_on}
use Rattle.kobj_table.specs.Slots.{occupant_of}
use Rattle.tree_walk.specs.Sweep.{left_on}
use Rattle.sls_base.proofs.ListTests.{or_left, or_right, or_false}

-- the thread that a core runs has vanished
abbrev pub lost : State → Option (ℕ × ℕ) → Bool
lost s running = is_lost s (thread_on (option_map occupant_of running))

-- so it is of some of the first n cores
abbrev pub any_lost : State → ℕ → List (Option (ℕ × ℕ)) → Bool
any_lost s n running = list_any (λ core. is_lost s (thread_on core)) (take n (map (option_map occupant_of) running))

pub any_lost_at : (s : State) (n k : ℕ) (running : List (Option (ℕ × ℕ))) → k < n → k < length running → lost s (slice_index_or running k None) ≡ true → any_lost s n running ≡ true
any_lost_at s zero k running below there gone = absurd (omega arith)
any_lost_at s (suc n) k [] below there gone = absurd (omega arith)
any_lost_at s (suc n) zero (r ∷ running) below there gone = or_left (lost s r) (any_lost s n running) gone
any_lost_at s (suc n) (suc k) (r ∷ running) below there gone = or_right (lost s r) (any_lost s n running) (any_lost_at s n k running (omega arith) (omega arith) gone)

none_lost_next : (s : State) (k : ℕ) (running : List (Option (ℕ × ℕ))) → any_lost s k running ≡ false → lost s (slice_index_or running k None) ≡ false → any_lost s (suc k) running ≡ false
none_lost_next s zero [] none stays = refl
none_lost_next s zero (r ∷ running) none stays = rw stays refl
none_lost_next s (suc k) [] none stays = refl
none_lost_next s (suc k) (r ∷ running) none stays =
    let parts = or_false (lost s r) (any_lost s k running) none in
    rw (parts.0, none_lost_next s k running parts.1 stays) refl

pub none_lost_more : (s : State) (k : ℕ) (running : List (Option (ℕ × ℕ))) → any_lost s k running ≡ false → lost s (slice_index_or running k None) ≡ false → any_lost s (k + 1) running ≡ false
none_lost_more s k running none stays = rw (add-one k) (none_lost_next s k running none stays)

-- What is left on cores.

-- the first n cores without the threads that have vanished
abbrev pub left_on_first : State → ℕ → List (Option (ℕ × ℕ)) → List (Option (ℕ × ℕ))
left_on_first s n running = map (left_on s) (take n running) ++ drop n running

left_on_next : (s : State) (k : ℕ) (running : List (Option (ℕ × ℕ))) → left_on_first s (suc k) running ≡ slice_set (left_on_first s k running) k (left_on s (slice_index_or running k None))
left_on_next s zero [] = refl
left_on_next s zero (r ∷ running) = refl
left_on_next s (suc k) [] = refl
left_on_next s (suc k) (r ∷ running) = ap (λ (l : List (Option (ℕ × ℕ))). left_on s r ∷ l) (left_on_next s k running)

pub left_on_more : (s : State) (k : ℕ) (running : List (Option (ℕ × ℕ))) → left_on_first s (k + 1) running ≡ slice_set (left_on_first s k running) k (left_on s (slice_index_or running k None))
left_on_more s k running = rw (add-one k) (left_on_next s k running)

-- more cores than there are
pub left_on_all : (s : State) (n : ℕ) (running : List (Option (ℕ × ℕ))) → length running ≤ n → left_on_first s n running ≡ map (left_on s) running
left_on_all s zero [] past = refl
left_on_all s (suc n) [] past = refl
left_on_all s zero (r ∷ running) past = absurd (omega arith)
left_on_all s (suc n) (r ∷ running) past = ap (λ (l : List (Option (ℕ × ℕ))). left_on s r ∷ l) (left_on_all s n running (omega arith))
