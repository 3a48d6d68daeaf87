-- What cores run.
use Rattle.std.specs.Prelude.{◌≡◌, ℕ, zero, suc, List, [], ◌∷◌, map, take, Option, option_map, slice_set}
use Rattle.std.proofs.Common.{refl, ap, ◌∙◌}
use Rattle.std.proofs.lemmas.List.{map-set}
use Rattle.plain_state.specs.declared.objects.Occupant.{Occupant}
use Rattle.kobj_table.specs.Slots.{occupant_of}

take_set : {X : Type 0} → (n k : ℕ) (xs : List X) (x : X) → take n (slice_set xs k x) ≡ slice_set (take n xs) k x
take_set zero k xs x = refl
take_set (suc n) k [] x = refl
take_set (suc n) zero (y ∷ ys) x = refl
take_set (suc n) (suc k) (y ∷ ys) x = ap (λ l. y ∷ l) (take_set n k ys x)

pub cores_set : (n k : ℕ) (running : List (Option (ℕ × ℕ))) (now : Option (ℕ × ℕ)) →
    take n (map (option_map occupant_of) (slice_set running k now)) ≡ slice_set (take n (map (option_map occupant_of) running)) k (option_map occupant_of now)
cores_set n k running now =
    ap (λ (l : List (Option Occupant)). take n l) (map-set (option_map occupant_of) running k now) ∙ take_set n k (map (option_map occupant_of) running) (option_map occupant_of now)
