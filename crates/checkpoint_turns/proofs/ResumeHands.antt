-- Whether a core has a page in hand.
use Rattle.std.specs.Prelude.{◌≡◌, ◌<◌, ℕ, zero, suc, true, false, List, [], ◌∷◌, length, Option, Some, None}
use Rattle.std.specs.Prelude.{is_some, slice_index_or}
use Rattle.std.specs.List.{list_any}
use Rattle.std.proofs.Common.{refl, ap, sym, ◌∙◌, inl, inr}
use Rattle.std.proofs.lemmas.Bool.{cases_lt}
use Rattle.std.proofs.lemmas.List.{get_or_past}
use Rattle.std.proofs.lemmas.List.Folds.{list_any_at}

pub none_in : (hands : List (Option ℕ)) → list_any is_some hands ≡ false → (core : ℕ)
    → slice_index_or hands core None ≡ None
none_in hands none core = elim (cases_lt core (length hands)) [
  | inl below ↦ by (slice_index_or hands core None) refl below
  | inr past ↦ get_or_past hands core None past
]
  where
    by : (hand : Option ℕ) → slice_index_or hands core None ≡ hand → core < length hands
        → slice_index_or hands core None ≡ None
    by None e below = e
    by (Some page) e below =
        (let any : list_any is_some hands ≡ true = list_any_at is_some hands core None below (ap is_some e) in
        let no : true ≡ false = sym any ∙ none in absurd (cc))

pub some_in : (hands : List (Option ℕ)) → list_any is_some hands ≡ true
    → (core page : ℕ) × (slice_index_or hands core None ≡ Some page)
some_in [] any = absurd (cc)
some_in (Some page ∷ hands) any = (zero, page, refl)
some_in (None ∷ hands) any = let rest = some_in hands any in (suc rest.0, rest.1, rest.2)
