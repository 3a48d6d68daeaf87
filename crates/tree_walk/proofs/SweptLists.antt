-- What is left of a list.
use Rattle.std.specs.Prelude.{◌≡◌, ℕ, ◌&&◌, false, List, [], ◌∷◌, filter}
use Rattle.std.proofs.Common.{refl, inl, inr}
use Rattle.std.proofs.lemmas.Bool.{cases_Bool}
use Rattle.std.proofs.lemmas.List.Elements.{filter_agree}
use Rattle.link_lists.specs.Lists.{list_at}
use Rattle.plain_model.specs.States.{State}
use Rattle.plain_model.specs.Sweep.{is_reached}
use Rattle.kobj_table.specs.declared.objects.Objects.{Objects}
use Rattle.tree_walk.specs.declared.reached.Reached.{Reached}
use Rattle.tree_walk.specs.Reached.{has, TellsReached}
use Rattle.tree_walk.specs.Sweep.{threads_left}

-- what is left of a list, by the numbers that are told to be reached
abbrev pub list_swept : Reached → Objects → ℕ → List ℕ
list_swept reached o i = filter (λ id. has reached i && has reached id) (list_at o.links i)

filter_none : (threads : List ℕ) → filter (λ id. false) threads ≡ []
filter_none [] = refl
filter_none (id ∷ threads) = filter_none threads

pub list_swept_left : (reached : Reached) (s : State) (o : Objects) (i : ℕ) → TellsReached reached s → list_swept reached o i ≡ threads_left s o i
list_swept_left reached s o i tells = elim (cases_Bool (is_reached s i)) [
  | inl stays ↦ rw (tells i, stays) (filter_agree (has reached) (is_reached s) tells (list_at o.links i))
  | inr gone ↦ rw (tells i, gone) (filter_none (list_at o.links i))
]
