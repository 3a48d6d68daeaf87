-- Events one behind another.
use Rattle.std.proofs.Common.{ℕ, ◌+◌, ◌<◌, List, [], ◌∷◌, ◌++◌, length, take, get_or, refl, sym, subst}
use Rattle.std.proofs.lemmas.List.{take_more}
use Rattle.pmem_model.specs.Words.{Word}
use Rattle.alloc_journal.specs.declared.history.Event.{Event}
use Rattle.alloc_journal.specs.Work.{InUse}
use Rattle.alloc_journal.specs.Events.{Happens, Plays}

-- one event more, behind the others
plays_more : (events : List Event) (event : Event) (old between new : InUse) (f words g : ℕ → Word)
    → Plays events old f between words → Happens event between words new g → Plays (events ++ event ∷ []) old f new g
plays_more [] event old between new f words g played happens = (
  new,
  g,
  subst (λ (u : InUse). Happens event u f new g) played.0
      (subst (λ (h : ℕ → Word). Happens event between h new g) played.1 happens),
  (refl, refl),
)
plays_more (first ∷ events) event old between new f words g played happens =
    (played.0, played.1, played.2, plays_more events event played.0 between new played.1 words g played.3 happens)

pub plays_next : (events : List Event) (i : ℕ) (old between new : InUse) (f words g : ℕ → Word) (d : Event)
    → i < length events → Plays (take i events) old f between words
    → Happens (get_or events i d) between words new g → Plays (take (i + 1) events) old f new g
plays_next events i old between new f words g d below played happens =
    subst (λ (es : List Event). Plays es old f new g) (sym (take_more events i d below))
    (plays_more (take i events) (get_or events i d) old between new f words g played happens)
