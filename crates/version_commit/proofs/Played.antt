-- Events one behind another.
use Rattle.std.proofs.Common.{ℕ, ◌+◌, ◌<◌, List, [], ◌∷◌, ◌++◌, length, take, get_or, refl, sym, subst}
use Rattle.std.proofs.lemmas.List.{take_more}
use Rattle.pmem_model.specs.Words.{Word}
use Rattle.version_commit.specs.Events.{Happens, Plays}
use Rattle.version_commit.specs.declared.history.Event.{Event}
use Rattle.version_commit.specs.declared.step.Step.{Step}

-- one event more, behind the others
plays_more : (events : List Event) (event : Event) (to : ℕ) (old step new : Step) (f words g : ℕ → Word)
    → Plays events to old f step words → Happens event to step words new g → Plays (events ++ event ∷ []) to old f new g
plays_more [] event to old step new f words g played happens = (
  new,
  g,
  subst (λ (s : Step). Happens event to s f new g) played.0
      (subst (λ (h : ℕ → Word). Happens event to step h new g) played.1 happens),
  (refl, refl),
)
plays_more (first ∷ events) event to old step new f words g played happens =
    (played.0, played.1, played.2, plays_more events event to played.0 step new played.1 words g played.3 happens)

pub plays_next : (events : List Event) (i : ℕ) (to : ℕ) (old step new : Step) (f words g : ℕ → Word) (d : Event)
    → i < length events → Plays (take i events) to old f step words
    → Happens (get_or events i d) to step words new g → Plays (take (i + 1) events) to old f new g
plays_next events i to old step new f words g d below played happens =
    subst (λ (es : List Event). Plays es to old f new g) (sym (take_more events i d below))
    (plays_more (take i events) (get_or events i d) to old step new f words g played happens)
