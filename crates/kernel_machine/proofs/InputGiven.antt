-- One more input waits, or there is no room for it: what is seen of the machine is the same.
use Rattle.std.specs.Prelude.{◌≡◌, ◌↔◌, ℕ, true, false, Bool, if◌then◌else◌, List, length, Result, Ok, Err, IsErr}
use Rattle.std.proofs.Common.{refl, ap, sym, subst, ◌∙◌, inl, inr}
use Rattle.std.proofs.lemmas.Bool.{cases_Bool}
use Rattle.sls_base.specs.declared.entry.Full.{Full}
use Rattle.plain_state.specs.Worlds.{World}
use Rattle.plain_model.specs.Play.{has_input_room, input, with_input}
use Rattle.core_turns.specs.declared.running.Running.{Running}
use Rattle.core_turns.specs.Runs.{Runs}
use Rattle.checkpoint_turns.specs.declared.checkpoint.Checkpoint.{Checkpoint}
use Rattle.checkpoint_turns.specs.Checkpoints.{IsOf}
use Rattle.machine_contract.specs.Side.{IsUp}
use Rattle.machine_contract.specs.Courses.{Course}
use Rattle.machine_contract.specs.Goes.{InputGoes, IsGiven}
use Rattle.kernel_machine.specs.declared.kernel.Kernel.{Kernel}
use Rattle.kernel_machine.specs.declared.work.Work.{Work}
use Rattle.kernel_machine.specs.declared.work.Work.TheVariants as works
use Rattle.kernel_machine.specs.Sides.{mode_of, seen_of}
use Rattle.kernel_machine.specs.Shows.{IsAt}
use Rattle.kernel_machine.specs.Worlds.{AreHands}
use Rattle.kernel_machine.proofs.AskBegins.{at_work}

pub given_is : (w : World) (told : Result (Unit {0}) Full) → (IsErr told ↔ (has_input_room w ≡ false)) → IsGiven w told
given_is w (Ok value) full = elim (cases_Bool (has_input_room w)) [
  | inl room ↦ room
  | inr none ↦ (let no = full.1 none in absurd (cc))
]
given_is w (Err error) full = full.0 refl

-- An input leaves the cores as they are, and the saved copy.

input_cores : (w : World) (bytes : List ℕ) → length (input w bytes).now.cores ≡ length w.now.cores
input_cores w bytes = by (has_input_room w)
  where
    by : (b : Bool)
        → length (if b then record w { now = with_input w.now bytes } else w).now.cores ≡ length w.now.cores
    by true = refl
    by false = refl

input_saved : (w : World) (bytes : List ℕ) → length (input w bytes).saved.cores ≡ length w.saved.cores
input_saved w bytes = by (has_input_room w)
  where
    by : (b : Bool)
        → length (if b then record w { now = with_input w.now bytes } else w).saved.cores ≡ length w.saved.cores
    by true = refl
    by false = refl

-- Cores that run, and a checkpoint of them, with other inputs.

abbrev cores_with : Running → List (List ℕ) → Running
cores_with k inputs = record k { calls = record k.calls { inputs = inputs } }

abbrev checkpoint_with : Checkpoint → List (List ℕ) → Checkpoint
checkpoint_with s inputs = record s { running = cores_with s.running inputs }

hands_with : (k : Running) (inputs : List (List ℕ)) (cores : ℕ) (spent : List ℕ) → AreHands k cores spent
    → AreHands (cores_with k inputs) cores spent
hands_with k inputs cores spent h = record { below = h.below; seldom = h.seldom }

module _ (old : Kernel) (c : Course) (bytes : List ℕ) where
  abbrev pub course_with : Course
  course_with = record c { world = input c.world bytes }

  goes_as : (was now : Work) (told : Result (Unit {0}) Full) → old.work ≡ was
      → seen_of (at_work old now) ≡ seen_of (at_work old was)
      → IsUp (mode_of old.work) → IsGiven c.world told
      → InputGoes told (seen_of old) c (seen_of (at_work old now))
  goes_as was now told is seen up given =
      record { up = up; given_is = given; rest = seen ∙ sym (ap (λ (x : Work). seen_of (at_work old x)) is) }

  -- Cores that run.
  module _ (k n : Running) (inputs : List (List ℕ)) (is : old.work ≡ works.Runs k)
      (rest : n ≡ cores_with k inputs) where
    pub runs_go : (told : Result (Unit {0}) Full) → IsUp (mode_of old.work) → IsGiven c.world told
        → InputGoes told (seen_of old) c (seen_of (at_work old (works.Runs n)))
    runs_go told up given =
        goes_as (works.Runs k) (works.Runs n) told is
        (ap (λ (x : Running). seen_of (at_work old (works.Runs x))) rest) up given

    pub runs_at : IsAt old c → Runs n old.accepted old.nvm (input c.world bytes)
        → IsAt (at_work old (works.Runs n)) course_with
    runs_at here runs =
        let at : IsAt (at_work old (works.Runs k)) c = subst (λ (x : Work). IsAt (at_work old x) c) is here in
        record {
          work = runs;
          hands = subst (λ (x : Running). AreHands x old.cores old.spent) (sym rest)
              (hands_with k inputs old.cores old.spent at.hands);
          some = at.some;
          most = at.most;
          cores = input_cores c.world bytes ∙ at.cores;
          saved_cores = input_saved c.world bytes ∙ at.saved_cores;
          commits = at.commits;
          cuts = at.cuts;
        }

  -- A checkpoint.
  module _ (k n : Checkpoint) (inputs : List (List ℕ)) (is : old.work ≡ works.Saves k)
      (rest : n ≡ checkpoint_with k inputs) where
    pub saves_go : (told : Result (Unit {0}) Full) → IsUp (mode_of old.work) → IsGiven c.world told
        → InputGoes told (seen_of old) c (seen_of (at_work old (works.Saves n)))
    saves_go told up given =
        goes_as (works.Saves k) (works.Saves n) told is
        (ap (λ (x : Checkpoint). seen_of (at_work old (works.Saves x))) rest) up given

    pub saves_at : IsAt old c → IsOf n old.accepted old.nvm (input c.world bytes)
        → IsAt (at_work old (works.Saves n)) course_with
    saves_at here saves =
        let at : IsAt (at_work old (works.Saves k)) c = subst (λ (x : Work). IsAt (at_work old x) c) is here in
        record {
          work = saves;
          hands = subst (λ (x : Checkpoint). AreHands x.running old.cores old.spent) (sym rest)
              (hands_with k.running inputs old.cores old.spent at.hands);
          some = at.some;
          most = at.most;
          cores = input_cores c.world bytes ∙ at.cores;
          saved_cores = input_saved c.world bytes ∙ at.saved_cores;
          commits = at.commits;
          cuts = at.cuts;
        }
