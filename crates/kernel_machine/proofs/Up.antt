-- The turn by which the machine comes up.
use Rattle.std.specs.Prelude.{◌≡◌, ℕ, zero, suc, ◌+◌, ◌<◌, ◌≤◌, Bool, true, false, List, ◌∷◌, map, replicate, Option, Some, None, slice_index_or}
use Rattle.std.specs.List.{range_with_len}
use Rattle.std.proofs.Common.{refl, ap, sym, subst, ◌∙◌, arith, inl, inr}
use mathlib.Core.Path.{fun_ext}
use Rattle.sls_base.specs.declared.fixed.TheConstants.{LEADER}
use Rattle.sls_base.specs.declared.limits.TheConstants.{PAGES, VERSION_AT}
use Rattle.pmem_model.specs.Memory.{Memory, word_at}
use Rattle.pmem_operations.specs.Operations.{IsAtMostOne}
use Rattle.plain_state.specs.Worlds.{World}
use Rattle.page_store.specs.declared.stage.Preparation.TheVariants.{FlushCopy, FenceCopy, StoreTag, FlushTag, FenceTag}
use Rattle.page_store.specs.declared.stage.PageStage.{PageStage}
use Rattle.page_store.specs.declared.stage.PageStage.TheVariants as stages
use Rattle.page_store.specs.Stages.{stage_of, IsAsRecovered}
use Rattle.cow_fault.specs.Faults.{steps_left}
use Rattle.tree_restore.specs.declared.recovery.Recovery.{Recovery}
use Rattle.core_turns.specs.declared.running.Running.{Running}
use Rattle.core_turns.specs.Runs.{Runs, prepared_by}
use Rattle.core_turns.proofs.Recovered.{not_preparing}
use Rattle.machine_contract.specs.declared.answers.Did.TheVariants as did
use Rattle.machine_contract.specs.Side.{CoreSide, IsStarting, free_core, none_spent}
use Rattle.machine_contract.specs.Boards.{IsRenewed}
use Rattle.machine_contract.specs.Courses.{Course}
use Rattle.machine_contract.specs.Lawful.{GoesUp}
use Rattle.kernel_machine.specs.declared.work.Restoring.{Restoring}
use Rattle.kernel_machine.specs.declared.work.Work.{Work}
use Rattle.kernel_machine.specs.declared.work.Work.TheVariants as work
use Rattle.kernel_machine.specs.declared.kernel.Kernel.{Kernel}
use Rattle.kernel_machine.specs.Formats.{format}
use Rattle.kernel_machine.specs.Sides.{due_of, hand_of, seen_of, side_of, spent_at}
use Rattle.kernel_machine.specs.Worlds.{AreHands, IsRecovering}
use Rattle.kernel_machine.specs.Shows.{IsAt}
use Rattle.kernel_machine.specs.Turns.{ComesUp, TakesTurn}
use Rattle.kernel_machine.proofs.SidesStart.{one_operation}
use Rattle.kernel_machine.proofs.Recover.{mode_by}

-- No page was prepared.

all_same : (value n i : ℕ) → slice_index_or (replicate n value) i value ≡ value
all_same value zero i = refl
all_same value (suc n) zero = refl
all_same value (suc n) (suc i) = all_same value n i

none_is_spent : spent_at (replicate PAGES 0) ≡ none_spent
none_is_spent = fun_ext (λ page. all_same 0 PAGES page)

steps_few : (stage : PageStage) → steps_left stage ≤ 6
steps_few stages.Fresh = omega arith
steps_few stages.Protected = omega arith
steps_few (stages.Preparing core FlushCopy) = omega arith
steps_few (stages.Preparing core FenceCopy) = omega arith
steps_few (stages.Preparing core StoreTag) = omega arith
steps_few (stages.Preparing core FlushTag) = omega arith
steps_few (stages.Preparing core FenceTag) = omega arith
steps_few (stages.Writable origin writes) = omega arith

is_starting : (first : Bool) → IsStarting (mode_by first)
is_starting true = inl refl
is_starting false = inr refl

-- No core has a page in hand.

module _ (k : Running) (accepted : List ℕ) (m : Memory) (w : World) (h : Runs k accepted m w)
    (stages_are : (page : ℕ) → page < PAGES → IsAsRecovered (stage_of k.rooms.pages page)) where
  none_in_hand : (core : ℕ) → prepared_by k core ≡ None
  none_in_hand core = by (prepared_by k core) refl
    where
      by : (hand : Option ℕ) → prepared_by k core ≡ hand → prepared_by k core ≡ None
      by None e = e
      by (Some page) e =
          let below = h.in_range core page e in
          absurd (not_preparing (stage_of k.rooms.pages page) core (stages_are page below)
          ((h.prepares core page below).0 e))

  hand_free : (core : ℕ) → hand_of k core ≡ free_core
  hand_free core =
      ap (λ (hand : Option ℕ). record { prepares = hand; holds = None; due = due_of k hand }) (none_in_hand core)

  hands_free : (n from : ℕ) → map (hand_of k) (range_with_len from n) ≡ replicate n free_core
  hands_free zero from = refl
  hands_free (suc n) from =
      ap (λ (hand : CoreSide). hand ∷ map (hand_of k) (range_with_len (from + 1) n)) (hand_free from)
      ∙ ap (λ (hands : List CoreSide). free_core ∷ hands) (hands_free n (from + 1))

  hands_are : (cores : ℕ) → AreHands k cores (replicate PAGES 0)
  hands_are cores = record {
    below = λ core page is. absurd (let none = none_in_hand core in cc);
    seldom = λ page below.
        let none = all_same 0 PAGES page in
        let few = steps_few (stage_of k.rooms.pages page) in
        omega (arith, none, few);
  }

module _ (k : Kernel) (s : Restoring) (c : Course) (is : IsAt (record k { work = work.Recovers s }) c)
    (r : Recovery) (m : Memory) (now : Work) (comes : ComesUp r m now) (h : IsRecovering r k.accepted m c.world)
    (operation : IsAtMostOne LEADER (word_at k.nvm) (word_at m)) (ops : m.ops ≤ k.nvm.ops + 1)
    (commits : m.commits ≡ c.commits) (cuts : m.cuts ≡ k.nvm.cuts) where
  abbrev old : Kernel
  old = record k { work = work.Recovers s }

  abbrev next : Kernel
  next = record k { nvm = m; work = work.Runs comes.running; spent = replicate PAGES 0 }

  abbrev pub runs_then : Runs comes.running k.accepted m c.world
  runs_then = comes.runs k.accepted c.world h

  abbrev pub stages_then : (page : ℕ) → page < PAGES → IsAsRecovered (stage_of comes.running.rooms.pages page)
  stages_then = comes.stages k.accepted c.world h

  goes_up : (version : ℕ) → version ≡ c.world.version → GoesUp c.world (side_of old) LEADER version (side_of next)
  goes_up version version_is = record {
    mode = is_starting s.is_first;
    leader = refl;
    version_is = version_is;
    left = omega arith;
    given = inr refl;
    rest =
        ap (λ (cores : List CoreSide). record (side_of next) { cores = cores })
        (hands_free comes.running k.accepted m c.world runs_then stages_then k.cores 0)
        ∙ ap (λ (spent : ℕ → ℕ). record (side_of next) { cores = replicate k.cores free_core; spent = spent })
        none_is_spent;
  }

  comes_up : (version : ℕ) → version ≡ c.world.version → IsRenewed format (seen_of next) c.world
      → TakesTurn old c LEADER (did.Up version) next
  comes_up version version_is renewed = record {
    goes = record {
      lawful = goes_up version version_is;
      words = one_operation LEADER (word_at k.nvm) (word_at m) operation;
      ops = ops;
      renewed = λ renews. renewed;
      board = λ closed opened. absurd (cc);
      opened = λ commits. absurd commits;
      rest = ap (λ (n : ℕ). record (seen_of next) { cuts = n }) cuts;
    };
    is_at = record {
      work = runs_then;
      hands = hands_are comes.running k.accepted m c.world runs_then stages_then k.cores;
      some = is.some;
      most = is.most;
      cores = is.cores;
      saved_cores = is.saved_cores;
      commits = commits;
      cuts = cuts ∙ is.cuts;
    };
  }

  pub up_goes : (version : ℕ) → version ≡ (word_at m VERSION_AT).durable → IsRenewed format (seen_of next) c.world
      → TakesTurn old c LEADER (did.Up version) (record k { nvm = m; work = now; spent = replicate PAGES 0 })
  up_goes version version_is renewed =
      subst (λ (x : Work). TakesTurn old c LEADER (did.Up version)
      (record k { nvm = m; work = x; spent = replicate PAGES 0 })) (sym comes.is)
      (comes_up version (version_is ∙ h.shows.version.1) renewed)
