-- A step by which a core goes on with the page that it has in hand, while the leader gathers.
use Rattle.std.specs.Prelude.{◌≡◌, ◌+◌, ◌<◌, ℕ, Bool, true, false, List, Option, Some, None, length, slice_index_or}
use Rattle.std.proofs.Common.{refl, ap, sym, subst, ◌∙◌, inl, inr}
use Rattle.std.proofs.lemmas.Bool.{cases_eq, cases_lt}
use Rattle.std.proofs.lemmas.List.{get_or_past}
use Rattle.sls_base.specs.declared.limits.TheConstants.{PAGES}
use Rattle.pmem_model.specs.Memory.{count_up, KeepsCounts, Memory, SameHomes, word_at}
use Rattle.pmem_operations.specs.Operations.{IsAtMostOne}
use Rattle.plain_state.specs.Worlds.{World, has_page}
use Rattle.page_store.specs.declared.stage.PageState.{PageState}
use Rattle.page_store.specs.Known.{Open}
use Rattle.page_store.specs.Stages.{state_of}
use Rattle.cow_fault.specs.Faults.{MayFault}
use Rattle.version_rooms.specs.declared.rooms.Rooms.{Rooms}
use Rattle.version_rooms.specs.Rooms.{IsAtRest, RoomsShow}
use Rattle.leader_helper.specs.Leads.{IsWriting}
use Rattle.leader_helper.specs.Turns as leader
use Rattle.leader_helper.specs.Stages.{page_phase}
use Rattle.leader_helper.specs.declared.stage.Stage.{Stage}
use Rattle.leader_helper.specs.declared.stage.Stage.TheVariants as at
use Rattle.core_turns.specs.Runs.{objects_of, prepared_by}
use Rattle.core_turns.proofs.Preparing.{TakesStep, done_then, goes_on_then, hand_after, hand_in_range, others_stay}
use Rattle.core_turns.proofs.Preparing.{own_hand, still_prepared}
use Rattle.checkpoint_turns.specs.declared.checkpoint.Checkpoint.{Checkpoint}
use Rattle.checkpoint_turns.specs.Checkpoints.{AreInHand, Before, Behind, IsBefore, IsOf, contents_of}
use Rattle.checkpoint_turns.specs.Steps.{Prepares}
use Rattle.checkpoint_turns.proofs.LeadContent.{StandFor, ReadBytes}
use Rattle.checkpoint_turns.proofs.LeadBefore.{before_still, led_on}

-- Behind the commit no core has a page in hand.
pub before_of : (k : Checkpoint) (accepted : List ℕ) (m : Memory) (w : World) (core page : ℕ)
    → prepared_by k.running core ≡ Some page → IsOf k accepted m w → IsBefore k accepted m w
before_of k accepted m w core page hand (Before h) = h
before_of k accepted m w core page hand (Behind h) = absurd (let none = h.none core in cc)

-- A core that has a page in hand is one of the cores.
pub is_held : (hands : List (Option ℕ)) (core page : ℕ) → slice_index_or hands core None ≡ Some page
    → core < length hands
is_held hands core page hand = elim (cases_lt core (length hands)) [
  | inl below ↦ below
  | inr past ↦ absurd (let none = get_or_past hands core None past in cc)
]

same_page : (done : Bool) (page other : ℕ) → hand_after done page ≡ Some other → other ≡ page
same_page true page other e = absurd (cc)
same_page false page other e = let same : page ≡ other = cc in sym same

module _ (k : Checkpoint) (accepted : List ℕ) (m : Memory) (w : World) (h : IsBefore k accepted m w)
    (core page : ℕ) (hand : prepared_by k.running core ≡ Some page) where
  pub in_range : page < PAGES
  in_range = h.in_hand.in_range core page hand

  pub gathers : k.leader.stage ≡ at.Gather
  gathers = h.in_hand.gather core page hand

  pub may_fault : MayFault (state_of k.running.rooms.pages page) core
  may_fault =
      subst (λ (s : PageState). MayFault s core) (sym ((h.in_hand.prepared core page in_range).0 hand)) refl

  pub at_rest : IsAtRest k.running.rooms
  at_rest = h.writing.rest (λ e. (let no : at.Gather ≡ at.Commit = sym gathers ∙ e in cc))

  pub shows_open : RoomsShow k.running.rooms (word_at m) w.version
      (contents_of h.saved (objects_of k.running) h.pages) Open
  shows_open =
      subst (λ (s : Stage). RoomsShow k.running.rooms (word_at m) w.version
      (contents_of h.saved (objects_of k.running) h.pages) (page_phase s)) gathers h.writing.shows

  alone : (other : ℕ) → prepared_by k.running core ≡ Some other → other ≡ page
  alone other e = (let same : Some other ≡ Some page = sym e ∙ hand in cc)

  module _ (r : Rooms) (hands : List (Option ℕ)) (done : Bool)
      (is : TakesStep k.running (led_on k k.leader r hands).running core page done) where
    abbrev n : Checkpoint
    n = led_on k k.leader r hands

    was_there : (c other : ℕ) → prepared_by n.running c ≡ Some other → has_page w.now other ≡ true
    was_there c other e = elim (cases_eq c core) [
      | inl here ↦
          let own : hand_after done page ≡ Some other =
          sym (own_hand k.running n.running core page done is) ∙ ap (prepared_by n.running) (sym here) ∙ e in
          subst (λ (p : ℕ). has_page w.now p ≡ true) (sym (same_page done page other own))
          (h.in_hand.there core page hand)
      | inr apart ↦ h.in_hand.there c other (sym (others_stay k.running n.running core page done is c apart) ∙ e)
    ]

    in_hand_then : AreInHand n w
    in_hand_then = record {
      prepared = still_prepared k.running n.running core page done is h.in_hand.prepared alone;
      in_range = hand_in_range k.running n.running core page done is h.in_hand.in_range;
      gather = λ c other e. gathers;
      there = was_there;
    }

    pub prepares : (next : Memory) → r.numbers.running ≡ k.running.rooms.numbers.running
        → IsWriting k.leader r (word_at next) w.version (contents_of h.saved (objects_of k.running) h.pages)
        → leader.turns_left k.leader r ≡ leader.turns_left k.leader k.running.rooms
        → SameHomes m next → KeepsCounts m next → next.ops ≡ count_up m.ops
        → IsAtMostOne core (word_at m) (word_at next) → StandFor → ReadBytes
        → Prepares k accepted m w core page n next
    prepares next running writing left homes counts one operation of_records zeros = record {
      in_hand = hand;
      was = h;
      is_before = before_still k accepted m w h k.leader r hands next writing of_records zeros running homes
          in_hand_then;
      stage = is.stage;
      stages = is.stages;
      done = done_then k.running n.running core page done is;
      goes_on = goes_on_then k.running n.running core page done is;
      others = others_stay k.running n.running core page done is;
      left = ap (λ (turns : ℕ). turns + k.spared) left;
      memory = record { counts = counts; ops = inr one; operation = operation };
    }
