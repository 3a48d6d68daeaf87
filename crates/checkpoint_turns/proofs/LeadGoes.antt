-- A turn of the leader that doesn't commit.
use Rattle.std.specs.Prelude.{◌≡◌, ◌⊎◌, ◌+◌, ◌<◌, ◌↔◌, ℕ, List, Option, Some, None, IfSome}
use Rattle.std.proofs.Common.{refl, sym, subst, arith}
use Rattle.sls_base.specs.declared.fixed.TheConstants.{LEADER}
use Rattle.sls_base.specs.declared.limits.TheConstants.{OBJECTS, PAGES}
use Rattle.pmem_model.specs.Memory.{AllHome, count_up, KeepsCounts, Memory, SameHomes, word_at}
use Rattle.pmem_operations.specs.Operations.{IsAtMostOne}
use Rattle.plain_state.specs.Worlds.{World}
use Rattle.kobj_codec.specs.declared.obj.Obj.{Obj}
use Rattle.kobj_codec.specs.Objects.{IsObj}
use Rattle.kobj_table.specs.declared.objects.Objects.{Objects}
use Rattle.kobj_table.specs.Objects.{Rest, state_of as objects_state}
use Rattle.object_records.specs.Ranges.{AreUntoldInRange, IsSoundState}
use Rattle.object_records.specs.Records.{record_at}
use Rattle.object_root.specs.declared.stage.Phase.{Phase as RootPhase}
use Rattle.object_root.specs.declared.stage.Phase.TheVariants.{Records}
use Rattle.object_root.specs.Room.{stage_at}
use Rattle.object_root.specs.Shows.{IsSaved, ObjectShows, ShowsIn}
use Rattle.page_store.specs.declared.stage.PageState.{PageState}
use Rattle.page_store.specs.declared.stage.PageState.TheVariants.{Preparing}
use Rattle.page_store.specs.Stages.{IsSettled, stage_of, state_of}
use Rattle.durable_state.specs.Parts.{Parts}
use Rattle.version_rooms.specs.declared.rooms.Rooms.{Rooms}
use Rattle.version_rooms.specs.Rooms.{Contents}
use Rattle.saved_state.specs.Running.{CanBeSaved}
use Rattle.leader_helper.specs.declared.leader.Leader.{Leader}
use Rattle.leader_helper.specs.Leads as leads
use Rattle.leader_helper.specs.Leads.{Applied, Applying, IsApplying, IsLeading, IsWriting}
use Rattle.leader_helper.specs.Turns as leader
use Rattle.leader_helper.proofs.Applies.{is_calm}
use Rattle.core_turns.specs.Runs.{objects_of, prepared_by}
use Rattle.checkpoint_turns.specs.declared.checkpoint.Checkpoint.{Checkpoint}
use Rattle.checkpoint_turns.specs.Checkpoints.{AreInHand, Before, Behind, IsBehind, IsOf, NoneInHand, contents_of}
use Rattle.checkpoint_turns.specs.Steps as steps
use Rattle.checkpoint_turns.specs.Steps.{Goes, IsLeaders}
use Rattle.checkpoint_turns.proofs.LeadBefore.{before_still, led_on}
use Rattle.checkpoint_turns.proofs.LeadBehind.{behind_still, record_below}
use Rattle.checkpoint_turns.proofs.LeadContent.{StandFor, ReadBytes}
use Rattle.checkpoint_turns.proofs.LeadStages.{is_settled, settled_unprepared}

-- What the leader's step asks for.

pub is_leading : (k : Checkpoint) (accepted : List ℕ) (m : Memory) (w : World) → IsOf k accepted m w
    → IsLeading k.leader k.running.rooms (word_at m) (record_at (objects_of k.running))
is_leading k accepted m w (Before h) =
    leads.Before w.version (contents_of h.saved (objects_of k.running) h.pages) refl h.writing
is_leading k accepted m w (Behind h) = leads.Behind w.version h.saved h.pages h.applying

pub all_home : (k : Checkpoint) (accepted : List ℕ) (m : Memory) (w : World) → IsOf k accepted m w → AllHome m
all_home k accepted m w (Before h) = h.home
all_home k accepted m w (Behind h) = h.home

pub all_settled : (k : Checkpoint) (accepted : List ℕ) (m : Memory) (w : World) → NoneInHand k → IsOf k accepted m w
    → (page : ℕ) → page < PAGES → IsSettled (stage_of k.running.rooms.pages page)
all_settled k accepted m w free (Before h) page below =
    settled_unprepared (stage_of k.running.rooms.pages page)
    (λ core e. (let none = free core in let some = (h.in_hand.prepared core page below).1 e in cc))
all_settled k accepted m w free (Behind h) page below =
    is_settled (stage_of k.running.rooms.pages page) (h.stages page below)

-- the records that are saved are in range

saved_is : (told : Option Obj) (old tag : ℕ) → IsSaved told old tag → IfSome told IsObj
saved_is None old tag is = tt
saved_is (Some obj) old tag is = is.0

saved_shown : (r : Rooms) (w : World) (m : Memory) (saved : Parts) (pages : ℕ → Option (ℕ → ℕ)) (l : Leader)
    → IsApplying l r (word_at m) w.version saved pages → (id : ℕ) → id < OBJECTS → IfSome (saved.objects id) IsObj
saved_shown r w m saved pages l h id below =
    let shows = ((is_calm h).1 (λ j. None)).keep.objects.shows in
    let each = subst (λ (phase : RootPhase). ShowsIn phase r.roots (word_at m) w.version saved.objects (λ j. None))
    (phase_is h) shows in
    let here : ObjectShows Records (stage_at r.roots id) (word_at m) w.version id (saved.objects id) None =
    each id below in
    saved_is (saved.objects id) here.old here.tag here.saved_is
  where
    phase_is : IsApplying l r (word_at m) w.version saved pages → r.roots.phase ≡ Records
    phase_is (Applying stage committed shows) = committed.records
    phase_is (Applied stage rest) = rest.records

pub records_are : (k : Checkpoint) (accepted : List ℕ) (m : Memory) (w : World) → IsOf k accepted m w
    → ((o : Objects) (rest : Rest) (pages : ℕ → Option (ℕ → ℕ)) (w : World) → CanBeSaved o rest pages w
    → AreUntoldInRange o)
    → ((o : Objects) (rest : Rest) (i : ℕ) → IsSoundState (objects_state o rest) → AreUntoldInRange o
    → IfSome (record_at o i) IsObj)
    → (id : ℕ) → IfSome (record_at (objects_of k.running) id) IsObj
records_are k accepted m w (Before h) untold in_range id =
    in_range (objects_of k.running) h.rest id h.can.sound (untold (objects_of k.running) h.rest _ w h.can)
records_are k accepted m w (Behind h) untold in_range id =
    by (record_at (objects_of k.running) id) refl
  where
    by : (told : Option Obj) → record_at (objects_of k.running) id ≡ told
        → IfSome (record_at (objects_of k.running) id) IsObj
    by None e = subst (λ (x : Option Obj). IfSome x IsObj) (sym e) tt
    by (Some obj) e =
        subst (λ (x : Option Obj). IfSome x IsObj) (sym (h.objects id))
        (saved_shown k.running.rooms w m h.saved h.pages k.leader h.applying id
        (record_below k accepted m w h id obj e))

-- The leader resumes behind the commit alone.
pub behind_of : (k : Checkpoint) (accepted : List ℕ) (m : Memory) (w : World) → IsOf k accepted m w
    → ((v : ℕ) (c : Contents) → c.objects ≡ record_at (objects_of k.running)
    → IsWriting k.leader k.running.rooms (word_at m) v c → ⊥)
    → IsBehind k accepted m w
behind_of k accepted m w (Before h) none =
    absurd (none w.version (contents_of h.saved (objects_of k.running) h.pages) refl h.writing)
behind_of k accepted m w (Behind h) none = h

-- A turn.

with_spared : (old new spared : ℕ) → old ≡ new + 1 → old + spared ≡ (new + spared) + 1
with_spared old new spared e = omega (arith, e)

module _ (k : Checkpoint) (accepted : List ℕ) (m : Memory) (w : World) (free : NoneInHand k)
    (l : Leader) (r : Rooms) (next : Memory) where
  abbrev n : Checkpoint
  n = led_on k l r k.running.prepares

  pub is_leaders : leader.turns_left k.leader k.running.rooms ≡ leader.turns_left l r + 1
      → KeepsCounts m next → (next.ops ≡ m.ops) ⊎ (next.ops ≡ count_up m.ops)
      → IsAtMostOne LEADER (word_at m) (word_at next) → IsLeaders k m LEADER n next
  is_leaders left counts ops operation = record {
    leader = refl;
    free = free;
    prepares = refl;
    left = with_spared (leader.turns_left k.leader k.running.rooms) (leader.turns_left l r) k.spared left;
    memory = record { counts = counts; ops = ops; operation = operation };
  }

  abbrev SameStates : Type 0
  SameStates = (page : ℕ) → page < PAGES → state_of r.pages page ≡ state_of k.running.rooms.pages page

  in_hand_then : AreInHand k w → SameStates → AreInHand n w
  in_hand_then was states = record {
    prepared = λ core page below.
        subst (λ (s : PageState). (prepared_by k.running core ≡ Some page) ↔ (s ≡ Preparing core))
        (sym (states page below)) (was.prepared core page below);
    in_range = was.in_range;
    gather = λ core page e. absurd (let none = free core in cc);
    there = was.there;
  }

  pub goes : IsOf k accepted m w
      → ((v : ℕ) (c : Contents) → c.objects ≡ record_at (objects_of k.running)
      → IsWriting k.leader k.running.rooms (word_at m) v c → IsWriting l r (word_at next) v c)
      → ((v : ℕ) (saved : Parts) (pages : ℕ → Option (ℕ → ℕ))
      → IsApplying k.leader k.running.rooms (word_at m) v saved pages → IsApplying l r (word_at next) v saved pages)
      → SameStates → r.numbers.running ≡ k.running.rooms.numbers.running → SameHomes m next
      → IsLeaders k m LEADER n next → StandFor → ReadBytes → Goes k accepted m w LEADER n next
  goes (Before h) writes applies states running homes turn of_records zeros = record {
    turn = turn;
    stays = steps.Before h (before_still k accepted m w h l r k.running.prepares next
        (writes w.version (contents_of h.saved (objects_of k.running) h.pages) refl h.writing) of_records zeros
        running homes (in_hand_then h.in_hand states));
    states = states;
  }
  goes (Behind h) writes applies states running homes turn of_records zeros = record {
    turn = turn;
    stays = steps.Behind h (behind_still k accepted m w h l r next
        (applies w.version h.saved h.pages h.applying) of_records zeros states homes);
    states = states;
  }
