-- A checkpoint that begins is of the world that the cores ran.
use Rattle.std.specs.Prelude.{◌≡◌, ℕ, ◌+◌, ◌<◌, ◌==◌, true, List, length, Some}
use Rattle.std.specs.List.{list_any}
use Rattle.std.proofs.Common.{refl, ap, sym, subst, ◌∙◌, inl, inr}
use Rattle.std.proofs.lemmas.Bool.{cases_Bool}
use Rattle.sls_base.specs.declared.limits.TheConstants.{OUTPUT_CHANNELS, PAGES}
use Rattle.sls_base.proofs.ListTests.{any_in, in_any}
use Rattle.link_lists.specs.Lists.{list_at}
use Rattle.pmem_model.specs.Memory.{Memory, word_at}
use Rattle.plain_model.specs.Objects.{every_object, page_numbers}
use Rattle.plain_state.specs.States.{State}
use Rattle.plain_state.specs.Worlds.{World, has_page}
use Rattle.plain_model.specs.Sweep.{swept}
use Rattle.kobj_table.specs.declared.objects.Objects.{Objects}
use Rattle.kobj_table.specs.Objects.{Rest, slot_at, state_of}
use Rattle.object_records.specs.Pages.{has_content_in, is_content}
use Rattle.object_records.specs.Records.{record_at}
use Rattle.alloc_journal.specs.Sets.{has}
use Rattle.page_store.specs.declared.stage.PageStage.{PageStage}
use Rattle.page_store.specs.declared.stage.PageStage.TheVariants as stages
use Rattle.page_store.specs.declared.stage.PageState.TheVariants as states
use Rattle.page_store.specs.declared.store.PageStore.{PageStore}
use Rattle.page_store.specs.Stages.{stage_of, state_at}
use Rattle.version_rooms.specs.declared.rooms.Rooms.{Rooms}
use Rattle.saved_state.specs.Running.{AreNumbersOf, CanBeSaved}
use Rattle.leader_helper.specs.declared.leader.Leader.{Leader}
use Rattle.leader_helper.specs.declared.stage.Stage.TheVariants.{Gather}
use Rattle.leader_helper.specs.Begins.{MayBegin}
use Rattle.leader_helper.specs.Leads.{IsWriting}
use Rattle.leader_helper.specs.Saving.{words_kept}
use Rattle.leader_helper.proofs.Contents.{content_on_own}
use Rattle.core_turns.specs.declared.running.Running.{Running}
use Rattle.core_turns.specs.Runs.{ArePrepared, Runs, objects_of, prepared_by}
use Rattle.checkpoint_turns.specs.declared.checkpoint.Checkpoint.{Checkpoint}
use Rattle.checkpoint_turns.specs.Checkpoints.{AreInHand, IsBefore, TellsDevices, contents_of}
use Rattle.checkpoint_turns.proofs.CommitsNext.{counts_alike}

-- Pages in hand.

-- a page on which an object has content is one of its state
content_there : (o : Objects) (rest : Rest) (page : ℕ) → is_content (record_at o) page ≡ true
    → has_page (state_of o rest) page ≡ true
unfolding is_content has_page state_of
content_there o rest page is =
    let found = in_any (λ i. has_content_in (record_at o i) page) every_object is in
    let i = found.0 in
    any_in (λ j. list_any (λ number. number == page) (page_numbers ((state_of o rest).objects j))) every_object i
    found.1 (content_on_own rest.content (slot_at o i) (list_at o.links i) (list_at o.links i) page found.2)

-- a page that is being prepared isn't fresh
not_fresh : (stage : PageStage) (core : ℕ) → state_at stage ≡ states.Preparing core → stage ≡ stages.Fresh → ⊥
not_fresh stage core is fresh =
    let wrong : states.Fresh ≡ states.Preparing core = sym (ap state_at fresh) ∙ is in cc

module _ (k : Running) (accepted : List ℕ) (m : Memory) (w : World) (h : Runs k accepted m w) where
  there : (core page : ℕ) → prepared_by k core ≡ Some page → has_page w.now page ≡ true
  there core page is =
      let below = h.in_range core page is in
      let stage = (h.prepares core page below).0 is in
      let content : is_content (record_at (objects_of k)) page ≡ true =
      elim (cases_Bool (is_content (record_at (objects_of k)) page)) [
        | inl has ↦ has
        | inr none ↦ absurd (not_fresh (stage_of k.rooms.pages page) core stage ((h.fresh page below).1 none))
      ] in
      subst (λ (s : State). has_page s page ≡ true) (sym h.holds.now)
      (content_there (objects_of k) h.rest page content)

  pub may_begin : w.version < Rattle.sls_base.specs.declared.limits.TheConstants.LAST_VERSION
      → MayBegin k.rooms (word_at m) w.version h.saved h.pages
  may_begin below = record { in_range = below; rest = h.at_rest; used = h.are.used_objects }

  -- With other objects, of the same lists, rooms that differ in the numbers in use alone, and the leader.
  module _ (n : Objects) (r : Rooms) (l : Leader) (pages_same : r.pages ≡ k.rooms.pages)
      (now_is : state_of n h.rest ≡ swept w.now) where
    abbrev begun : Checkpoint
    begun = record {
      running = record k {
        calls = record k.calls { runtime = record k.calls.runtime { objects = n } };
        rooms = r;
      };
      leader = l;
      spared = 0;
    }

    out_same : (channel : ℕ)
        → w.base channel + length ((state_of n h.rest).out channel) ≡ w.base channel + length (w.now.out channel)
    out_same channel = ap (λ (s : State). w.base channel + length (s.out channel)) now_is

    inputs_are : k.calls.inputs ≡ w.now.inputs
    unfolding state_of
    inputs_are = h.holds.inputs ∙ sym (ap (λ (s : State). s.inputs) h.holds.now)

    tells : CanBeSaved n h.rest (words_kept n h.pages) w → TellsDevices begun.running accepted w
    tells can = record {
      inputs = inputs_are;
      rings = λ id.
          counts_alike (slot_at n id) (record w { now = state_of n h.rest }) w out_same (can.rings id);
      accepted_are = h.holds.attached.accepted;
      saved = h.counts;
    }

    in_hand : l.stage ≡ Gather → AreInHand begun w
    in_hand gathers = record {
      prepared = subst (λ (s : PageStore). ArePrepared (record k { rooms = record r { pages = s } }))
          (sym pages_same) h.prepares;
      in_range = h.in_range;
      gather = λ core page is. gathers;
      there = there;
    }

    pub before : length w.now.cores ≡ length w.saved.cores → l.stage ≡ Gather
        → IsWriting l r (word_at m) w.version (contents_of h.saved n h.pages)
        → CanBeSaved n h.rest (words_kept n h.pages) w → AreNumbersOf (has r.numbers.running) (state_of n h.rest)
        → IsBefore begun accepted m w
    before cores gathers writing can numbers = record {
      sound = h.holds.sound;
      cores = cores;
      rest = h.rest;
      now = now_is;
      content = h.holds.content;
      saved = h.saved;
      pages = h.pages;
      are = h.are;
      writing = writing;
      can = can;
      numbers = subst (AreNumbersOf (has r.numbers.running)) now_is numbers;
      devices = tells can;
      in_hand = in_hand gathers;
      spared = refl;
      home = h.home;
    }
