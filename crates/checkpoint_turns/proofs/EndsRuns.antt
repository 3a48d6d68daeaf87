-- At its end the cores of a checkpoint run on.
use Rattle.std.specs.Prelude.{◌≡◌, ◌⊎◌, ◌+◌, ◌<◌, ℕ, true, false, List, Option, None, IfSome}
use Rattle.std.proofs.Common.{refl, ap, sym, subst, ◌∙◌, inl, inr}
use Rattle.std.proofs.lemmas.Bool.{cases_Bool}
use Rattle.sls_base.specs.declared.fixed.TheConstants.{LEADER}
use Rattle.sls_base.specs.declared.limits.TheConstants.{PAGES}
use Rattle.pmem_model.specs.Memory.{Memory, word_at}
use Rattle.link_lists.specs.Lists.{list_at}
use Rattle.plain_state.specs.Worlds.{World}
use Rattle.kobj_codec.specs.declared.obj.Obj.{Obj}
use Rattle.kobj_codec.specs.Objects.{IsObj}
use Rattle.kobj_table.specs.declared.objects.Objects.{Objects}
use Rattle.kobj_table.specs.declared.slot.Slot.{Slot}
use Rattle.kobj_table.specs.Objects.{slot_at}
use Rattle.object_records.specs.Pages.{is_content}
use Rattle.object_records.specs.Ranges.{HasFixedSlots}
use Rattle.object_records.specs.Records.{record_at, record_of}
use Rattle.page_store.specs.declared.stage.PageStage.TheVariants as stages
use Rattle.page_store.specs.Known.{Open}
use Rattle.page_store.specs.Shows.{PagesShow}
use Rattle.page_store.specs.Stages.{IsAsRecovered, stage_of, state_of}
use Rattle.version_rooms.specs.declared.rooms.Rooms.{Rooms}
use Rattle.version_rooms.specs.Rest.{AreAtRest}
use Rattle.saved_state.specs.State.{AreOfRecords}
use Rattle.kernel_calls.specs.declared.calls.Calls.{Calls}
use Rattle.kernel_calls.specs.Kernel.{Holds}
use Rattle.leader_helper.specs.Turns as leader
use Rattle.core_turns.specs.declared.running.Running.{Running}
use Rattle.core_turns.specs.Runs.{AreAsSaved, AreFreshAlike, AreWaitingThere, Runs, objects_of}
use Rattle.core_turns.proofs.Recovered.{not_preparing, not_stored, saved_in_range, slot_same}
use Rattle.checkpoint_turns.specs.declared.checkpoint.Checkpoint.{Checkpoint}
use Rattle.checkpoint_turns.specs.Checkpoints.{AreAsCommitted, IsBehind}
use Rattle.checkpoint_turns.specs.Steps.{Ends, StaysOrIsFresh}
use Rattle.checkpoint_turns.proofs.LeadBehind.{same_records, saved_is, saved_not_fresh}
use Rattle.checkpoint_turns.proofs.LeadStages.{is_as_recovered, same_stage, still_as_committed}

-- What is left of the rooms once the pages are forgotten on which no object has content.
pub record IsForgotten (o : Objects) (r s : Rooms) : Type 0 where
  pub kept : (page : ℕ) → page < PAGES → is_content (record_at o) page ≡ true
      → stage_of s.pages page ≡ stage_of r.pages page
  pub fresh : (page : ℕ) → page < PAGES → is_content (record_at o) page ≡ false
      → stage_of s.pages page ≡ stages.Fresh

module _ (k : Checkpoint) (accepted : List ℕ) (m : Memory) (w : World) (h : IsBehind k accepted m w)
    (r : Rooms) (states : (page : ℕ) → page < PAGES → state_of r.pages page ≡ state_of k.running.rooms.pages page) where
  abbrev o : Objects
  o = objects_of k.running

  pub stays : (page : ℕ) → page < PAGES → stage_of r.pages page ≡ stage_of k.running.rooms.pages page
  stays page below = same_stage (stage_of k.running.rooms.pages page) (stage_of r.pages page) (h.stages page below)
      (states page below)

  pub as_committed : AreAsCommitted r
  as_committed page below =
      still_as_committed (stage_of k.running.rooms.pages page) (stage_of r.pages page) (h.stages page below)
      (states page below)

  pub of_objects : AreOfRecords (record_at o) h.saved.pages
  of_objects = subst (λ (records : ℕ → Option Obj). AreOfRecords records h.saved.pages)
      (sym (same_records k accepted m w h)) h.are.pages

  module _ (rest : AreAtRest r (word_at m) w.version h.saved h.pages) where
    pages_show : PagesShow r.pages (word_at m) w.version h.saved.pages h.pages Open
    pages_show = (rest.shows (λ j. None)).keep.pages

    content_not_fresh : (page : ℕ) → page < PAGES → is_content (record_at o) page ≡ true
        → stage_of r.pages page ≡ stages.Fresh → ⊥
    content_not_fresh page below is =
        saved_not_fresh (stage_of r.pages page) (word_at m) w.version page (h.saved.pages page) (h.pages page) Open
        (saved_is k accepted m w h page below ∙ is) (pages_show.each page below)

    module _ (s : Rooms) (forgotten : IsForgotten o r s) where
      stage_then : (page : ℕ) → page < PAGES
          → (stage_of s.pages page ≡ stage_of r.pages page) ⊎ (stage_of s.pages page ≡ stages.Fresh)
      stage_then page below = elim (cases_Bool (is_content (record_at o) page)) [
        | inl is ↦ inl (forgotten.kept page below is)
        | inr none ↦ inr (forgotten.fresh page below none)
      ]

      recovered : (page : ℕ) → page < PAGES → IsAsRecovered (stage_of s.pages page)
      recovered page below = elim (stage_then page below) [
        | inl same ↦ subst IsAsRecovered (sym same)
            (is_as_recovered (stage_of r.pages page) (as_committed page below))
        | inr fresh ↦ subst IsAsRecovered (sym fresh) tt
      ]

      stays_or_fresh : (page : ℕ) → page < PAGES
          → (stage_of s.pages page ≡ stage_of k.running.rooms.pages page) ⊎ (stage_of s.pages page ≡ stages.Fresh)
      stays_or_fresh page below = elim (stage_then page below) [
        | inl same ↦ inl (same ∙ stays page below)
        | inr fresh ↦ inr fresh
      ]

      fresh_alike : AreFreshAlike s o
      fresh_alike page below = elim (cases_Bool (is_content (record_at o) page)) [
        | inl is ↦ (
          λ fresh. absurd (content_not_fresh page below is (sym (forgotten.kept page below is) ∙ fresh)),
          λ none. absurd (cc),
        )
        | inr none ↦ (λ fresh. none, λ same. forgotten.fresh page below none)
      ]

      module _ (pages : ℕ → Option (ℕ → ℕ)) (at_rest : AreAtRest s (word_at m) w.version h.saved pages) where
        in_range : (i : ℕ) → IfSome (h.saved.objects i) IsObj
        in_range = saved_in_range s (word_at m) w.version h.saved pages at_rest h.are.none

        as_saved : AreAsSaved s o h.saved w
        as_saved i below same =
            let here = subst (λ (told : Option Obj). IfSome told IsObj) (sym (h.objects i)) (in_range i) in
            let alike = slot_same s recovered (slot_at o i) (list_at o.links i) here in
            ap (λ (slot : Slot). record_of slot (list_at o.links i)) alike ∙ h.objects i

        -- the cores, with the kernel as it goes on
        abbrev pub running_on : Calls → Running
        running_on calls = record k.running { calls = calls; rooms = s }

        pub runs_on : (calls : Calls) → calls.runtime.objects ≡ o → Holds calls accepted m h.rest w
            → Runs (running_on calls) accepted m w
        runs_on calls objects holds = record {
          rest = h.rest;
          holds = holds;
          saved = h.saved;
          pages = pages;
          at_rest = at_rest;
          are = h.are;
          slots = subst HasFixedSlots (sym objects) h.slots;
          fresh = subst (λ (x : Objects). AreFreshAlike s x) (sym objects) fresh_alike;
          stored = λ page below origin e.
              absurd (not_stored (stage_of s.pages page) origin (recovered page below) e);
          unchanged = subst (λ (x : Objects). AreAsSaved s x h.saved w) (sym objects) as_saved;
          waiting = subst (λ (x : Objects). AreWaitingThere x w) (sym objects) h.waiting;
          counts = h.counts;
          prepares = λ core page below. (
            λ hand. absurd (let none = h.none core in cc),
            λ prepares. absurd (not_preparing (stage_of s.pages page) core (recovered page below) prepares),
          );
          in_range = λ core page hand. absurd (let none = h.none core in cc);
          home = h.home;
        }

        -- The leader's last turn.
        pub ends : (calls : Calls) → calls.runtime.objects ≡ o → Holds calls accepted m h.rest w
            → leader.turns_left k.leader k.running.rooms ≡ 1 → (new : Checkpoint) → new.running ≡ running_on calls
            → Ends k accepted m w LEADER new m
        ends calls objects holds left new is = record {
          leader = refl;
          was = h;
          left = ap (λ (turns : ℕ). turns + k.spared) left;
          memory = refl;
          prepares = ap (λ (x : Running). x.prepares) is;
          stages = λ page below. subst (λ (x : Running). StaysOrIsFresh k.running x page) (sym is)
              (stays_or_fresh page below);
          runs = subst (λ (x : Running). Runs x accepted m w) (sym is) (runs_on calls objects holds);
        }
