-- A machine whose cores run.
use Rattle.std.specs.Prelude.{◌≡◌, ℕ, ◌<◌, ◌==◌, true, List, None, Some}
use Rattle.std.specs.List.{list_any}
use Rattle.std.proofs.Common.{refl, ap, sym, subst, ◌∙◌, inl, inr}
use Rattle.std.proofs.lemmas.Bool.{cases_Bool}
use Rattle.sls_base.specs.declared.limits.TheConstants.{PAGES, VERSION_AT}
use Rattle.sls_base.proofs.ListTests.{any_in, in_any}
use Rattle.link_lists.specs.Lists.{list_at}
use Rattle.pmem_model.specs.Words.{Word}
use Rattle.pmem_model.specs.Memory.{Memory, word_at}
use Rattle.plain_model.specs.Objects.{every_object, page_numbers}
use Rattle.plain_state.specs.States.{State}
use Rattle.plain_state.specs.Worlds.{World, has_page}
use Rattle.kobj_table.specs.declared.objects.Objects.{Objects}
use Rattle.kobj_table.specs.Objects.{Rest, slot_at, state_of}
use Rattle.object_records.specs.Pages.{has_content_in, is_content}
use Rattle.object_records.specs.Records.{record_at}
use Rattle.page_store.specs.declared.stage.PageStage.{PageStage}
use Rattle.page_store.specs.declared.stage.PageStage.TheVariants as stages
use Rattle.page_store.specs.declared.stage.PageState.TheVariants as states
use Rattle.page_store.specs.Known.{Open}
use Rattle.page_store.specs.Stages.{stage_of, state_at}
use Rattle.version_commit.specs.declared.step.Step.{Step}
use Rattle.version_commit.specs.declared.step.Step.TheVariants as steps
use Rattle.version_commit.specs.OnWay.{IsOnWay}
use Rattle.version_rooms.specs.declared.rooms.Rooms.{Rooms}
use Rattle.version_rooms.specs.Rooms.{Contents, IsAtRest, RoomsShow, reads_at}
use Rattle.leader_helper.proofs.Contents.{content_on_own}
use Rattle.core_turns.specs.declared.running.Running.{Running as Cores}
use Rattle.core_turns.specs.Runs.{ArePrepared, Runs, objects_of, prepared_by}
use Rattle.machine_contract.specs.Side.{Formatting, Recovering, Running, IsStarting}
use Rattle.kernel_machine.specs.declared.work.Work.TheVariants as work
use Rattle.kernel_machine.proofs.SeenSides.{IsInRoom, all_hands, some_due}
use Rattle.kernel_machine.proofs.SeenParts.{IsSeen, SeenLaws, says_parts}

-- Pages in hand.

-- a page on which an object has content is one of its state
content_there : (o : Objects) (rest : Rest) (page : ℕ) → is_content (record_at o) page ≡ true
    → has_page (state_of o rest) page ≡ true
unfolding is_content has_page state_of
content_there o rest page is =
    let found = in_any (λ i. has_content_in (record_at o i) page) every_object is in
    let i = found.0 in
    any_in (λ j. list_any (λ number. number == page) (page_numbers ((state_of o rest).objects j))) every_object i
    found.1 (content_on_own rest.content (slot_at o i) (list_at o.links i) (list_at o.links i) page found.2)

-- a page that is being prepared isn't fresh
not_fresh : (stage : PageStage) (core : ℕ) → state_at stage ≡ states.Preparing core → stage ≡ stages.Fresh → ⊥
not_fresh stage core is fresh =
    let wrong : states.Fresh ≡ states.Preparing core = sym (ap state_at fresh) ∙ is in cc

-- so a page that a core has in hand is one of the running state
pub page_there : (k : Cores) (accepted : List ℕ) (m : Memory) (w : World) → Runs k accepted m w
    → (core page : ℕ) → prepared_by k core ≡ Some page → has_page w.now page ≡ true
page_there k accepted m w h core page is =
    let below = h.in_range core page is in
    let stage = (h.prepares core page below).0 is in
    let content : is_content (record_at (objects_of k)) page ≡ true =
    elim (cases_Bool (is_content (record_at (objects_of k)) page)) [
      | inl has ↦ has
      | inr none ↦ absurd (not_fresh (stage_of k.rooms.pages page) core stage ((h.fresh page below).1 none))
    ] in
    subst (λ (s : State). has_page s page ≡ true) (sym h.holds.now)
    (content_there (objects_of k) h.rest page content)

-- a core has a page in hand only as its room says
pub in_room : (k : Cores) → ArePrepared k
    → ((core page : ℕ) → prepared_by k core ≡ Some page → page < PAGES)
    → (core : ℕ) → IsInRoom k (prepared_by k core)
in_room k prepared in_range core page is =
    some_due (stage_of k.rooms.pages page) core ((prepared core page (in_range core page is)).0 is)

-- The version word.

reads_same : (step : Step) (word : Word) (v : ℕ) → step ≡ steps.Store → IsOnWay step word v (reads_at step v)
    → word.cached ≡ v
reads_same steps.Store word v rest way = way.known.0
reads_same steps.Flush word v rest way = absurd (cc)
reads_same steps.Fence word v rest way = absurd (cc)

-- where no commit is under way it reads the version
pub rest_reads : (r : Rooms) (f : ℕ → Word) (v : ℕ) (c : Contents) → IsAtRest r → RoomsShow r f v c Open
    → (f VERSION_AT).cached ≡ v
rest_reads r f v c rest shows = reads_same r.committer.version (f VERSION_AT) v rest shows.version

runs_only : IsStarting Running → ⊥
runs_only is = elim is [
  | inl formats ↦ let wrong : Running ≡ Formatting = formats in cc
  | inr recovers ↦ let wrong : Running ≡ Recovering = recovers in cc
]

pub runs_seen : (laws : SeenLaws) (k : Cores) (cores : ℕ) (accepted : List ℕ) (m : Memory) (w : World)
    → Runs k accepted m w → IsSeen (work.Runs k) cores accepted m w
runs_seen laws k cores accepted m w h =
    let contents : Contents = record { saved = h.saved; objects = λ i. None; pages = h.pages } in
    let shows : RoomsShow k.rooms (word_at m) w.version contents Open = h.at_rest.shows (λ i. None) in
    record {
      left = λ left may reads.
          let says = laws.rests k.rooms (word_at m) left w.version contents Open may h.at_rest.committer shows in
          inl (says_parts left w h.saved says h.are);
      version = inl (rest_reads k.rooms (word_at m) w.version contents h.at_rest.committer shows);
      sound = h.holds.sound;
      counted = h.holds.attached.accepted;
      starting = λ is. absurd (runs_only is);
      turns = (λ none. refl, λ runs. refl);
      hands = all_hands k w cores (in_room k h.prepares h.in_range) (page_there k accepted m w h);
      home = h.home;
    }
