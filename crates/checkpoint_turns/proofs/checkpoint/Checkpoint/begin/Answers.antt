-- How a checkpoint begins.
use Rattle.std.specs.Prelude.{◌≡◌, ℕ, ◌<◌, ◌&&◌, not, true, false, List, Option, None, IfSome}
use Rattle.std.proofs.Common.{ap, sym, subst, ◌∙◌, arith}
use Rattle.pmem_model.specs.Memory.{Memory, word_at}
use Rattle.plain_state.specs.Worlds.{World}
use Rattle.plain_model.specs.Sweep.{is_swept_otherwise, swept}
use Rattle.sls_base.specs.declared.fixed.TheConstants.{SCHEDULER}
use Rattle.sls_base.specs.declared.limits.TheConstants.{PAGES}
use Rattle.link_lists.specs.Lists.{list_at}
use Rattle.plain_state.specs.Worlds.{has_page}
use Rattle.kobj_codec.specs.Objects.{IsObj}
use Rattle.kobj_table.specs.declared.objects.Objects.{Objects}
use Rattle.kobj_table.specs.Objects.{HasNoStrays, Rest, slot_at, state_of}
use Rattle.kobj_table.specs.Slots.{is_scheduler}
use Rattle.object_records.specs.Pages.{is_content}
use Rattle.object_records.specs.Ranges.{HasFixedSlots, IsSoundState}
use Rattle.object_records.specs.Records.{record_at, record_of}
use Rattle.alloc_journal.specs.Sets.{has}
use Rattle.page_store.specs.Stages.{stage_of}
use Rattle.version_rooms.specs.declared.rooms.Rooms.{Rooms}
use Rattle.saved_state.specs.Running.{AreNumbersOf, CanBeSaved}
use Rattle.leader_helper.specs.Begins.{IsToWrite}
use Rattle.leader_helper.specs.Leads.{IsWriting}
use Rattle.leader_helper.specs.Saving.{IsRunning, words_kept}
use Rattle.leader_helper.specs.Sweep.{freshened, is_zeroed_alone, is_zeroed_below}
use Rattle.core_turns.specs.declared.running.Running.{Running}
use Rattle.core_turns.specs.Runs.{Runs, objects_of}
use Rattle.checkpoint_turns.specs.Checkpoints.{contents_of}
use Rattle.checkpoint_turns.proofs.BeginRunning.{kept_same, run, with_zeros, zeros}
use Rattle.checkpoint_turns.proofs.BeginCost.{numbers_cost, objects_cost, pages_cost}
use Rattle.checkpoint_turns.proofs.BeginBefore.{before, may_begin}
use Rattle.checkpoint_turns.proofs.checkpoint.Checkpoint.begin.Goals as goal

-- What is so of the objects that are lent to the sweep is so of those that run.
SweptContent : Running → Rest → Objects → Objects → Type 0
SweptContent k rest n o =
    (page : ℕ) → IsSoundState (state_of o rest) → page < PAGES → HasFixedSlots o
    → is_content (record_at n) page
    ≡ (is_content (record_at o) page && has_page (swept (state_of o rest)) page
    && not (is_zeroed_alone (stage_of k.rooms.pages page)))

-- The objects can be saved once they are swept.
can_then : (k : Running) (accepted : List ℕ) (m : Memory) (w : World) (h : Runs k accepted m w) (n : Objects)
    → IsSoundState w.now → SweptContent k h.rest n (objects_of k)
    → CanBeSaved n h.rest (words_kept n (with_zeros k.rooms h.pages)) w
    → CanBeSaved n h.rest (words_kept n h.pages) w
unfolding SweptContent
can_then k accepted m w h n sound content can =
    subst (λ (kept : ℕ → Option (ℕ → ℕ)). CanBeSaved n h.rest kept w)
    (kept_same k accepted m w h n
    (λ page below. content page (subst IsSoundState h.holds.now sound) below h.slots)) can

runs_lent : (k : Running) (accepted : List ℕ) (m : Memory) (w : World) (h : Runs k accepted m w) (o : Objects)
    → o ≡ objects_of k → IsRunning o h.rest (with_zeros k.rooms h.pages) w
runs_lent k accepted m w h o lent =
    subst (λ (x : Objects). IsRunning x h.rest (with_zeros k.rooms h.pages) w) (sym lent) (run k accepted m w h)

-- So is the record of an object that isn't swept otherwise.
Unswept : Running → Rest → Objects → Objects → Type 0
Unswept k rest n o =
    (i : ℕ) → is_scheduler (slot_at o SCHEDULER) ≡ true → HasNoStrays o
    → is_swept_otherwise (state_of o rest) i ≡ false
    → record_at n i ≡ record_of (freshened (is_zeroed_below k.rooms PAGES) (slot_at o i)) (list_at o.links i)

pub begin-leader-requires : goal.begin-leader-requires
begin-leader-requires c =
    let k = c.args.running in
    let m = c.args.nvm.now in
    let n = c.sweep.new.objects in
    let accepted = c.requires.runs.0 in
    let w = c.requires.runs.1.world in
    let h = c.requires.runs.1.runs in
    let running = runs_lent k accepted m w h c.objects_mut.result.now c.objects_mut.ensures.value in
    let can = c.sweep.ensures.saved h.rest (with_zeros k.rooms h.pages) w running (zeros k accepted m w h) in
    record {
      records = λ id.
          subst (λ (o : Objects). IfSome (record_at o id) IsObj) (sym c.objects.ensures)
          (c.sound_objects_have_records.ensures.in_range n h.rest id can.sound
          (c.running_objects_are_parts.ensures.untold n h.rest (words_kept n (with_zeros k.rooms h.pages)) w can));
    }

pub returns-clause-before : goal.returns-clause-before
unfolding SweptContent
returns-clause-before c = λ accepted w last cores h.
    let k = c.args.running in
    let m = c.args.nvm.now in
    let n = c.sweep.new.objects in
    let lent = c.objects_mut.ensures.value in
    let sound = (c.sound_objects_have_records.ensures.sound w h.holds.sound).0 in
    let now_is : state_of n h.rest ≡ swept w.now =
    c.sweep.ensures.state h.rest (zeros k accepted m w h)
    ∙ ap (λ (o : Objects). swept (state_of o h.rest)) lent ∙ sym (ap swept h.holds.now) in
    let content : SweptContent k h.rest n (objects_of k) =
    subst (SweptContent k h.rest n) lent (c.sweep.ensures.content h.rest) in
    let can = can_then k accepted m w h n sound content
    (c.sweep.ensures.saved h.rest (with_zeros k.rooms h.pages) w
    (runs_lent k accepted m w h c.objects_mut.result.now lent) (zeros k accepted m w h)) in
    let writing = c.begin-leader.ensures.writes w.version h.saved h.pages (may_begin k accepted m w h last) in
    let numbers = c.begin-leader.ensures.numbers h.rest in
    before k accepted m w h n c.begin-leader.new.rooms c.begin-leader.result
    (ap (λ (r : Rooms). r.pages) c.begin-leader.ensures.rest) now_is cores c.begin-leader.ensures.stage
    (subst (λ (o : Objects). IsWriting c.begin-leader.result c.begin-leader.new.rooms (word_at m) w.version
    (contents_of h.saved o h.pages)) c.objects.ensures writing) can
    (subst (λ (o : Objects). AreNumbersOf (has c.begin-leader.new.rooms.numbers.running) (state_of o h.rest))
    c.objects.ensures numbers)

pub returns-clause-left : goal.returns-clause-left
unfolding Unswept
returns-clause-left c = λ accepted w last h.
    let k = c.args.running in
    let m = c.args.nvm.now in
    let n = c.sweep.new.objects in
    let r = c.begin-leader.new.rooms in
    let l = c.begin-leader.result in
    let lent = c.objects_mut.ensures.value in
    let rest_is = c.begin-leader.ensures.rest in
    let may = may_begin k accepted m w h last in
    let now_is : state_of n h.rest ≡ swept w.now =
    c.sweep.ensures.state h.rest (zeros k accepted m w h)
    ∙ ap (λ (o : Objects). swept (state_of o h.rest)) lent ∙ sym (ap swept h.holds.now) in
    let numbers = subst (λ (o : Objects). AreNumbersOf (has r.numbers.running) (state_of o h.rest))
    c.objects.ensures (c.begin-leader.ensures.numbers h.rest) in
    let exact = c.known.ensures k.rooms.numbers.work (word_at m) w.version h.saved.numbers
    (λ redo. (let both = sym h.at_rest.log ∙ redo in absurd (cc))) (h.at_rest.shows (λ i. None)).keep.numbers in
    let pages = pages_cost k accepted m w h in
    let unswept : Unswept k h.rest n (objects_of k) =
    subst (Unswept k h.rest n) lent (λ i scheduler none is. c.sweep.ensures.unswept h.rest i scheduler none is) in
    let objects = objects_cost k accepted m w h n l
    (λ i is. unswept i h.holds.scheduler h.holds.strays is)
    (λ i below is. subst (λ (o : Objects). IsToWrite (record_at o i) (h.saved.objects i)) c.objects.ensures
    ((c.begin-leader.ensures.changed w.version h.saved h.pages may i below).0 is)) in
    let turned = numbers_cost k accepted m w h n r (ap (λ (x : Rooms). x.numbers.work) rest_is) exact numbers now_is in
    let left = c.begin-leader.ensures.left w.version h.saved h.pages may in
    omega (arith, pages, objects, turned, left)
