-- The next version was committed, as the leader wrote it: the checkpoint is the world's behind its commit.
use Rattle.std.specs.Prelude.{◌≡◌, ℕ, ◌+◌, ◌<◌, ◌≤◌, true, false, Bool, List, [], length, option_map, slice_get}
use Rattle.std.specs.Prelude.{slice_index, slice_index_or, Option, Some, None, is_some}
use Rattle.std.proofs.Common.{refl, ap, sym, subst, ◌∙◌, arith, inl, inr}
use Rattle.std.proofs.lemmas.Bool.{cases_Bool, cases_lt}
use mathlib.Core.Path.{fun_ext}
use Rattle.sls_base.specs.declared.fixed.TheConstants.{FIRST_OUTPUT_RING, SCHEDULER}
use Rattle.sls_base.specs.declared.limits.TheConstants.{FRAME_WORDS, OBJECTS, OUTPUT_CHANNELS, PAGES}
use Rattle.sls_base.specs.declared.thread.Ring.{Ring}
use Rattle.pmem_model.specs.Words.{Word}
use Rattle.pmem_model.specs.Memory.{Memory, word_at, AllHome}
use Rattle.plain_state.specs.declared.label.Label.{Label}
use Rattle.plain_state.specs.declared.label.Label.TheVariants.{Commit}
use Rattle.plain_state.specs.Objects.{page_of_channel}
use Rattle.plain_state.specs.States.{State}
use Rattle.plain_state.specs.Sweep.{swept}
use Rattle.plain_state.specs.Worlds.{World, accepted_count, put_count}
use Rattle.plain_model.specs.MayStep.{MayStep}
use Rattle.plain_model.specs.Play.{commit}
use Rattle.plain_model.specs.Play as play
use Rattle.plain_laws.specs.Bounds.{HasBytes}
use Rattle.plain_laws.specs.Whole.{IsSound}
use Rattle.plain_laws.proofs.Cores.{sweep_keeps_cores}
use Rattle.kobj_codec.specs.declared.obj.Obj.{Obj}
use Rattle.kobj_table.specs.declared.objects.Objects.{Objects}
use Rattle.kobj_table.specs.declared.slot.Slot.{Slot}
use Rattle.kobj_table.specs.Objects.{Rest, slot_at, state_of}
use Rattle.kobj_table.specs.Slots.{is_scheduler}
use Rattle.object_records.specs.Pages.{is_content}
use Rattle.object_records.specs.Records.{record_at, SameBytes, state_of_records}
use Rattle.alloc_journal.specs.Sets.{has}
use Rattle.page_store.specs.declared.stage.PageStage.{PageStage}
use Rattle.page_store.specs.declared.stage.PageStage.TheVariants.{Fresh, Protected, Preparing, Writable}
use Rattle.page_store.specs.declared.stage.Origin.TheVariants.{Zeros, Copy}
use Rattle.page_store.specs.declared.stage.Writes.TheVariants.{Nothing, Stored, Flushed}
use Rattle.page_store.specs.Known.{Phase, Open}
use Rattle.page_store.specs.Shows.{PageShows, PagesShow, words_of}
use Rattle.page_store.specs.Stages.{after, stage_of}
use Rattle.durable_state.specs.Parts.{Parts}
use Rattle.version_rooms.specs.declared.rooms.Rooms.{Rooms}
use Rattle.call_readings.specs.Kernel.{CountsEntries}
use Rattle.out_gate.specs.Entries.{HasEntry}
use Rattle.saved_state.specs.State.{ArePartsOf}
use Rattle.saved_state.specs.Running.{AreNumbersOf, CanBeSaved, parts_of}
use Rattle.saved_state.proofs.Contents.{read_is_content}
use Rattle.kernel_calls.specs.Kernel.{IsJustSaved}
use Rattle.leader_helper.specs.declared.leader.Leader.{Leader}
use Rattle.leader_helper.specs.Leads.{AreNext, IsApplying}
use Rattle.leader_helper.specs.Saving.{IsRunning, words_kept}
use Rattle.leader_helper.proofs.Applies.{is_calm}
use Rattle.leader_helper.proofs.Runs.{runs}
use Rattle.core_turns.specs.Runs.{AreWaitingThere, objects_of}
use Rattle.core_turns.proofs.Content.{content_at, page_words, reads_now, same_bytes, words_in}
use Rattle.checkpoint_turns.specs.declared.checkpoint.Checkpoint.{Checkpoint}
use Rattle.checkpoint_turns.specs.Checkpoints.{IsBefore, IsBehind, NoneInHand, contents_of}

-- each label keeps a world sound
abbrev pub StaysSound : Type 0
StaysSound = (w : World) (label : Label) → MayStep w label → HasBytes label → IsSound w → IsSound (play.after w label)

-- Laws of the crates below: objects that can be saved are the parts of their state, and are what their records stand
-- for, whatever bytes the pages have that no record reads; and each label keeps a world sound.
pub record CommitLaws : Type 0 where
  pub parts : (o : Objects) (rest : Rest) (numbers : ℕ → Bool) (pages : ℕ → Option (ℕ → ℕ)) (w : World)
      → CanBeSaved o rest pages w → AreNumbersOf numbers (state_of o rest)
      → ArePartsOf w.base (accepted_count w) (parts_of o numbers pages (state_of o rest)) (state_of o rest)
  pub of_records : (o : Objects) (rest : Rest) → is_scheduler (slot_at o SCHEDULER) ≡ true
      → state_of o rest ≡ state_of_records (record_at o) rest
  pub zeros : (records : ℕ → Option Obj) (rest : Rest) (content : ℕ → ℕ → ℕ)
      → ((i : ℕ) (obj : Obj) → records i ≡ Some obj → SameBytes rest.content content obj)
      → state_of_records records (record rest { content = content }) ≡ state_of_records records rest
  pub kept : StaysSound

-- the rings of the channels are counted
abbrev pub CountsRings : Objects → List ℕ → Type 0
CountsRings o counts = (channel : ℕ) (ring : Ring) → channel < OUTPUT_CHANNELS
    → slot_at o (FIRST_OUTPUT_RING + channel) ≡ Slot.Ring ring → slice_index counts channel ≡ ring.count

-- whatever is left out of the pages of what was written, it is committed
abbrev pub CommitsWritten : Checkpoint → Parts → (ℕ → Option (ℕ → ℕ)) → ℕ → Leader → Rooms → Memory → Type 0
CommitsWritten c saved pages version leader rooms next =
    (parts : Parts) → AreNext c.running.rooms (contents_of saved (objects_of c.running) pages) parts
    → IsApplying leader rooms (word_at next) (version + 1) parts pages

-- Words of pages.

kept_is : (o : Objects) (pages : ℕ → Option (ℕ → ℕ)) (page : ℕ) → is_content (record_at o) page ≡ true
    → words_kept o pages page ≡ pages page
kept_is o pages page is = rw is refl

kept_none : (o : Objects) (pages : ℕ → Option (ℕ → ℕ)) (page : ℕ) → is_content (record_at o) page ≡ false
    → words_kept o pages page ≡ None
kept_none o pages page none = rw none refl

-- a page that has words isn't fresh
not_fresh : (stage : PageStage) (f : ℕ → Word) (v page : ℕ) (saved now : Option (ℕ → ℕ)) (phase : Phase)
    → PageShows stage f v page saved now phase → is_some now ≡ true → stage ≡ Fresh → ⊥
not_fresh stage f v page saved now phase shows some fresh =
    let at = subst (λ (s : PageStage). PageShows s f v page saved now phase) fresh shows in
    let none : now ≡ None = at.holds.1 in
    let no : true ≡ false = sym some ∙ ap is_some none in cc

after_twice : (stage : PageStage) → after (after stage) ≡ after stage
after_twice Fresh = refl
after_twice Protected = refl
after_twice (Preparing core step) = refl
after_twice (Writable Zeros Nothing) = refl
after_twice (Writable Zeros Stored) = refl
after_twice (Writable Zeros Flushed) = refl
after_twice (Writable Copy writes) = refl

-- Rings count alike where as much was put.
pub counts_alike : (slot : Slot) (a b : World) → ((channel : ℕ) → put_count a channel ≡ put_count b channel)
    → CountsEntries slot a → CountsEntries slot b
counts_alike (Slot.Ring ring) a b same is = (is.0, λ other. is.1 other ∙ same ring.channel)
counts_alike Slot.Empty a b same is = is
counts_alike (Slot.Group group) a b same is = is
counts_alike (Slot.Thread thread) a b same is = is
counts_alike (Slot.Space space) a b same is = is
counts_alike (Slot.Memory memory) a b same is = is
counts_alike (Slot.Connection connection) a b same is = is
counts_alike (Slot.Notification note) a b same is = is
counts_alike (Slot.Scheduler cores) a b same is = is

module _ (c : Checkpoint) (accepted : List ℕ) (m : Memory) (w : World) (h : IsBefore c accepted m w) where
  pub out_same : w.now.out ≡ h.rest.out
  unfolding state_of
  out_same = ap (λ (s : State). s.out) (sym h.now)

  pub inputs_same : c.running.calls.inputs ≡ h.rest.inputs
  unfolding state_of
  inputs_same = h.devices.inputs ∙ ap (λ (s : State). s.inputs) (sym h.now)

  -- The objects run as the world behind the commit.

  module _ (stays : StaysSound) where
    pub sound_then : IsSound (commit w)
    sound_then = stays w Commit h.writing.in_range tt h.sound

    can_then : CanBeSaved (objects_of c.running) h.rest (words_kept (objects_of c.running) h.pages) (commit w)
    can_then = record {
      sound = h.can.sound;
      swept = h.can.swept;
      slots = h.can.slots;
      strays = h.can.strays;
      words = h.can.words;
      rings = λ id. counts_alike (slot_at (objects_of c.running) id)
          (record w { now = state_of (objects_of c.running) h.rest })
          (record (commit w) { now = state_of (objects_of c.running) h.rest }) (λ channel. refl) (h.can.rings id);
      room = record { accepted = h.can.room.accepted; ring = h.can.room.ring; count = h.can.room.count };
      entries = h.can.entries;
      channels = h.can.channels;
    }

    pub run_then : IsRunning (objects_of c.running) h.rest (words_kept (objects_of c.running) h.pages) (commit w)
    run_then =
        runs (objects_of c.running) h.rest (words_kept (objects_of c.running) h.pages) (commit w) sound_then
        (sym h.now) can_then

    pub waiting_then : AreWaitingThere (objects_of c.running) (commit w)
    waiting_then channel below waits =
        run_then.waiting channel below
        (subst (λ (out : ℕ → List (List ℕ)). length (w.released channel) < length (out channel)) out_same waits)

    pub counts_then : (counts : List ℕ) → CountsRings (objects_of c.running) counts → (channel : ℕ)
        → channel < OUTPUT_CHANNELS → slice_index counts channel ≡ w.base channel + length (w.now.out channel)
    counts_then counts counted channel below =
        let ring = h.can.slots.outputs channel below in
        let told =
        subst (λ (slot : Slot). CountsEntries slot (commit w)) ring.is (run_then.rings (FIRST_OUTPUT_RING + channel)) in
        counted channel _ below ring.is ∙ told.1 (λ e. absurd (omega (arith, e, below)))

module _ (c : Checkpoint) (accepted : List ℕ) (m : Memory) (w : World) (h : IsBefore c accepted m w)
    (cores : length w.now.cores ≡ length w.saved.cores) (laws : CommitLaws) where
  abbrev o : Objects
  o = objects_of c.running

  abbrev numbers : ℕ → Bool
  numbers = has c.running.rooms.numbers.running

  abbrev kept : ℕ → Option (ℕ → ℕ)
  kept = words_kept o h.pages

  -- the parts of the next version
  abbrev parts : Parts
  parts = parts_of o numbers kept (swept w.now)

  are_next : AreNext c.running.rooms (contents_of h.saved o h.pages) parts
  are_next = record {
    cores = sweep_keeps_cores w.now ∙ (cores ∙ h.are.cores);
    numbers = refl;
    objects = refl;
    pages = λ page below. elim (cases_Bool (is_content (record_at o) page)) [
      | inl is ↦ inl (kept_is o h.pages page is)
      | inr none ↦ inr (kept_none o h.pages page none)
    ];
  }

  are_parts : ArePartsOf w.base (accepted_count w) parts (swept w.now)
  are_parts =
      subst (λ (s : State). ArePartsOf w.base (accepted_count w) (parts_of o numbers kept s) s) h.now
      (laws.parts o h.rest numbers kept w h.can (subst (AreNumbersOf numbers) (sym h.now) h.numbers))

  abbrev running : IsRunning o h.rest kept (commit w)
  running = run_then c accepted m w h laws.kept

  -- Some page of no content may read otherwise than before.

  module _ (leader : Leader) (rooms : Rooms) (next : Memory)
      (commits : CommitsWritten c h.saved h.pages w.version leader rooms next) where
    applying : IsApplying leader rooms (word_at next) (w.version + 1) parts h.pages
    applying = commits parts are_next

    pages_show : PagesShow rooms.pages (word_at next) (w.version + 1) kept h.pages Open
    pages_show = ((is_calm applying).1 (λ i. None)).keep.pages

    has_words : (page : ℕ) → page < PAGES → is_content (record_at o) page ≡ true → is_some (h.pages page) ≡ true
    has_words page below is = ap is_some (sym (kept_is o h.pages page is)) ∙ (h.can.words.told.each page below ∙ is)

    words_are : (page : ℕ) → page < PAGES → is_content (record_at o) page ≡ true → (j : ℕ) → j < FRAME_WORDS
        → words_in (word_at next) page j ≡ words_of (kept page) j
    words_are page below is j inside =
        let shows = pages_show.each page below in
        let stage = stage_of rooms.pages page in
        let stale = not_fresh stage (word_at next) (w.version + 1) page (kept page) (h.pages page) Open shows
        (has_words page below is) in
        page_words stage (word_at next) (w.version + 1) page (kept page) (h.pages page) Open j stale inside shows
        ∙ ap (λ (words : Option (ℕ → ℕ)). words_of words j) (sym (kept_is o h.pages page is))

    content_same : (page offset : ℕ) → is_content (record_at o) page ≡ true
        → content_at next page offset ≡ h.rest.content page offset
    content_same page offset is =
        same_bytes (words_in (word_at next) page) (words_of (kept page)) page offset
        (λ below j inside. words_are page below is j inside)
        ∙ h.can.words.agree page offset is

    record_below : (i : ℕ) (obj : Obj) → record_at o i ≡ Some obj → i < OBJECTS
    record_below i obj is = elim (cases_lt i OBJECTS) [
      | inl below ↦ below
      | inr past ↦ (let none : record_at o i ≡ None = are_parts.none i past in absurd (cc))
    ]

    read_same : (i : ℕ) (obj : Obj) → record_at o i ≡ Some obj → SameBytes h.rest.content (content_at next) obj
    read_same i obj is page offset reads =
        content_same page offset (read_is_content (record_at o) i obj page (record_below i obj is) is reads)

    scheduler : is_scheduler (slot_at o SCHEDULER) ≡ true
    scheduler = ap is_scheduler h.can.slots.scheduler

    -- what there is of the state beside the objects, with the bytes that the memory has now
    abbrev rest_then : Rest
    rest_then = record h.rest { content = content_at next }

    state_same : state_of o rest_then ≡ state_of o h.rest
    state_same =
        laws.of_records o rest_then scheduler ∙ laws.zeros (record_at o) h.rest (content_at next) read_same
        ∙ sym (laws.of_records o h.rest scheduler)

    entries_then : (channel i : ℕ) → channel < OUTPUT_CHANNELS → length (w.released channel) ≤ i
        → i < length (h.rest.out channel)
        → HasEntry (content_at next (page_of_channel channel)) (w.base channel + i)
        (slice_index_or (h.rest.out channel) i [])
    entries_then channel i below from inside =
        let is = running.waiting channel below (omega (arith, from, inside)) in
        let bytes : content_at next (page_of_channel channel) ≡ h.rest.content (page_of_channel channel) =
        fun_ext (λ offset. content_same (page_of_channel channel) offset is) in
        subst (λ (byte : ℕ → ℕ). HasEntry byte (w.base channel + i) (slice_index_or (h.rest.out channel) i []))
        (sym bytes) (running.entries channel i below from inside)

    just_saved : IsJustSaved o c.running.calls.inputs accepted next rest_then (commit w)
    just_saved = record {
      now = sym h.now ∙ sym state_same;
      saved = λ id. refl;
      sound = sound_then c accepted m w h laws.kept;
      attached = record {
        rings = running.rings;
        accepted = h.devices.accepted_are;
        input = ap (λ (inputs : List (List ℕ)). option_map length (slice_get inputs 0)) h.devices.inputs;
      };
      inputs = inputs_same c accepted m w h;
      content = reads_now next;
      entries = entries_then;
      scheduler = scheduler;
      strays = h.can.strays;
    }

    pub commits_next : NoneInHand c
        → ((page : ℕ) → page < PAGES → stage_of rooms.pages page ≡ after (stage_of c.running.rooms.pages page))
        → AllHome next → (counts : List ℕ) → CountsRings o counts → (spared : ℕ) → IsBehind (record {
          running = record c.running { rooms = rooms; saved = counts };
          leader = leader;
          spared = spared;
        }) accepted next (commit w)
    commits_next free stages home counts counted spared = record {
      rest = rest_then;
      just = just_saved;
      unchanged = λ id. refl;
      saved = parts;
      pages = h.pages;
      are = are_parts;
      applying = applying;
      objects = λ id. refl;
      slots = h.can.slots;
      stages = λ page below. ap after (stages page below) ∙ (after_twice _ ∙ sym (stages page below));
      waiting = waiting_then c accepted m w h laws.kept;
      counts = counts_then c accepted m w h laws.kept counts counted;
      none = free;
      home = home;
    }
