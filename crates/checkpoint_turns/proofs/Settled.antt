-- A checkpoint outlives whatever stores nothing, or this commits what the leader wrote.
use Rattle.std.specs.Prelude.{◌≡◌, ◌≢◌, ℕ, ◌+◌, ◌/◌, ◌%◌, ◌<◌, List, Option, Some, None}
use Rattle.std.proofs.Common.{refl, ap, sym, subst, ◌∙◌, arith}
use Rattle.sls_base.specs.declared.limits.TheConstants.{PAGES, VERSION_AT}
use Rattle.pmem_model.specs.Words.{Word}
use Rattle.pmem_model.specs.Events.{IsCalm}
use Rattle.pmem_model.specs.Memory.{Memory, word_at, AllHome, SameHomes}
use Rattle.pmem_layout.specs.Places.{frame_at, runtime_frame}
use Rattle.plain_state.specs.Worlds.{World}
use Rattle.plain_model.specs.Play.{commit}
use Rattle.page_store.specs.Known.{Phase}
use Rattle.page_store.specs.Stages.{after, stage_of}
use Rattle.durable_state.specs.Parts.{Parts}
use Rattle.version_rooms.specs.declared.rooms.Rooms.{Rooms}
use Rattle.version_rooms.specs.Rooms.{Contents, IsAtRest, RoomsShow}
use Rattle.call_readings.specs.declared.content.TheConstants.{WORD_BYTES}
use Rattle.call_readings.specs.Content.{byte_of, Reads}
use Rattle.leader_helper.specs.declared.leader.Leader.{Leader}
use Rattle.leader_helper.specs.declared.stage.Stage.TheVariants as at
use Rattle.leader_helper.specs.Leads.{AreNext, IsApplying, IsWriting}
use Rattle.leader_helper.specs.Stages.{page_phase}
use Rattle.leader_helper.specs.Turns as leader_turns
use Rattle.leader_helper.proofs.Applies.{is_calm}
use Rattle.core_turns.specs.Runs.{objects_of, prepared_by}
use Rattle.checkpoint_turns.specs.declared.checkpoint.Checkpoint.{Checkpoint}
use Rattle.checkpoint_turns.specs.Checkpoints.{Before, Behind, IsBefore, IsBehind, IsOf, NoneInHand, contents_of}
use Rattle.checkpoint_turns.specs.Steps.{CommitsBack}
use Rattle.checkpoint_turns.proofs.CommitsNext.{CommitLaws, CountsRings, commits_next}

-- the checkpoint with another leader and other rooms
abbrev pub led_by : Checkpoint → Leader → Rooms → Checkpoint
led_by c leader rooms = record c { running = record c.running { rooms = rooms }; leader = leader }

pub led_the_same : (c : Checkpoint) (leader : Leader) (rooms : Rooms) → leader ≡ c.leader → rooms ≡ c.running.rooms
    → led_by c leader rooms ≡ c
led_the_same c leader rooms same rest =
    ap (λ (l : Leader). led_by c l rooms) same ∙ ap (λ (r : Rooms). led_by c c.leader r) rest

-- the version that the rooms say
pub version_shown : {l : Leader} {r : Rooms} {f : ℕ → Word} {v : ℕ} {c : Contents} → IsWriting l r f v c
    → (f VERSION_AT).durable ≡ v
version_shown h = h.shows.version.durable

pub version_applied : (c : Checkpoint) (accepted : List ℕ) (m : Memory) (w : World) → IsBehind c accepted m w
    → (word_at m VERSION_AT).durable ≡ w.version
version_applied c accepted m w h = ((is_calm h.applying).1 (λ i. None)).version.durable

pub version_of : (c : Checkpoint) (accepted : List ℕ) (m : Memory) (w : World) → IsOf c accepted m w
    → (word_at m VERSION_AT).durable ≡ w.version
version_of c accepted m w (Before h) = version_shown h.writing
version_of c accepted m w (Behind h) = version_applied c accepted m w h

module _ (old new : Memory) (calm : IsCalm (word_at old) (word_at new)) (homes : SameHomes old new) where
  still_reads : (content : ℕ → ℕ → ℕ) → Reads content old → Reads content new
  still_reads content h = record {
    home = λ page offset below inside at_home. (
        let word = frame_at (runtime_frame page) + offset / WORD_BYTES in
        h.home page offset below inside (sym (homes (1 + runtime_frame page)) ∙ at_home)
        ∙ ap (λ (x : ℕ). byte_of x (offset % WORD_BYTES)) (sym (calm.at word).cached)
        );
    end = h.end;
    none = h.none;
  }

  pub still_home : AllHome old → AllHome new
  still_home home bank below = homes bank ∙ home bank below

  module _ (c : Checkpoint) (accepted : List ℕ) (w : World) where
    still_before : (h : IsBefore c accepted old w)
        → IsWriting c.leader c.running.rooms (word_at new) w.version
        (contents_of h.saved (objects_of c.running) h.pages)
        → IsBefore c accepted new w
    still_before h writing = record {
      sound = h.sound;
      cores = h.cores;
      rest = h.rest;
      now = h.now;
      content = still_reads h.rest.content h.content;
      saved = h.saved;
      pages = h.pages;
      are = h.are;
      writing = writing;
      can = h.can;
      numbers = h.numbers;
      devices = h.devices;
      in_hand = h.in_hand;
      spared = h.spared;
      home = still_home h.home;
    }

    still_behind : (h : IsBehind c accepted old w)
        → IsApplying c.leader c.running.rooms (word_at new) w.version h.saved h.pages
        → IsBehind c accepted new w
    still_behind h applying = record {
      rest = h.rest;
      just = record {
        now = h.just.now;
        saved = h.just.saved;
        sound = h.just.sound;
        attached = h.just.attached;
        inputs = h.just.inputs;
        content = still_reads h.rest.content h.just.content;
        entries = h.just.entries;
        scheduler = h.just.scheduler;
        strays = h.just.strays;
      };
      unchanged = h.unchanged;
      saved = h.saved;
      pages = h.pages;
      are = h.are;
      applying = applying;
      objects = h.objects;
      slots = h.slots;
      stages = h.stages;
      waiting = h.waiting;
      counts = h.counts;
      none = h.none;
      home = still_home h.home;
    }

    -- The leader and the rooms are as they were, and say the same.
    module _ (leader : Leader) (rooms : Rooms) (same : leader ≡ c.leader) (rest : rooms ≡ c.running.rooms) where
      pub stays_before : (h : IsBefore c accepted old w)
          → IsWriting leader rooms (word_at new) w.version (contents_of h.saved (objects_of c.running) h.pages)
          → IsOf (led_by c leader rooms) accepted new w
      stays_before h writing =
          let contents = contents_of h.saved (objects_of c.running) h.pages in
          let mine = subst (λ (l : Leader). IsWriting l rooms (word_at new) w.version contents) same writing in
          let ours = subst (λ (r : Rooms). IsWriting c.leader r (word_at new) w.version contents) rest mine in
          subst (λ (x : Checkpoint). IsOf x accepted new w) (sym (led_the_same c leader rooms same rest))
          (Before (still_before h ours))

      pub stays_behind : (h : IsBehind c accepted old w)
          → IsApplying leader rooms (word_at new) w.version h.saved h.pages
          → IsOf (led_by c leader rooms) accepted new w
      stays_behind h applying =
          let mine = subst (λ (l : Leader). IsApplying l rooms (word_at new) w.version h.saved h.pages) same applying in
          let ours = subst (λ (r : Rooms). IsApplying c.leader r (word_at new) w.version h.saved h.pages) rest mine in
          subst (λ (x : Checkpoint). IsOf x accepted new w) (sym (led_the_same c leader rooms same rest))
          (Behind (still_behind h ours))

  -- While the leader gathers nothing commits: so no core had a page in hand where something did.
  module _ (c : Checkpoint) (accepted : List ℕ) (w : World) (h : IsBefore c accepted old w)
      (law : (r : Rooms) (f g : ℕ → Word) (v : ℕ) (c : Contents) (phase : Phase) → IsAtRest r → IsCalm f g
      → RoomsShow r f v c phase → RoomsShow r g v c phase)
      (other : (word_at new VERSION_AT).durable ≢ w.version) where
    not_gathering : c.leader.stage ≡ at.Gather → ⊥
    not_gathering gathers =
        let rests = h.writing.rest (λ e. (let no : at.Gather ≡ at.Commit = sym gathers ∙ e in cc)) in
        let shows =
        law c.running.rooms (word_at old) (word_at new) w.version
        (contents_of h.saved (objects_of c.running) h.pages) (page_phase c.leader.stage) rests calm h.writing.shows in
        other shows.version.durable

    pub none_in_hand : NoneInHand c
    none_in_hand core = by (prepared_by c.running core) refl
      where
        by : (hand : Option ℕ) → prepared_by c.running core ≡ hand → prepared_by c.running core ≡ None
        by None e = e
        by (Some page) e = absurd (not_gathering (h.in_hand.gather core page e))

-- the version of the rooms behind a commit
pub version_behind : {l : Leader} {r : Rooms} {f : ℕ → Word} {v version : ℕ} {saved : Parts}
    {pages : ℕ → Option (ℕ → ℕ)} → IsApplying l r f v saved pages → version ≡ r.numbers.work.version → version ≡ v
version_behind {l} {r} {f} {v} {version} {saved} {pages} h is =
    is ∙ ((is_calm h).1 (λ i. None)).keep.numbers.version_is

turns_spared : (old new spared none : ℕ) → old ≡ new + spared → none ≡ 0 → new + spared ≡ old + none
turns_spared old new spared none left zero = omega (arith, left, zero)

-- the checkpoint behind a commit
abbrev pub committed_by : Checkpoint → Leader → Rooms → List ℕ → ℕ → Checkpoint
committed_by c leader rooms counts spared = record {
  running = record c.running { rooms = rooms; saved = counts };
  leader = leader;
  spared = spared;
}

module _ (c : Checkpoint) (accepted : List ℕ) (m next : Memory) (w : World) (h : IsBefore c accepted m w)
    (leader : Leader) (rooms : Rooms) (counts : List ℕ) (spared version : ℕ) where
  commits_back : version ≡ w.version + 1 → NoneInHand c
      → leader_turns.turns_left c.leader c.running.rooms ≡ leader_turns.turns_left leader rooms + spared
      → IsBehind (committed_by c leader rooms counts spared) accepted next (commit w)
      → CommitsBack c accepted m w version (committed_by c leader rooms counts spared) next
  commits_back is free left behind = record {
    committed = record { was = h; version_is = is; is_behind = behind };
    free = free;
    prepares = refl;
    left = turns_spared _ _ spared c.spared left h.spared;
  }

-- What the leader tells where an event committed, and spared it so many turns.
pub record TellsCommit (c : Checkpoint) (g : ℕ → Word) (leader : Leader) (rooms : Rooms) (spared : ℕ) : Type 0 where
  pub commits : (f : ℕ → Word) (v : ℕ) (written : Contents) → IsCalm f g
      → IsWriting c.leader c.running.rooms f v written → (parts : Parts) → AreNext c.running.rooms written parts
      → IsApplying leader rooms g (v + 1) parts written.pages
  pub other : (f : ℕ → Word) (v : ℕ) (written : Contents) → IsCalm f g
      → IsWriting c.leader c.running.rooms f v written → (g VERSION_AT).durable ≢ v
  pub never : (f : ℕ → Word) (v : ℕ) (saved : Parts) (pages : ℕ → Option (ℕ → ℕ)) → IsCalm f g
      → IsApplying c.leader c.running.rooms f v saved pages → ⊥
  pub left : (f : ℕ → Word) (v : ℕ) (written : Contents) → IsCalm f g
      → IsWriting c.leader c.running.rooms f v written
      → leader_turns.turns_left c.leader c.running.rooms ≡ leader_turns.turns_left leader rooms + spared
  pub stages : (f : ℕ → Word) (v : ℕ) (written : Contents) → IsCalm f g
      → IsWriting c.leader c.running.rooms f v written
      → (page : ℕ) → page < PAGES → stage_of rooms.pages page ≡ after (stage_of c.running.rooms.pages page)

module _ (c : Checkpoint) (accepted : List ℕ) (m next : Memory) (w : World) (calm : IsCalm (word_at m) (word_at next))
    (homes : SameHomes m next) (leader : Leader) (rooms : Rooms) (spared : ℕ)
    (told : TellsCommit c (word_at next) leader rooms spared) where
  pub other_version : IsOf c accepted m w → (word_at next VERSION_AT).durable ≢ w.version
  other_version (Before h) =
      told.other (word_at m) w.version (contents_of h.saved (objects_of c.running) h.pages) calm h.writing
  other_version (Behind h) = absurd (told.never (word_at m) w.version h.saved h.pages calm h.applying)

  module _ (law : (r : Rooms) (f g : ℕ → Word) (v : ℕ) (c : Contents) (phase : Phase) → IsAtRest r → IsCalm f g
      → RoomsShow r f v c phase → RoomsShow r g v c phase) (laws : CommitLaws) (counts : List ℕ)
      (counted : CountsRings (objects_of c.running) counts) (version : ℕ)
      (is : version ≡ rooms.numbers.work.version) where
    commits_before : (h : IsBefore c accepted m w)
        → CommitsBack c accepted m w version (committed_by c leader rooms counts spared) next
    commits_before h =
        let written = contents_of h.saved (objects_of c.running) h.pages in
        let commits = told.commits (word_at m) w.version written calm h.writing in
        let other = told.other (word_at m) w.version written calm h.writing in
        let free = none_in_hand m next calm homes c accepted w h law other in
        let behind =
        commits_next c accepted m w h h.cores laws leader rooms next commits free
        (told.stages (word_at m) w.version written calm h.writing) (still_home m next calm homes h.home) counts counted
        spared in
        commits_back c accepted m next w h leader rooms counts spared version
        (version_behind behind.applying is) free (told.left (word_at m) w.version written calm h.writing) behind

    pub commits_of : IsOf c accepted m w
        → CommitsBack c accepted m w version (committed_by c leader rooms counts spared) next
    commits_of (Before h) = commits_before h
    commits_of (Behind h) = absurd (told.never (word_at m) w.version h.saved h.pages calm h.applying)

-- What the leader tells where nothing was committed.
pub record TellsNone (c : Checkpoint) (g : ℕ → Word) (leader : Leader) (rooms : Rooms) : Type 0 where
  pub same : leader ≡ c.leader
  pub rest : rooms ≡ c.running.rooms
  pub writes : (f : ℕ → Word) (v : ℕ) (written : Contents) → IsCalm f g
      → IsWriting c.leader c.running.rooms f v written → IsWriting leader rooms g v written
  pub applies : (f : ℕ → Word) (v : ℕ) (saved : Parts) (pages : ℕ → Option (ℕ → ℕ)) → IsCalm f g
      → IsApplying c.leader c.running.rooms f v saved pages → IsApplying leader rooms g v saved pages

module _ (c : Checkpoint) (accepted : List ℕ) (m next : Memory) (w : World) (calm : IsCalm (word_at m) (word_at next))
    (homes : SameHomes m next) (leader : Leader) (rooms : Rooms)
    (told : TellsNone c (word_at next) leader rooms) where
  pub stays_of : IsOf c accepted m w → IsOf (led_by c leader rooms) accepted next w
  stays_of (Before h) =
      let written = contents_of h.saved (objects_of c.running) h.pages in
      stays_before m next calm homes c accepted w leader rooms told.same told.rest h
      (told.writes (word_at m) w.version written calm h.writing)
  stays_of (Behind h) =
      stays_behind m next calm homes c accepted w leader rooms told.same told.rest h
      (told.applies (word_at m) w.version h.saved h.pages calm h.applying)

  pub same_version : IsOf c accepted m w → (word_at next VERSION_AT).durable ≡ w.version
  same_version h = version_of (led_by c leader rooms) accepted next w (stays_of h)
