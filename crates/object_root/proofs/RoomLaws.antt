-- What stands, and what outlives each event.
use Rattle.std.proofs.Common.{◌≡◌, ◌≢◌, ◌⊎◌, inl, inr, ⊎_elim, ℕ, ◌+◌, ◌-◌, ◌*◌, ◌<◌, ◌≤◌, ◌==◌, ◌&&◌, true, false, Option, Some, None, subst, sym, ap, ◌∙◌, refl, arith, if◌then◌else◌}
use Rattle.std.proofs.lemmas.Bool.{cases_Bool, cond_both}
use Rattle.std.proofs.lemmas.Bool.Decides.{nat_tests}
use Rattle.sls_base.specs.declared.limits.TheConstants.{OBJECTS}
use Rattle.pmem_model.specs.Words.{Word}
use Rattle.pmem_model.specs.Events.{Kind, Any, Cached, Clean, Over, ReadyOver, WordIs, WordFenced, settled, IsCut, fence_word, cut_left}
use Rattle.pmem_model.specs.Maps.{One, IsKnown, IsLeft, AllPlaces, with_kinds, Gives, known_calm_in, known_fenced_in, known_left_in, gives_same, gives_any, clean_gives}
use Rattle.pmem_layout.specs.declared.places.TheConstants.{SLOTS, SLOT_WORDS}
use Rattle.pmem_layout.specs.Places.{object_tag_at, object_slot_at}
use Rattle.pmem_layout.specs.Owners.{Objects, owner}
use Rattle.object_root.proofs.Owners.{owner_object_tag, owner_object_slot}
use Rattle.pmem_layout.specs.Rooms.{SameIn, CalmIn, FencedIn, LeftIn}
use Rattle.object_root.proofs.Owners.{fence_is_calm}
use Rattle.kobj_codec.specs.declared.obj.Obj.{Obj}
use Rattle.kobj_codec.specs.Objects.{IsObj}
use Rattle.kobj_codec.specs.Records.{IsRecord, word_behind}
use Rattle.object_root.specs.declared.slot.Slot.{Slot}
use Rattle.object_root.specs.declared.stage.Stage.{Stage}
use Rattle.object_root.specs.declared.stage.Stage.TheVariants.{Idle, Stored, Flushed, TagStored, TagFlushed}
use Rattle.object_root.specs.declared.stage.Phase.{Phase}
use Rattle.object_root.specs.declared.stage.Phase.TheVariants.{Clearing, Cleared, Records, Tags, Tagged}
use Rattle.sls_base.specs.declared.fixed.TheConstants.{LEADER}
use Rattle.object_root.specs.Format.{IsChosen, HasObject, ObjectStands, ObjectsStand}
use Rattle.object_root.specs.Room.{Room, stage_at, AllIdle, Passes}
use Rattle.object_root.specs.Steps.{fenced}
use Rattle.object_root.specs.Shows.{slot_kind, tag_kind, tag_value, IsFree, record_word, record_map, object_map, IsSaved, IsNext, ObjectShows, AreClean, is_above, is_seen, clear_kind, tag_map, clear_map, ObjectsClear, EachShows, ShowsIn, ObjectsShow, IsSettled, AllSettled}

-- The format: one slot is chosen, and one object has it; and what stands is read in the words of the objects alone.

pub same_or_not : (i k : ℕ) → (i ≡ k) ⊎ (i ≢ k)
same_or_not i k = grind arith

pub chosen_only : (words : ℕ → ℕ) (v id a b : ℕ) → IsChosen words v id a → IsChosen words v id b → a ≡ b
chosen_only words v id a b h k =
    elim (same_or_not a b) [
      | inl same ↦ same
      | inr ne ↦
          let p : h.other ≡ b = omega (arith, h.slots, k.slots) in
          let q : k.other ≡ a = omega (arith, h.slots, k.slots) in
          let x = subst (λ (t : ℕ). (words (object_tag_at id t) < words (object_tag_at id a))
          ⊎ (v + 1 < words (object_tag_at id t))) p h.greatest in
          let y = subst (λ (t : ℕ). (words (object_tag_at id t) < words (object_tag_at id b))
          ⊎ (v + 1 < words (object_tag_at id t))) q k.greatest in
          absurd (elim x [
            | inl lower ↦ elim y [ inl higher ↦ omega (arith, lower, higher) | inr up ↦ omega (arith, up, h.not_above) ]
            | inr up ↦ omega (arith, up, k.not_above)
          ])
    ]

pub object_only : ((words : ℕ → ℕ) (a b : Obj) → IsObj a → IsObj b → IsRecord words a → IsRecord words b → a ≡ b)
    → (words : ℕ → ℕ) (v id : ℕ) (o p : Obj) → HasObject words v id o → HasObject words v id p → o ≡ p
object_only one words v id o p h k =
    let same = chosen_only words v id h.slot k.slot h.chosen k.chosen in
    one (λ j. words (object_slot_at id h.slot + j)) o p h.in_range k.in_range h.record_is
    (subst (λ (s : ℕ). IsRecord (λ j. words (object_slot_at id s + j)) p) (sym same) k.record_is)

-- a record word by word
word_behind_of : (o : Obj) (i : ℕ) → record_word o (i + 1) ≡ word_behind o i
word_behind_of o i =
    let off : (i + 1 == 0) ≡ false = grind (arith, nat_tests) in
    let less : i + 1 - 1 ≡ i = omega arith in
    rw (off, less) refl

pub record_of : (words : ℕ → ℕ) (o : Obj) → ((j : ℕ) → j < SLOT_WORDS → words j ≡ record_word o j) → IsRecord words o
record_of words o h = record { head = h 0 (omega arith); behind = λ i lt. h (i + 1) lt ∙ word_behind_of o i }

pub record_words : (words : ℕ → ℕ) (o : Obj) → IsRecord words o → (j : ℕ) → j < SLOT_WORDS → words j ≡ record_word o j
record_words words o h j lt =
    elim (same_or_not j 0) [
      | inl same ↦ subst (λ (k : ℕ). words k ≡ record_word o k) (sym same) h.head
      | inr ne ↦
          let i : j - 1 + 1 ≡ j = omega arith in
          subst (λ (k : ℕ). words k ≡ record_word o k) i
          (h.behind (j - 1) (omega arith) ∙ sym (word_behind_of o (j - 1)))
    ]

-- Words differ from others in tags above the version alone, which are 0 in place of them.
pub record Clears (a b : ℕ → ℕ) (v id : ℕ) : Type 0 where
  pub tags : (slot : ℕ) → slot < SLOTS → (b (object_tag_at id slot) ≡ a (object_tag_at id slot))
      ⊎ ((v + 1 < a (object_tag_at id slot)) × (b (object_tag_at id slot) ≡ 0))
  pub words : (slot j : ℕ) → slot < SLOTS → j < SLOT_WORDS
      → b (object_slot_at id slot + j) ≡ a (object_slot_at id slot + j)

pub still_stands : (a b : ℕ → ℕ) (v id : ℕ) (o : Option Obj) → Clears a b v id → ObjectStands a v id o
    → ObjectStands b v id o
still_stands a b v id None c h = tt
still_stands a b v id (Some o) c h =
    let k = h.chosen in
    let mine : b (object_tag_at id h.slot) ≡ a (object_tag_at id h.slot) = elim
    (c.tags h.slot (omega (arith, k.slots))) [
      | inl same ↦ same
      | inr gone ↦ absurd (omega (arith, gone.0, k.not_above))
    ] in
    let tagged = k.tagged in
    record {
      slot = h.slot;
      chosen = record {
        other = k.other;
        slots = k.slots;
        tagged = omega (arith, mine, tagged);
        not_above = omega (arith, mine, k.not_above);
        greatest = elim (c.tags k.other (omega (arith, k.slots))) [
          | inl same ↦ elim k.greatest [
            | inl lower ↦ inl (omega (arith, lower, mine, same))
            | inr up ↦ inr (omega (arith, up, same))
          ]
          | inr gone ↦ inl (omega (arith, gone.1, mine, tagged))
        ];
      };
      in_range = h.in_range;
      record_is = record {
        head = c.words h.slot 0 (omega (arith, k.slots)) (omega arith) ∙ h.record_is.head;
        behind = λ i lt. c.words h.slot (i + 1) (omega (arith, k.slots)) lt ∙ h.record_is.behind i lt;
      };
    }

pub objects_same : {a b : ℕ → ℕ} {v : ℕ} {objects : ℕ → Option Obj} → SameIn Objects a b → ObjectsStand a v objects
    → ObjectsStand b v objects
objects_same {a} {b} {v} {objects} same h = record {
  each = λ id lt. still_stands a b v id (objects id) (record {
    tags = λ slot s. inl (same.at (object_tag_at id slot) (owner_object_tag id slot lt s));
    words = λ slot j s l. same.at (object_slot_at id slot + j) (owner_object_slot id slot j lt s l);
  }) (h.each id lt);
}

-- Maps of an object's words.

-- what holds of both tags of an object and of all words of its slots holds at each place of its map
pub record_places : (P : ℕ → Type 0) (id slot : ℕ) (k : Kind) (o : Option Obj)
    → ((j : ℕ) → j < SLOT_WORDS → P (object_slot_at id slot + j)) → AllPlaces P (record_map id slot k o)
record_places P id slot k None words = tt
record_places P id slot k (Some o) words = words

pub object_places : (P : ℕ → Type 0) (phase : Phase) (stage : Stage) (v id free chosen old tag : ℕ)
    (saved next : Option Obj)
    → free + chosen ≡ 1 → ((slot : ℕ) → slot < SLOTS → P (object_tag_at id slot))
    → ((slot j : ℕ) → slot < SLOTS → j < SLOT_WORDS → P (object_slot_at id slot + j))
    → AllPlaces P (object_map phase stage v id free chosen old tag saved next)
object_places P phase stage v id free chosen old tag saved next slots tags words =
    let c : chosen < SLOTS = omega arith in
    let u : free < SLOTS = omega arith in (
      (tags chosen c, record_places P id chosen Clean saved (λ j l. words chosen j c l)),
      (tags free u, record_places P id free (slot_kind phase stage) next (λ j l. words free j u l)),
    )

pub object_own : (phase : Phase) (stage : Stage) (v id free chosen old tag : ℕ) (saved next : Option Obj) → id < OBJECTS
    → free + chosen ≡ 1 → AllPlaces (λ p. owner p ≡ Objects)
    (object_map phase stage v id free chosen old tag saved next)
object_own phase stage v id free chosen old tag saved next lt slots =
    object_places (λ p. owner p ≡ Objects) phase stage v id free chosen old tag saved next slots
    (λ slot s. owner_object_tag id slot lt s) (λ slot j s l. owner_object_slot id slot j lt s l)

-- nothing is known
pub record_any : (id slot : ℕ) (o : Option Obj) (f : ℕ → Word) → IsKnown LEADER (record_map id slot Any o) f
record_any id slot None f = tt
record_any id slot (Some o) f = λ j l. tt

-- It comes to another stage or phase, and other words.
pub comes_to : {phase : Phase} {stage : Stage} {f : ℕ → Word} {v id : ℕ} {saved next : Option Obj} (now : Phase)
    (to : Stage) (g : ℕ → Word) (h : ObjectShows phase stage f v id saved next) → IsFree to h.free → IsNext to next
    → IsKnown LEADER (object_map now to v id h.free h.chosen h.old h.tag saved next) g
    → ObjectShows now to g v id saved next
comes_to now to g h is_free next_is known = record {
  free = h.free;
  chosen = h.chosen;
  slots = h.slots;
  is_free = is_free;
  old = h.old;
  tag = h.tag;
  not_above = h.not_above;
  saved_is = h.saved_is;
  next_is = next_is;
  known = known;
}

-- LAW 1, of an object: it outlives what is calm at its words.
pub object_calm : (phase : Phase) (stage : Stage) (f g : ℕ → Word) (v id : ℕ) (saved next : Option Obj) → id < OBJECTS
    → CalmIn Objects f g → ObjectShows phase stage f v id saved next → ObjectShows phase stage g v id saved next
object_calm phase stage f g v id saved next lt calm h =
    comes_to phase stage g h h.is_free h.next_is (known_calm_in LEADER
    (object_map phase stage v id h.free h.chosen h.old h.tag saved next) f g
    (object_own phase stage v id h.free h.chosen h.old h.tag saved next lt h.slots) calm.at h.known)

-- LAW 2: a fence settles it.

record_settled : (id slot : ℕ) (k l : Kind) (o : Option Obj) (f : ℕ → Word) → Gives (settled k) l
    → IsKnown LEADER (with_kinds settled (record_map id slot k o)) f → IsKnown LEADER (record_map id slot l o) f
record_settled id slot k l None f gives h = tt
record_settled id slot k l (Some o) f gives h = λ j lt. gives LEADER (f (object_slot_at id slot + j)) (record_word o j)
    (h j lt)

slot_settled : (phase : Phase) (stage : Stage) → Gives (settled (slot_kind phase stage))
    (slot_kind (fenced phase) stage)
slot_settled phase Idle = gives_any Any
slot_settled phase (Stored slot) = gives_same Cached
slot_settled (Clearing at) (Flushed slot) = gives_same Clean
slot_settled Cleared (Flushed slot) = gives_same Clean
slot_settled Records (Flushed slot) = gives_same Clean
slot_settled Tags (Flushed slot) = gives_same Clean
slot_settled Tagged (Flushed slot) = gives_same Clean
slot_settled phase (TagStored slot) = gives_same Clean
slot_settled phase (TagFlushed slot) = gives_same Clean

tag_settled : (phase : Phase) (stage : Stage) (old : ℕ) → Gives (settled (tag_kind phase stage old))
    (tag_kind (fenced phase) stage old)
tag_settled phase Idle old = gives_same Clean
tag_settled phase (Stored slot) old = gives_same Clean
tag_settled phase (Flushed slot) old = gives_same Clean
tag_settled phase (TagStored slot) old = gives_same (Over old)
tag_settled (Clearing at) (TagFlushed slot) old = clean_gives (ReadyOver old)
tag_settled Cleared (TagFlushed slot) old = clean_gives (ReadyOver old)
tag_settled Records (TagFlushed slot) old = clean_gives (ReadyOver old)
tag_settled Tags (TagFlushed slot) old = gives_same Clean
tag_settled Tagged (TagFlushed slot) old = gives_same Clean

pub object_fenced : (phase : Phase) (stage : Stage) (f g : ℕ → Word) (v id : ℕ) (saved next : Option Obj) → id < OBJECTS
    → FencedIn Objects LEADER f g → ObjectShows phase stage f v id saved next
    → ObjectShows (fenced phase) stage g v id saved next
object_fenced phase stage f g v id saved next lt fence h =
    let k = known_fenced_in LEADER (object_map phase stage v id h.free h.chosen h.old h.tag saved next) f g
    (object_own phase stage v id h.free h.chosen h.old h.tag saved next lt h.slots) fence.at h.known in
    comes_to (fenced phase) stage g h h.is_free h.next_is (
      (k.0.0, record_settled id h.chosen Clean Clean saved g (gives_same Clean) k.0.1),
      (
        tag_settled phase stage h.old LEADER (g (object_tag_at id h.free)) (tag_value stage v h.old) k.1.0,
        record_settled id h.free (slot_kind phase stage) (slot_kind (fenced phase) stage) next g
            (slot_settled phase stage) k.1.1,
      ),
    )

-- LAW 3: whatever a cut leaves stands for what is saved.

tag_left : (phase : Phase) (stage : Stage) (v old y : ℕ)
    → IsLeft (One 0 (tag_kind phase stage old) (tag_value stage v old)) (λ i. y)
    → (y ≡ old) ⊎ (y ≡ v + 2)
tag_left phase Idle v old y l = inl l
tag_left phase (Stored slot) v old y l = inl l
tag_left phase (Flushed slot) v old y l = inl l
tag_left phase (TagStored slot) v old y l = elim l [ inl s ↦ inr s | inr s ↦ inl s ]
tag_left (Clearing at) (TagFlushed slot) v old y l = elim l [ inl s ↦ inr s | inr s ↦ inl s ]
tag_left Cleared (TagFlushed slot) v old y l = elim l [ inl s ↦ inr s | inr s ↦ inl s ]
tag_left Records (TagFlushed slot) v old y l = elim l [ inl s ↦ inr s | inr s ↦ inl s ]
tag_left Tags (TagFlushed slot) v old y l = elim l [ inl s ↦ inr s | inr s ↦ inl s ]
tag_left Tagged (TagFlushed slot) v old y l = inr l

pub object_stands : (phase : Phase) (stage : Stage) (f : ℕ → Word) (v id : ℕ) (saved next : Option Obj) (left : ℕ → ℕ)
    → id < OBJECTS
    → LeftIn Objects f left → ObjectShows phase stage f v id saved next → ObjectStands left v id saved
object_stands phase stage f v id None next left lt may h = tt
object_stands phase stage f v id (Some o) next left lt may h =
    let l = known_left_in LEADER (object_map phase stage v id h.free h.chosen h.old h.tag (Some o) next) f left
    (object_own phase stage v id h.free h.chosen h.old h.tag (Some o) next lt h.slots) may.at h.known in
    let mine : left (object_tag_at id h.chosen) ≡ h.tag = l.0.0 in
    let lower : h.old < h.tag = h.saved_is.1 in
    record {
      slot = h.chosen;
      chosen = record {
        other = h.free;
        slots = omega (arith, h.slots);
        tagged = omega (arith, mine, lower);
        not_above = omega (arith, mine, h.not_above);
        greatest = elim (tag_left phase stage v h.old (left (object_tag_at id h.free)) l.1.0) [
          | inl stays ↦ inl (omega (arith, mine, lower, stays))
          | inr next_tag ↦ inr (omega (arith, next_tag))
        ];
      };
      in_range = h.saved_is.0;
      record_is = record_of (λ j. left (object_slot_at id h.chosen + j)) o l.0.1;
    }

-- LAW 4: once its new record has its tag, or it needs none, and tags are fenced, it shows the next version, at rest.

pub saved_low : (saved : Option Obj) (old tag : ℕ) → IsSaved saved old tag → old ≤ tag
saved_low None old tag h = h
saved_low (Some o) old tag h = let lower : old < tag = h.1 in omega arith

saved_now : (next : Option Obj) (v tag : ℕ) (slot : Slot) → tag ≤ v + 1 → IsNext (TagFlushed slot) next
    → IsSaved next tag (v + 2)
saved_now None v tag slot le h = omega arith
saved_now (Some o) v tag slot le h = (h, omega arith)

pub object_commits : (stage : Stage) (f : ℕ → Word) (v id : ℕ) (saved next after : Option Obj)
    → IsSettled stage saved next
    → ObjectShows Tagged stage f v id saved next → ObjectShows Records Idle f (v + 1) id next after
object_commits Idle f v id saved next after tagged h =
    elim tagged [
      | inl same ↦ subst (λ (o : Option Obj). ObjectShows Records Idle f (v + 1) id o after) (sym same) (record {
        free = h.free;
        chosen = h.chosen;
        slots = h.slots;
        is_free = tt;
        old = h.old;
        tag = h.tag;
        not_above = omega (arith, h.not_above);
        saved_is = h.saved_is;
        next_is = tt;
        known = (h.known.0, (h.known.1.0, record_any id h.free after f));
      })
      | inr gone ↦ subst (λ (o : Option Obj). ObjectShows Records Idle f (v + 1) id o after) (sym gone) (record {
        free = h.free;
        chosen = h.chosen;
        slots = h.slots;
        is_free = tt;
        old = h.old;
        tag = h.tag;
        not_above = omega (arith, h.not_above);
        saved_is = saved_low saved h.old h.tag h.saved_is;
        next_is = tt;
        known = ((h.known.0.0, tt), (h.known.1.0, record_any id h.free after f));
      })
    ]
object_commits (Stored slot) f v id saved next after tagged h = absurd tagged
object_commits (Flushed slot) f v id saved next after tagged h = absurd tagged
object_commits (TagStored slot) f v id saved next after tagged h = absurd tagged
object_commits (TagFlushed slot) f v id saved next after tagged h = record {
  free = h.chosen;
  chosen = h.free;
  slots = omega (arith, h.slots);
  is_free = tt;
  old = h.tag;
  tag = v + 2;
  not_above = omega arith;
  saved_is = saved_now next v h.tag slot h.not_above h.next_is;
  next_is = tt;
  known = (h.known.1, (h.known.0.0, record_any id h.chosen after f));
}

-- so what a cut leaves then stands for both
pub object_stands_next : (stage : Stage) (f : ℕ → Word) (v id : ℕ) (saved next : Option Obj) (left : ℕ → ℕ)
    → id < OBJECTS
    → IsSettled stage saved next → LeftIn Objects f left → ObjectShows Tagged stage f v id saved next
    → ObjectStands left (v + 1) id next
object_stands_next stage f v id saved next left lt tagged may h =
    object_stands Records Idle f (v + 1) id next None left lt may (object_commits stage f v id saved next None tagged h)

-- Recovery: tags above the version are cleared.

-- a tag's word when it is cleared
abbrev pub cleared_word : ℕ → ℕ → ℕ
cleared_word v word = if is_above v word then 0 else word

tag_own : (phase : Phase) (v tag at word : ℕ) → owner at ≡ Objects
    → AllPlaces (λ p. owner p ≡ Objects) (tag_map phase v tag at word)
tag_own phase v tag at word own =
    cond_both (is_seen phase tag && is_above v word) (One at (clear_kind phase word) 0) (One at Clean word)
    (λ m. AllPlaces (λ p. owner p ≡ Objects) m) (λ yes. own) (λ no. own)

pub clear_own : (phase : Phase) (v : ℕ) (left : ℕ → ℕ) → AllPlaces (λ p. owner p ≡ Objects) (clear_map phase v left)
clear_own phase v left = λ id lt slot s. (
  tag_own phase v (SLOTS * id + slot) (object_tag_at id slot) (left (object_tag_at id slot))
      (owner_object_tag id slot lt s),
  λ j l. owner_object_slot id slot j lt s l,
)

-- LAW 1
clear_calm : (r : Room) (phase : Phase) (f g : ℕ → Word) (v : ℕ) (saved : ℕ → Option Obj) → CalmIn Objects f g
    → ObjectsClear r phase f v saved → ObjectsClear r phase g v saved
clear_calm r phase f g v saved calm h = record {
  left = h.left;
  stood = h.stood;
  idle = h.idle;
  known = known_calm_in LEADER (clear_map phase v h.left) f g (clear_own phase v h.left) calm.at h.known;
}

-- LAW 3
zero_or_word : (phase : Phase) (word y : ℕ) → IsLeft (One 0 (clear_kind phase word) 0) (λ i. y) → (y ≡ 0) ⊎ (y ≡ word)
zero_or_word (Clearing at) word y h = h
zero_or_word Cleared word y h = h
zero_or_word Records word y h = h
zero_or_word Tags word y h = h
zero_or_word Tagged word y h = h

tag_clears : (phase : Phase) (v tag at word : ℕ) (left : ℕ → ℕ) → IsLeft (tag_map phase v tag at word) left
    → (left at ≡ word) ⊎ ((v + 1 < word) × (left at ≡ 0))
tag_clears phase v tag at word left h =
    ⊎_elim
    (λ (yes : (is_seen phase tag && is_above v word) ≡ true).
    let k = rw yes at h in
    let above : v + 1 < word = grind (arith, nat_tests, yes) in
    elim (zero_or_word phase word (left at) k) [ inl z ↦ inr (above, z) | inr same ↦ inl same ])
    (λ (no : (is_seen phase tag && is_above v word) ≡ false). inl (rw no at h))
    (cases_Bool (is_seen phase tag && is_above v word))

clear_stands : (r : Room) (phase : Phase) (f : ℕ → Word) (v : ℕ) (saved : ℕ → Option Obj) (left : ℕ → ℕ)
    → LeftIn Objects f left
    → ObjectsClear r phase f v saved → ObjectsStand left v saved
clear_stands r phase f v saved left may h =
    let l = known_left_in LEADER (clear_map phase v h.left) f left (clear_own phase v h.left) may.at h.known in
    record {
      each = λ id lt. still_stands h.left left v id (saved id) (record {
        tags = λ slot s. tag_clears phase v (SLOTS * id + slot) (object_tag_at id slot)
            (h.left (object_tag_at id slot)) left (l id lt slot s).0;
        words = λ slot j s k. (l id lt slot s).1 j k;
      }) (h.stood.each id lt);
    }

-- from what a cut left it begins
unseen : (v tag at word : ℕ) (f : ℕ → Word) → WordIs LEADER Clean (f at) word
    → IsKnown LEADER (tag_map (Clearing 0) v tag at word) f
unseen v tag at word f h =
    cond_both (is_seen (Clearing 0) tag && is_above v word) (One at (Over word) 0) (One at Clean word)
    (λ m. IsKnown LEADER m f) (λ yes. absurd (grind (arith, nat_tests, yes))) (λ no. h)

pub clear_begins : (r : Room) (f : ℕ → Word) (v : ℕ) (saved : ℕ → Option Obj) → AllIdle r → AreClean f
    → ObjectsStand (λ i. (f i).durable) v saved → ObjectsClear r (Clearing 0) f v saved
clear_begins r f v saved idle clean stood = record {
  left = λ i. (f i).durable;
  stood = stood;
  idle = idle;
  known = λ id lt slot s. (
    unseen v (SLOTS * id + slot) (object_tag_at id slot) ((f (object_tag_at id slot)).durable) f
        (clean.at (object_tag_at id slot) (owner_object_tag id slot lt s), refl),
    λ j l. (clean.at (object_slot_at id slot + j) (owner_object_slot id slot j lt s l), refl),
  );
}

-- once all tags are seen, a fence ends it: nothing is above the version, and all words are clean
settled_tag : (v tag at word : ℕ) (f g : ℕ → Word) → WordFenced LEADER (f at) (g at)
    → IsKnown LEADER (tag_map Cleared v tag at word) f → WordIs LEADER Clean (g at) (cleared_word v word)
settled_tag v tag at word f g fence h =
    ⊎_elim
    (λ (yes : is_above v word ≡ true). rw yes (fence_word LEADER (ReadyOver word) (f at) (g at) 0 fence (rw yes at h)))
    (λ (no : is_above v word ≡ false). rw no (fence_word LEADER Clean (f at) (g at) word fence (rw no at h)))
    (cases_Bool (is_above v word))

cleared_low : (v word : ℕ) → cleared_word v word ≤ v + 1
cleared_low v word = grind (arith, nat_tests)

kept_word : (v word : ℕ) → word ≤ v + 1 → cleared_word v word ≡ word
kept_word v word le = grind (arith, nat_tests)

gone_word : (v word : ℕ) → v + 1 < word → cleared_word v word ≡ 0
gone_word v word lt = grind (arith, nat_tests)

record_clean : (left : ℕ → ℕ) (f : ℕ → Word) (id slot : ℕ) (o : Obj)
    → ((j : ℕ) → j < SLOT_WORDS → WordIs LEADER Clean (f (object_slot_at id slot + j))
    (left (object_slot_at id slot + j)))
    → IsRecord (λ j. left (object_slot_at id slot + j)) o → IsKnown LEADER (record_map id slot Clean (Some o)) f
record_clean left f id slot o words h = λ j lt.
    let same = record_words (λ j. left (object_slot_at id slot + j)) o h j lt in
    subst (λ (x : ℕ). WordIs LEADER Clean (f (object_slot_at id slot + j)) x) same (words j lt)

low_or_high : (a b : ℕ) → (a ≤ b) ⊎ (b ≤ a)
low_or_high a b = grind arith

object_at_rest : (f : ℕ → Word) (v id : ℕ) (left : ℕ → ℕ) (saved next : Option Obj) → ObjectStands left v id saved
    → ((slot : ℕ) → slot < SLOTS → WordIs LEADER Clean (f (object_tag_at id slot))
    (cleared_word v (left (object_tag_at id slot))))
    → ((slot j : ℕ) → slot < SLOTS → j < SLOT_WORDS → WordIs LEADER Clean (f (object_slot_at id slot + j))
    (left (object_slot_at id slot + j)))
    → ObjectShows Records Idle f v id saved next
object_at_rest f v id left None next h tags words =
    let a = cleared_word v (left (object_tag_at id 0)) in
    let b = cleared_word v (left (object_tag_at id 1)) in
    ⊎_elim
    (λ (le : a ≤ b). record {
      free = 0;
      chosen = 1;
      slots = refl;
      is_free = tt;
      old = a;
      tag = b;
      not_above = cleared_low v (left (object_tag_at id 1));
      saved_is = le;
      next_is = tt;
      known = ((tags 1 (omega arith), tt), (tags 0 (omega arith), record_any id 0 next f));
    })
    (λ (le : b ≤ a). record {
      free = 1;
      chosen = 0;
      slots = refl;
      is_free = tt;
      old = b;
      tag = a;
      not_above = cleared_low v (left (object_tag_at id 0));
      saved_is = le;
      next_is = tt;
      known = ((tags 0 (omega arith), tt), (tags 1 (omega arith), record_any id 1 next f));
    })
    (low_or_high a b)
object_at_rest f v id left (Some o) next h tags words =
    let k = h.chosen in
    let tagged = k.tagged in
    let mine : cleared_word v (left (object_tag_at id h.slot))
    ≡ left (object_tag_at id h.slot) = kept_word v (left (object_tag_at id h.slot)) k.not_above in
    let old = cleared_word v (left (object_tag_at id k.other)) in
    record {
      free = k.other;
      chosen = h.slot;
      slots = omega (arith, k.slots);
      is_free = tt;
      old = old;
      tag = left (object_tag_at id h.slot);
      not_above = k.not_above;
      saved_is = (
        h.in_range,
        elim k.greatest [
          | inl lower ↦ let same = kept_word v (left (object_tag_at id k.other)) (omega (arith, lower, k.not_above)) in
              omega (arith, lower, same)
          | inr up ↦ let gone = gone_word v (left (object_tag_at id k.other)) up in omega (arith, gone, tagged)
        ],
      );
      next_is = tt;
      known = (
        (
          subst (λ (x : ℕ). WordIs LEADER Clean (f (object_tag_at id h.slot)) x) mine
              (tags h.slot (omega (arith, k.slots))),
          record_clean left f id h.slot o (λ j l. words h.slot j (omega (arith, k.slots)) l) h.record_is,
        ),
        (tags k.other (omega (arith, k.slots)), record_any id k.other next f),
      );
    }

pub clear_ends : (r : Room) (f g : ℕ → Word) (v : ℕ) (saved next : ℕ → Option Obj) (stage : ℕ → Stage)
    → ((id : ℕ) → stage id ≡ stage_at r id)
    → FencedIn Objects LEADER f g → ObjectsClear r Cleared f v saved → EachShows Records stage g v saved next
clear_ends r f g v saved next stage same fence h = λ id lt.
    subst (λ (s : Stage). ObjectShows Records s g v id (saved id) (next id)) (sym (same id ∙ h.idle id))
    (object_at_rest g v id h.left (saved id) (next id) (h.stood.each id lt)
    (λ slot s. settled_tag v (SLOTS * id + slot) (object_tag_at id slot) (h.left (object_tag_at id slot)) f g
    (fence.at (object_tag_at id slot) (owner_object_tag id slot lt s)) (h.known id lt slot s).0)
    (λ slot j s l. fence_word LEADER Clean (f (object_slot_at id slot + j)) (g (object_slot_at id slot + j))
    (h.left (object_slot_at id slot + j))
    (fence.at (object_slot_at id slot + j) (owner_object_slot id slot j lt s l)) ((h.known id lt slot s).1 j l)))

-- THE FOUR LAWS, in each phase.

shows_calm : (phase : Phase) (r : Room) (f g : ℕ → Word) (v : ℕ) (saved next : ℕ → Option Obj) → CalmIn Objects f g
    → ShowsIn phase r f v saved next → ShowsIn phase r g v saved next
shows_calm (Clearing at) r f g v saved next calm h = clear_calm r (Clearing at) f g v saved calm h
shows_calm Cleared r f g v saved next calm h = clear_calm r Cleared f g v saved calm h
shows_calm Records r f g v saved next calm h = λ id lt. object_calm Records (stage_at r id) f g v id (saved id)
    (next id) lt calm (h id lt)
shows_calm Tags r f g v saved next calm h = λ id lt. object_calm Tags (stage_at r id) f g v id (saved id)
    (next id) lt calm (h id lt)
shows_calm Tagged r f g v saved next calm h = λ id lt. object_calm Tagged (stage_at r id) f g v id (saved id)
    (next id) lt calm (h id lt)

pub objects_calm : {r : Room} {f g : ℕ → Word} {v : ℕ} {saved next : ℕ → Option Obj} → CalmIn Objects f g
    → ObjectsShow r f v saved next → ObjectsShow r g v saved next
objects_calm {r} {f} {g} {v} {saved} {next} calm h = record {
  version = h.version;
  shows = shows_calm r.phase r f g v saved next calm h.shows;
}

other_idle : (r p : Room) → ((i : ℕ) → stage_at p i ≡ stage_at r i) → AllIdle r → AllIdle p
other_idle r p same idle = λ i. same i ∙ idle i

each_fenced : (phase : Phase) (r p : Room) (f g : ℕ → Word) (v : ℕ) (saved next : ℕ → Option Obj)
    → ((i : ℕ) → stage_at p i ≡ stage_at r i)
    → FencedIn Objects LEADER f g → EachShows phase (stage_at r) f v saved next
    → EachShows (fenced phase) (stage_at p) g v saved next
each_fenced phase r p f g v saved next same fence h = λ id lt.
    subst (λ (s : Stage). ObjectShows (fenced phase) s g v id (saved id) (next id)) (sym (same id))
    (object_fenced phase (stage_at r id) f g v id (saved id) (next id) lt fence (h id lt))

clear_fenced : (r p : Room) (phase : Phase) (f g : ℕ → Word) (v : ℕ) (saved : ℕ → Option Obj)
    → ((i : ℕ) → stage_at p i ≡ stage_at r i)
    → FencedIn Objects LEADER f g → ObjectsClear r phase f v saved → ObjectsClear p phase g v saved
clear_fenced r p phase f g v saved same fence h =
    let k = clear_calm r phase f g v saved (fence_is_calm fence) h in
    record { left = k.left; stood = k.stood; idle = other_idle r p same k.idle; known = k.known }

shows_fenced : (phase : Phase) (r p : Room) (f g : ℕ → Word) (v : ℕ) (saved next : ℕ → Option Obj)
    → ((i : ℕ) → stage_at p i ≡ stage_at r i)
    → FencedIn Objects LEADER f g → ShowsIn phase r f v saved next → ShowsIn (fenced phase) p g v saved next
shows_fenced (Clearing at) r p f g v saved next same fence h = clear_fenced r p (Clearing at) f g v saved same fence h
shows_fenced Cleared r p f g v saved next same fence h = clear_fenced r p Cleared f g v saved same fence h
shows_fenced Records r p f g v saved next same fence h = each_fenced Records r p f g v saved next same fence h
shows_fenced Tags r p f g v saved next same fence h = each_fenced Tags r p f g v saved next same fence h
shows_fenced Tagged r p f g v saved next same fence h = each_fenced Tagged r p f g v saved next same fence h

pub objects_fenced : {r p : Room} {f g : ℕ → Word} {v : ℕ} {saved next : ℕ → Option Obj} → Passes r p (fenced r.phase)
    → FencedIn Objects LEADER f g → ObjectsShow r f v saved next → ObjectsShow p g v saved next
objects_fenced {r} {p} {f} {g} {v} {saved} {next} passes fence h = record {
  version = passes.version ∙ h.version;
  shows = subst (λ (phase : Phase). ShowsIn phase p g v saved next) (sym passes.phase)
      (shows_fenced r.phase r p f g v saved next passes.stages fence h.shows);
}

shows_stand : (phase : Phase) (r : Room) (f : ℕ → Word) (v : ℕ) (saved next : ℕ → Option Obj) (left : ℕ → ℕ)
    → LeftIn Objects f left
    → ShowsIn phase r f v saved next → ObjectsStand left v saved
shows_stand (Clearing at) r f v saved next left may h = clear_stands r (Clearing at) f v saved left may h
shows_stand Cleared r f v saved next left may h = clear_stands r Cleared f v saved left may h
shows_stand Records r f v saved next left may h = record {
  each = λ id lt. object_stands Records (stage_at r id) f v id (saved id) (next id) left lt may (h id lt);
}
shows_stand Tags r f v saved next left may h = record {
  each = λ id lt. object_stands Tags (stage_at r id) f v id (saved id) (next id) left lt may (h id lt);
}
shows_stand Tagged r f v saved next left may h = record {
  each = λ id lt. object_stands Tagged (stage_at r id) f v id (saved id) (next id) left lt may (h id lt);
}

pub objects_stand : {r : Room} {f : ℕ → Word} {v : ℕ} {saved next : ℕ → Option Obj} (left : ℕ → ℕ)
    → LeftIn Objects f left
    → ObjectsShow r f v saved next → ObjectsStand left v saved
objects_stand {r} {f} {v} {saved} {next} left may h = shows_stand r.phase r f v saved next left may h.shows

-- once tags are fenced
tagged_shows : {r : Room} {f : ℕ → Word} {v : ℕ} {saved next : ℕ → Option Obj} → r.phase ≡ Tagged
    → ObjectsShow r f v saved next
    → EachShows Tagged (stage_at r) f v saved next
tagged_shows {r} {f} {v} {saved} {next} is h = subst (λ (phase : Phase). ShowsIn phase r f v saved next) is h.shows

pub objects_commit : {r p : Room} {f : ℕ → Word} {v : ℕ} {saved next : ℕ → Option Obj} (after : ℕ → Option Obj)
    → r.phase ≡ Tagged → AllSettled r saved next → p.phase ≡ Records → p.version ≡ v + 1 → AllIdle p
    → ObjectsShow r f v saved next → ObjectsShow p f (v + 1) next after
objects_commit {r} {p} {f} {v} {saved} {next} after is tagged phase version idle h = record {
  version = version;
  shows = subst (λ (q : Phase). ShowsIn q p f (v + 1) next after) (sym phase) (λ id lt.
      subst (λ (s : Stage). ObjectShows Records s f (v + 1) id (next id) (after id)) (sym (idle id))
      (object_commits (stage_at r id) f v id (saved id) (next id) (after id) (tagged id lt) (tagged_shows is h id lt)));
}

pub objects_stand_next : {r : Room} {f : ℕ → Word} {v : ℕ} {saved next : ℕ → Option Obj} (left : ℕ → ℕ)
    → r.phase ≡ Tagged
    → AllSettled r saved next → LeftIn Objects f left → ObjectsShow r f v saved next → ObjectsStand left (v + 1) next
objects_stand_next {r} {f} {v} {saved} {next} left is tagged may h = record {
  each = λ id lt. object_stands_next (stage_at r id) f v id (saved id) (next id) left lt (tagged id lt) may
      (tagged_shows is h id lt);
}

-- one object by itself
pub object_stands_both : {r : Room} {f : ℕ → Word} {v : ℕ} {saved next : ℕ → Option Obj} (left : ℕ → ℕ) (id : ℕ)
    → id < OBJECTS
    → r.phase ≡ Tagged → IsSettled (stage_at r id) (saved id) (next id) → LeftIn Objects f left
    → ObjectsShow r f v saved next
    → ObjectStands left v id (saved id) × ObjectStands left (v + 1) id (next id)
object_stands_both {r} {f} {v} {saved} {next} left id lt is tagged may h = (
  (objects_stand left may h).each id lt,
  object_stands_next (stage_at r id) f v id (saved id) (next id) left lt tagged may (tagged_shows is h id lt),
)

-- after a cut recovery begins
pub objects_begin : {r : Room} {f : ℕ → Word} {v : ℕ} {saved : ℕ → Option Obj} (next : ℕ → Option Obj)
    → r.phase ≡ Clearing 0 → r.version ≡ v
    → AllIdle r → AreClean f → ObjectsStand (λ i. (f i).durable) v saved → ObjectsShow r f v saved next
objects_begin {r} {f} {v} {saved} next phase version idle clean stood = record {
  version = version;
  shows = subst (λ (q : Phase). ShowsIn q r f v saved next) (sym phase) (clear_begins r f v saved idle clean stood);
}

pub cut_is_clean : {f g : ℕ → Word} → IsCut f g → AreClean g
cut_is_clean {f} {g} cut = record {
  at = λ i own. ap (λ (w : Word). w.cached) (cut.at i) ∙ sym (ap (λ (w : Word). w.durable) (cut.at i));
}

pub objects_cut : {r p : Room} {f g : ℕ → Word} {v : ℕ} {saved next : ℕ → Option Obj} (after : ℕ → Option Obj)
    → p.phase ≡ Clearing 0
    → p.version ≡ v → AllIdle p → IsCut f g → ObjectsShow r f v saved next → ObjectsShow p g v saved after
objects_cut {r} {p} {f} {g} {v} {saved} {next} after phase version idle cut h =
    objects_begin after phase version idle (cut_is_clean cut)
    (objects_stand (λ i. (g i).durable) (record { at = λ i own. cut_left f g cut.at i }) h)
