-- What each operation makes of the object that it is about, and that it leaves the others alone.
use Rattle.std.proofs.Common.{◌≡◌, ◌≢◌, ◌⊎◌, inl, inr, ⊎_elim, ℕ, ◌+◌, ◌*◌, ◌<◌, ◌≤◌, true, Option, Some, None, subst, sym, ◌∙◌, refl, arith}
use Rattle.std.proofs.lemmas.Bool.{cases_lt}
use Rattle.std.proofs.lemmas.Bool.Decides.{nat_tests}
use Rattle.sls_base.specs.declared.limits.TheConstants.{OBJECTS}
use Rattle.pmem_model.specs.Words.{Word, is_within, flushes}
use Rattle.pmem_model.specs.Events.{Cached, Ready, Clean, Over, WordCalm, IsBurst, IsCalm, in_flight, calm_word, burst_off, burst_cached, burst_one, flush_calm, is_inside}
use Rattle.pmem_model.specs.Maps.{One, Both, IsKnown, with_kinds, known_calm, known_flushed}
use Rattle.pmem_layout.specs.declared.places.TheConstants.{SLOTS, SLOT_WORDS}
use Rattle.pmem_layout.specs.Places.{object_tag_at, object_slot_at, line_at}
use Rattle.pmem_layout.specs.Owners.{Objects, owner}
use Rattle.object_root.proofs.Owners.{owner_object_tag}
use Rattle.kobj_codec.specs.declared.obj.Obj.{Obj}
use Rattle.object_root.specs.declared.slot.Slot.{Slot}
use Rattle.object_root.specs.declared.slot.Slot.TheVariants.{First, Second}
use Rattle.object_root.specs.declared.stage.Stage.{Stage}
use Rattle.object_root.specs.declared.stage.Stage.TheVariants.{Idle, Stored, Flushed, TagStored, TagFlushed}
use Rattle.object_root.specs.declared.stage.Phase.{Phase}
use Rattle.object_root.specs.declared.stage.Phase.TheVariants.{Records, Tags}
use Rattle.sls_base.specs.declared.fixed.TheConstants.{LEADER}
use Rattle.object_root.specs.Format.{IsChosen}
use Rattle.object_root.specs.Room.{Room, stage_at, number_of, KeepsOthers}
use Rattle.object_root.specs.Shows.{record_map, object_map, IsSaved, IsNext, ObjectShows, EachShows, ShowsIn, ObjectsShow, IsRecordOf, SparesChosen}
use Rattle.object_root.proofs.RoomLaws.{same_or_not, record_words, record_places, object_places, record_any, comes_to, saved_low}

-- a room in a phase
pub shows_in : (phase : Phase) {r : Room} {f : ℕ → Word} {v : ℕ} {saved next : ℕ → Option Obj} → r.phase ≡ phase
    → ObjectsShow r f v saved next → ShowsIn phase r f v saved next
shows_in phase {r} {f} {v} {saved} {next} is h = subst (λ (p : Phase). ShowsIn p r f v saved next) is h.shows

pub show_in : (phase : Phase) {r : Room} {f : ℕ → Word} {v : ℕ} {saved next : ℕ → Option Obj} → r.phase ≡ phase
    → r.version ≡ v
    → ShowsIn phase r f v saved next → ObjectsShow r f v saved next
show_in phase {r} {f} {v} {saved} {next} is version h = record {
  version = version;
  shows = subst (λ (p : Phase). ShowsIn p r f v saved next) (sym is) h;
}

-- nothing is stored in an object's words
pub record Untouched (f g : ℕ → Word) (id : ℕ) : Type 0 where
  pub tag : (slot : ℕ) → slot < SLOTS → WordCalm (f (object_tag_at id slot)) (g (object_tag_at id slot))
  pub words : (slot j : ℕ) → slot < SLOTS → j < SLOT_WORDS
      → WordCalm (f (object_slot_at id slot + j)) (g (object_slot_at id slot + j))

pub untouched : (phase : Phase) (stage : Stage) (f g : ℕ → Word) (v id : ℕ) (saved next : Option Obj) → Untouched f g id
    → ObjectShows phase stage f v id saved next → ObjectShows phase stage g v id saved next
untouched phase stage f g v id saved next e h =
    comes_to phase stage g h h.is_free h.next_is (known_calm LEADER
    (object_map phase stage v id h.free h.chosen h.old h.tag saved next) f g
    (object_places (λ p. WordCalm (f p) (g p)) phase stage v id h.free h.chosen h.old h.tag saved next h.slots e.tag
    e.words) h.known)

pub calm_untouched : (f g : ℕ → Word) (id : ℕ) → IsCalm f g → Untouched f g id
calm_untouched f g id calm = record {
  tag = λ slot s. calm.at (object_tag_at id slot);
  words = λ slot j s l. calm.at (object_slot_at id slot + j);
}

pub calm_spares : (f g : ℕ → Word) (v : ℕ) → IsCalm f g → SparesChosen f g v
calm_spares f g v calm = λ id slot lt chosen. record {
  tag = calm.at (object_tag_at id slot);
  words = λ j l. calm.at (object_slot_at id slot + j);
}

-- one object comes to a stage
pub each_moved : (phase : Phase) (r p : Room) (f g : ℕ → Word) (v id : ℕ) (saved next : ℕ → Option Obj) (to : Stage)
    → stage_at p id ≡ to
    → KeepsOthers r p id → ((i : ℕ) → i < OBJECTS → i ≢ id → Untouched f g i)
    → ObjectShows phase to g v id (saved id) (next id)
    → EachShows phase (stage_at r) f v saved next → EachShows phase (stage_at p) g v saved next
each_moved phase r p f g v id saved next to here kept rest one all = λ i lt.
    elim (same_or_not i id) [
      | inl same ↦
          subst (λ (k : ℕ). ObjectShows phase (stage_at p k) g v k (saved k) (next k)) (sym same)
          (subst (λ (s : Stage). ObjectShows phase s g v id (saved id) (next id)) (sym here) one)
      | inr ne ↦
          subst (λ (s : Stage). ObjectShows phase s g v i (saved i) (next i)) (sym (kept.others i ne))
          (untouched phase (stage_at r i) f g v i (saved i) (next i) (rest i lt ne) (all i lt))
    ]

-- Places: a burst into a slot, or into a tag, leaves all other slots and tags.

pub slot_burst_tag : (f g : ℕ → Word) (id slot i t : ℕ) (value : ℕ → ℕ)
    → IsBurst f g (object_slot_at id slot) SLOT_WORDS value
    → i < OBJECTS → t < SLOTS → WordCalm (f (object_tag_at i t)) (g (object_tag_at i t))
slot_burst_tag f g id slot i t value e lt s = burst_off f g (object_slot_at id slot) SLOT_WORDS
    (object_tag_at i t) value e.words (inl (omega arith))

pub slot_burst_words : (f g : ℕ → Word) (id slot i t j : ℕ) (value : ℕ → ℕ)
    → IsBurst f g (object_slot_at id slot) SLOT_WORDS value
    → SLOTS * i + t ≢ SLOTS * id + slot → j < SLOT_WORDS
    → WordCalm (f (object_slot_at i t + j)) (g (object_slot_at i t + j))
slot_burst_words f g id slot i t j value e ne l =
    burst_off f g (object_slot_at id slot) SLOT_WORDS (object_slot_at i t + j) value e.words (grind arith)

pub slot_burst_leaves : (f g : ℕ → Word) (id slot i : ℕ) (value : ℕ → ℕ)
    → IsBurst f g (object_slot_at id slot) SLOT_WORDS value
    → slot < SLOTS → i < OBJECTS → i ≢ id → Untouched f g i
slot_burst_leaves f g id slot i value e s li ne = record {
  tag = λ t lt. slot_burst_tag f g id slot i t value e li lt;
  words = λ t j lt l. slot_burst_words f g id slot i t j value e (omega arith) l;
}

pub tag_burst_tag : (f g : ℕ → Word) (id slot i t : ℕ) (value : ℕ → ℕ) → IsBurst f g (object_tag_at id slot) 1 value
    → SLOTS * i + t ≢ SLOTS * id + slot → WordCalm (f (object_tag_at i t)) (g (object_tag_at i t))
tag_burst_tag f g id slot i t value e ne = burst_off f g (object_tag_at id slot) 1 (object_tag_at i t) value e.words
    (grind arith)

pub tag_burst_words : (f g : ℕ → Word) (id slot i t j : ℕ) (value : ℕ → ℕ) → IsBurst f g (object_tag_at id slot) 1 value
    → id < OBJECTS → slot < SLOTS → WordCalm (f (object_slot_at i t + j)) (g (object_slot_at i t + j))
tag_burst_words f g id slot i t j value e lt s = burst_off f g (object_tag_at id slot) 1
    (object_slot_at i t + j) value e.words (inr (omega arith))

pub tag_burst_leaves : (f g : ℕ → Word) (id slot i : ℕ) (value : ℕ → ℕ) → IsBurst f g (object_tag_at id slot) 1 value
    → id < OBJECTS → slot < SLOTS → i ≢ id → Untouched f g i
tag_burst_leaves f g id slot i value e lt s ne = record {
  tag = λ t l. tag_burst_tag f g id slot i t value e (omega arith);
  words = λ t j l k. tag_burst_words f g id slot i t j value e lt s;
}

pub number_small : (slot : Slot) → number_of slot < SLOTS
number_small First = omega arith
number_small Second = omega arith

pub tag_owner : (id slot j : ℕ) → id < OBJECTS → slot < SLOTS → j < 1 → owner (object_tag_at id slot + j) ≡ Objects
tag_owner id slot j lt s l =
    let first : object_tag_at id slot ≡ object_tag_at id slot + j = omega arith in
    subst (λ (p : ℕ). owner p ≡ Objects) first (owner_object_tag id slot lt s)

-- The free slot is one that isn't chosen.

-- of two equal tags neither is chosen, so either slot is free
unequal : (saved : Option Obj) (old tag : ℕ) → old ≡ tag → IsSaved saved old tag → saved ≡ None
unequal None old tag e h = refl
unequal (Some o) old tag e h = let lower : old < tag = h.1 in absurd (omega arith)

abbrev swapped : (f : ℕ → Word) (v id : ℕ) (saved next : Option Obj) (h : ObjectShows Records Idle f v id saved next)
    → h.old ≡ h.tag
    → ObjectShows Records Idle f v id saved next
swapped f v id saved next h e =
    let none = unequal saved h.old h.tag e h.saved_is in
    record {
      free = h.chosen;
      chosen = h.free;
      slots = omega (arith, h.slots);
      is_free = tt;
      old = h.tag;
      tag = h.old;
      not_above = omega (arith, h.not_above, e);
      saved_is = subst (λ (o : Option Obj). IsSaved o h.tag h.old) (sym none) (omega (arith, e));
      next_is = tt;
      known = (
        (h.known.1.0, subst (λ (o : Option Obj). IsKnown LEADER (record_map id h.free Clean o) f) (sym none) tt),
        (h.known.0.0, record_any id h.chosen next f),
      );
    }

idle_chosen : (f : ℕ → Word) (v id : ℕ) (saved next : Option Obj) (h : ObjectShows Records Idle f v id saved next)
    → h.old < h.tag
    → IsChosen (λ i. (f i).cached) v id h.chosen
idle_chosen f v id saved next h lower =
    let mine : (f (object_tag_at id h.chosen)).cached ≡ h.tag = h.known.0.0.0 in
    let other : (f (object_tag_at id h.free)).cached ≡ h.old = h.known.1.0.0 in
    record {
      other = h.free;
      slots = omega (arith, h.slots);
      tagged = omega (arith, mine, lower);
      not_above = omega (arith, mine, h.not_above);
      greatest = inl (omega (arith, mine, other, lower));
    }

pub aimed : (f : ℕ → Word) (v id target : ℕ) (saved next : Option Obj) → target < SLOTS
    → ((slot : ℕ) → IsChosen (λ i. (f i).cached) v id slot → target + slot ≡ 1)
    → ObjectShows Records Idle f v id saved next → (h : ObjectShows Records Idle f v id saved next) × (target ≡ h.free)
aimed f v id target saved next small free h =
    elim (same_or_not target h.free) [
      | inl on ↦ (h, on)
      | inr off ↦
          let there : target ≡ h.chosen = omega (arith, h.slots) in
          let le = saved_low saved h.old h.tag h.saved_is in
          let equal : h.old ≡ h.tag = ⊎_elim
          (λ (lower : h.old < h.tag). let k = free h.chosen (idle_chosen f v id saved next h lower) in
          absurd (omega (arith, k, there)))
          (λ (higher : h.tag ≤ h.old). omega (arith, le, higher))
          (cases_lt h.old h.tag) in
          (swapped f v id saved next h equal, there)
    ]

-- THE FOUR OPERATIONS, for the object that they are about.

chosen_part : (f g : ℕ → Word) (id slot tag : ℕ) (saved : Option Obj)
    → WordCalm (f (object_tag_at id slot)) (g (object_tag_at id slot))
    → ((j : ℕ) → j < SLOT_WORDS → WordCalm (f (object_slot_at id slot + j)) (g (object_slot_at id slot + j)))
    → IsKnown LEADER (Both (One (object_tag_at id slot) Clean tag) (record_map id slot Clean saved)) f
    → IsKnown LEADER (Both (One (object_tag_at id slot) Clean tag) (record_map id slot Clean saved)) g
chosen_part f g id slot tag saved at words h =
    known_calm LEADER (Both (One (object_tag_at id slot) Clean tag) (record_map id slot Clean saved)) f g
    (at, record_places (λ p. WordCalm (f p) (g p)) id slot Clean saved words) h

record_cached : (f g : ℕ → Word) (id slot : ℕ) (o : Option Obj) (value : ℕ → ℕ)
    → IsBurst f g (object_slot_at id slot) SLOT_WORDS value
    → IsRecordOf o value → IsKnown LEADER (record_map id slot Cached o) g
record_cached f g id slot None value e r = tt
record_cached f g id slot (Some o) value e r = λ j lt. burst_cached f g
    (object_slot_at id slot) SLOT_WORDS j value e.words lt ∙ record_words value o r.1 j lt

next_of : (slot : Slot) (o : Option Obj) (value : ℕ → ℕ) → IsRecordOf o value → IsNext (Stored slot) o
next_of slot None value r = tt
next_of slot (Some o) value r = r.0

next_flushed : (slot : Slot) (o : Option Obj) → IsNext (Stored slot) o → IsNext (Flushed slot) o
next_flushed slot None h = tt
next_flushed slot (Some o) h = h

next_tagged : (slot : Slot) (o : Option Obj) → IsNext (Flushed slot) o → IsNext (TagStored slot) o
next_tagged slot None h = tt
next_tagged slot (Some o) h = h

next_done : (slot : Slot) (o : Option Obj) → IsNext (TagStored slot) o → IsNext (TagFlushed slot) o
next_done slot None h = tt
next_done slot (Some o) h = h

pub stored_one : (f g : ℕ → Word) (v id : ℕ) (slot : Slot) (saved next : Option Obj) (value : ℕ → ℕ) → id < OBJECTS
    → IsBurst f g (object_slot_at id (number_of slot)) SLOT_WORDS value → IsRecordOf next value
    → (h : ObjectShows Records Idle f v id saved next) → number_of slot ≡ h.free
    → ObjectShows Records (Stored slot) g v id saved next
stored_one f g v id slot saved next value lt burst r h on =
    let e = subst (λ (t : ℕ). IsBurst f g (object_slot_at id t) SLOT_WORDS value) on burst in
    comes_to Records (Stored slot) g h on (next_of slot next value r) (
      chosen_part f g id h.chosen h.tag saved (slot_burst_tag f g id h.free id h.chosen value e lt
          (omega (arith, h.slots)))
          (λ j l. slot_burst_words f g id h.free id h.chosen j value e (omega (arith, h.slots)) l) h.known.0,
      (
        calm_word LEADER Clean (f (object_tag_at id h.free)) (g (object_tag_at id h.free)) h.old
            (slot_burst_tag f g id h.free id h.free value e lt (omega (arith, h.slots))) h.known.1.0,
        record_cached f g id h.free next value e r,
      ),
    )

record_flighted : (id slot : ℕ) (o : Option Obj) (f : ℕ → Word)
    → IsKnown LEADER (with_kinds in_flight (record_map id slot Cached o)) f
    → IsKnown LEADER (record_map id slot Ready o) f
record_flighted id slot None f h = tt
record_flighted id slot (Some o) f h = h

pub flushed_one : (f g : ℕ → Word) (v id : ℕ) (slot : Slot) (saved next : Option Obj)
    → ((i : ℕ) → g i ≡ flushes LEADER (object_slot_at id (number_of slot)) SLOT_WORDS f i)
    → ObjectShows Records (Stored slot) f v id saved next → ObjectShows Records (Flushed slot) g v id saved next
flushed_one f g v id slot saved next flush h =
    let e = subst (λ (t : ℕ). (i : ℕ) → g i ≡ flushes LEADER (object_slot_at id t) SLOT_WORDS f i) h.is_free flush in
    let calm = flush_calm f g LEADER (object_slot_at id h.free) SLOT_WORDS e in
    comes_to Records (Flushed slot) g h h.is_free (next_flushed slot next h.next_is) (
      chosen_part f g id h.chosen h.tag saved (calm (object_tag_at id h.chosen))
          (λ j l. calm (object_slot_at id h.chosen + j)) h.known.0,
      (
        calm_word LEADER Clean (f (object_tag_at id h.free)) (g (object_tag_at id h.free)) h.old
            (calm (object_tag_at id h.free)) h.known.1.0,
        record_flighted id h.free next g (known_flushed LEADER (record_map id h.free Cached next) f g
            (object_slot_at id h.free) SLOT_WORDS e
            (record_places (λ p. is_within (object_slot_at id h.free) SLOT_WORDS p ≡ true) id h.free Cached next
            (λ j l. is_inside (object_slot_at id h.free) SLOT_WORDS j l)) h.known.1.1),
      ),
    )

pub tag_stored_one : (f g : ℕ → Word) (v id : ℕ) (slot : Slot) (saved next : Option Obj) (value : ℕ → ℕ) → id < OBJECTS
    → IsBurst f g (object_tag_at id (number_of slot)) 1 value → value 0 ≡ v + 2
    → ObjectShows Tags (Flushed slot) f v id saved next → ObjectShows Tags (TagStored slot) g v id saved next
tag_stored_one f g v id slot saved next value lt burst is h =
    let e = subst (λ (t : ℕ). IsBurst f g (object_tag_at id t) 1 value) h.is_free burst in
    let u : h.free < SLOTS = omega (arith, h.slots) in
    comes_to Tags (TagStored slot) g h h.is_free (next_tagged slot next h.next_is) (
      chosen_part f g id h.chosen h.tag saved (tag_burst_tag f g id h.free id h.chosen value e
          (omega (arith, h.slots)))
          (λ j l. tag_burst_words f g id h.free id h.chosen j value e lt u) h.known.0,
      (
        burst_one LEADER f g (object_tag_at id h.free) h.old (v + 2) value e.words is h.known.1.0.1,
        known_calm LEADER (record_map id h.free Clean next) f g
            (record_places (λ p. WordCalm (f p) (g p)) id h.free Clean next
            (λ j l. tag_burst_words f g id h.free id h.free j value e lt u)) h.known.1.1,
      ),
    )

in_line : (p : ℕ) → is_within (line_at p) 8 p ≡ true
in_line p = grind (arith, nat_tests)

pub tag_flushed_one : (f g : ℕ → Word) (v id : ℕ) (slot : Slot) (saved next : Option Obj)
    → ((i : ℕ) → g i ≡ flushes LEADER (line_at (object_tag_at id (number_of slot))) 8 f i)
    → ObjectShows Tags (TagStored slot) f v id saved next → ObjectShows Tags (TagFlushed slot) g v id saved next
tag_flushed_one f g v id slot saved next flush h =
    let e = subst (λ (t : ℕ). (i : ℕ) → g i ≡ flushes LEADER (line_at (object_tag_at id t)) 8 f i) h.is_free flush in
    let calm = flush_calm f g LEADER (line_at (object_tag_at id h.free)) 8 e in
    comes_to Tags (TagFlushed slot) g h h.is_free (next_done slot next h.next_is) (
      chosen_part f g id h.chosen h.tag saved (calm (object_tag_at id h.chosen))
          (λ j l. calm (object_slot_at id h.chosen + j)) h.known.0,
      (
        known_flushed LEADER (One (object_tag_at id h.free) (Over h.old) (v + 2)) f g
            (line_at (object_tag_at id h.free)) 8 e
            (in_line (object_tag_at id h.free)) h.known.1.0,
        known_calm LEADER (record_map id h.free Clean next) f g
            (record_places (λ p. WordCalm (f p) (g p)) id h.free Clean next
            (λ j l. calm (object_slot_at id h.free + j))) h.known.1.1,
      ),
    )

-- What is chosen at the version is spared.

pub store_spares : (f g : ℕ → Word) (v id target : ℕ) (value : ℕ → ℕ) → target < SLOTS
    → IsBurst f g (object_slot_at id target) SLOT_WORDS value
    → ((slot : ℕ) → IsChosen (λ i. (f i).cached) v id slot → target + slot ≡ 1) → SparesChosen f g v
store_spares f g v id target value small e free = λ i slot lt chosen.
    let s : slot < SLOTS = omega (arith, chosen.slots) in
    record {
      tag = slot_burst_tag f g id target i slot value e lt s;
      words = λ j l. slot_burst_words f g id target i slot j value e (elim (same_or_not i id) [
        | inl same ↦ let other = free slot (subst (λ (k : ℕ). IsChosen (λ p. (f p).cached) v k slot) same chosen) in
            omega (arith, other, same)
        | inr ne ↦ omega arith
      ]) l;
    }

tag_not_chosen : (f : ℕ → Word) (v id target slot : ℕ) (phase : Phase) (saved next : Option Obj) (to : Slot)
    → (h : ObjectShows phase (Flushed to) f v id saved next) → target ≡ h.free → IsChosen (λ i. (f i).cached) v id slot
    → slot ≢ target
tag_not_chosen f v id target slot phase saved next to h on chosen same =
    let mine : (f (object_tag_at id h.chosen)).cached ≡ h.tag = h.known.0.0.0 in
    let other : (f (object_tag_at id h.free)).cached ≡ h.old = h.known.1.0.0 in
    let le = saved_low saved h.old h.tag h.saved_is in
    let a : slot ≡ h.free = same ∙ on in
    let b : chosen.other ≡ h.chosen = omega (arith, chosen.slots, h.slots, a) in
    let c = subst (λ (t : ℕ). ((f (object_tag_at id t)).cached < (f (object_tag_at id slot)).cached)
    ⊎ (v + 1 < (f (object_tag_at id t)).cached)) b chosen.greatest in
    let d = subst (λ (t : ℕ). ((f (object_tag_at id h.chosen)).cached < (f (object_tag_at id t)).cached)
    ⊎ (v + 1 < (f (object_tag_at id h.chosen)).cached)) a c in
    elim d [ inl lower ↦ omega (arith, lower, mine, other, le) | inr up ↦ omega (arith, up, mine, h.not_above) ]

pub tag_spares : (f g : ℕ → Word) (v id : ℕ) (slot : Slot) (saved next : Option Obj) (value : ℕ → ℕ) → id < OBJECTS
    → IsBurst f g (object_tag_at id (number_of slot)) 1 value → ObjectShows Tags (Flushed slot) f v id saved next
    → SparesChosen f g v
tag_spares f g v id slot saved next value lt e h = λ i t li chosen.
    let u : number_of slot < SLOTS = let free = h.is_free in omega (arith, free, h.slots) in
    record {
      tag = tag_burst_tag f g id (number_of slot) i t value e (elim (same_or_not i id) [
        | inl same ↦
            let ne : t ≢ number_of slot = tag_not_chosen f v id (number_of slot) t Tags saved next slot h h.is_free
            (subst (λ (k : ℕ). IsChosen (λ p. (f p).cached) v k t) same chosen) in
            omega (arith, ne, same)
        | inr ne ↦ let s : t < SLOTS = omega (arith, chosen.slots) in omega arith
      ]);
      words = λ j l. tag_burst_words f g id (number_of slot) i t j value e lt u;
    }
