-- What recovery's operations make of the tags.
use Rattle.std.proofs.Common.{◌≡◌, ◌≢◌, inl, inr, ⊎_elim, ℕ, ◌+◌, ◌*◌, ◌/◌, ◌%◌, ◌<◌, ◌≤◌, ◌&&◌, nat_lt, Bool, true, false, cond, Option, subst, sym, ◌∙◌, refl, arith}
use Rattle.std.proofs.lemmas.Bool.{cases_Bool, cases_lt, cond_both}
use Rattle.std.proofs.lemmas.Bool.Decides.{nat_tests}
use Rattle.sls_base.specs.declared.limits.TheConstants.{OBJECTS}
use Rattle.pmem_model.specs.Words.{Word, flushes}
use Rattle.pmem_model.specs.Events.{Clean, Over, WordIs, WordCalm, IsBurst, calm_same, calm_word, burst_off, burst_one, flush_calm, flush_in}
use Rattle.pmem_model.specs.Maps.{One, IsKnown, AllPlaces, known_calm}
use Rattle.pmem_layout.specs.declared.places.TheConstants.{SLOTS, OBJECT_TAGS_AT}
use Rattle.pmem_layout.specs.Places.{object_tag_at, object_slot_at}
use Rattle.pmem_layout.specs.Owners.{Objects, owner}
use Rattle.object_root.proofs.Owners.{owner_object_tag}
use Rattle.kobj_codec.specs.declared.obj.Obj.{Obj}
use Rattle.object_root.specs.declared.stage.Phase.{Phase}
use Rattle.object_root.specs.declared.stage.Phase.TheVariants.{Clearing, Cleared}
use Rattle.sls_base.specs.declared.fixed.TheConstants.{LEADER}
use Rattle.object_root.specs.Room.{Room, stage_at, AllIdle}
use Rattle.object_root.specs.Shows.{is_above, is_seen, clear_kind, tag_map, ObjectsClear, SparesChosen}
use Rattle.object_root.proofs.RoomLaws.{same_or_not}

-- the place of a tag by its number
pub tag_owner_at : (tag j : ℕ) → tag < SLOTS * OBJECTS → j < 1 → owner (OBJECT_TAGS_AT + tag + j) ≡ Objects
tag_owner_at tag j lt l =
    let place : object_tag_at (tag / 2) (tag % 2) ≡ OBJECT_TAGS_AT + tag + j = omega arith in
    subst (λ (p : ℕ). owner p ≡ Objects) place (owner_object_tag (tag / 2) (tag % 2) (omega arith) (omega arith))

tag_places : (P : ℕ → Type 0) (phase : Phase) (v tag at word : ℕ) → P at → AllPlaces P (tag_map phase v tag at word)
tag_places P phase v tag at word h =
    cond_both (is_seen phase tag && is_above v word) (One at (clear_kind phase word) 0) (One at Clean word)
    (λ m. AllPlaces P m) (λ yes. h) (λ no. h)

-- a tag that isn't the one that is looked at
same_side : (t tag : ℕ) → t ≢ tag → nat_lt t (tag + 1) ≡ nat_lt t tag
same_side t tag ne =
    ⊎_elim
    (λ (lt : t < tag). let a : nat_lt t (tag + 1) ≡ true = grind (arith, nat_tests) in
    let b : nat_lt t tag ≡ true = grind (arith, nat_tests) in a ∙ sym b)
    (λ (ge : tag ≤ t). let a : nat_lt t (tag + 1) ≡ false = grind (arith, nat_tests) in
    let b : nat_lt t tag ≡ false = grind (arith, nat_tests) in a ∙ sym b)
    (cases_lt t tag)

tag_passed : (v t tag at word : ℕ) (f g : ℕ → Word) → t ≢ tag → WordCalm (f at) (g at)
    → IsKnown LEADER (tag_map (Clearing tag) v t at word) f
    → IsKnown LEADER (tag_map (Clearing (tag + 1)) v t at word) g
tag_passed v t tag at word f g ne calm h =
    subst (λ (seen : Bool). IsKnown LEADER (cond (seen && is_above v word) (One at (Over word) 0)
    (One at Clean word)) g)
    (sym (same_side t tag ne))
    (known_calm LEADER (tag_map (Clearing tag) v t at word) f g
    (tag_places (λ p. WordCalm (f p) (g p)) (Clearing tag) v t at word calm) h)

-- it wasn't looked at before
tag_clean : (v t tag at word : ℕ) (f : ℕ → Word) → t ≡ tag → IsKnown LEADER (tag_map (Clearing tag) v t at word) f
    → WordIs LEADER Clean (f at) word
tag_clean v t tag at word f e h = let off : (nat_lt t tag && is_above v word) ≡ false = grind (arith, nat_tests) in
    rw off at h

tag_stays : (v t tag at word : ℕ) (f : ℕ → Word) → word ≤ v + 1 → WordIs LEADER Clean (f at) word
    → IsKnown LEADER (tag_map (Clearing (tag + 1)) v t at word) f
tag_stays v t tag at word f le h =
    cond_both (nat_lt t (tag + 1) && is_above v word) (One at (Over word) 0) (One at Clean word)
    (λ m. IsKnown LEADER m f) (λ yes. absurd (grind (arith, nat_tests, yes))) (λ no. h)

tag_goes : (v t tag at word : ℕ) (f : ℕ → Word) → t ≡ tag → v + 1 < word → WordIs LEADER (Over word) (f at) 0
    → IsKnown LEADER (tag_map (Clearing (tag + 1)) v t at word) f
tag_goes v t tag at word f e lt h =
    cond_both (nat_lt t (tag + 1) && is_above v word) (One at (Over word) 0) (One at Clean word)
    (λ m. IsKnown LEADER m f) (λ yes. h) (λ no. absurd (grind (arith, nat_tests, no)))

other_idle : (r p : Room) → ((i : ℕ) → stage_at p i ≡ stage_at r i) → AllIdle r → AllIdle p
other_idle r p same idle = λ i. same i ∙ idle i

-- a tag above the version is cleared
pub tag_cleared : (r p : Room) (f g : ℕ → Word) (v tag : ℕ) (saved : ℕ → Option Obj) (value : ℕ → ℕ)
    → ((i : ℕ) → stage_at p i ≡ stage_at r i)
    → tag < SLOTS * OBJECTS → IsBurst f g (OBJECT_TAGS_AT + tag) 1 value → value 0 ≡ 0
    → v + 1 < (f (OBJECT_TAGS_AT + tag)).cached
    → ObjectsClear r (Clearing tag) f v saved → ObjectsClear p (Clearing (tag + 1)) g v saved
tag_cleared r p f g v tag saved value same lt e zero above h = record {
  left = h.left;
  stood = h.stood;
  idle = other_idle r p same h.idle;
  known = λ id li slot s.
      let at = object_tag_at id slot in
      let word = h.left at in
      let k = h.known id li slot s in (
        elim (same_or_not (SLOTS * id + slot) tag) [
          | inl here ↦
              let place : OBJECT_TAGS_AT + tag ≡ object_tag_at id slot = omega (arith, here) in
              let clean = tag_clean v (SLOTS * id + slot) tag at word f here k.0 in
              let up : v + 1 < (f (object_tag_at id slot)).cached = subst
              (λ (q : ℕ). v + 1 < (f q).cached) place above in
              let burst = subst (λ (q : ℕ). IsBurst f g q 1 value) place e in
              tag_goes v (SLOTS * id + slot) tag at word g here (omega (arith, up, clean.0))
              (burst_one LEADER f g at word 0 value burst.words zero clean.1)
          | inr ne ↦ tag_passed v (SLOTS * id + slot) tag at word f g ne
              (burst_off f g (OBJECT_TAGS_AT + tag) 1 at value e.words (grind arith)) k.0
        ],
        λ j l. calm_word LEADER Clean (f (object_slot_at id slot + j)) (g (object_slot_at id slot + j))
            (h.left (object_slot_at id slot + j))
            (burst_off f g (OBJECT_TAGS_AT + tag) 1 (object_slot_at id slot + j) value e.words (inr (omega arith)))
            (k.1 j l),
      );
}

-- another one stays
pub tag_kept : (r p : Room) (f : ℕ → Word) (v tag : ℕ) (saved : ℕ → Option Obj)
    → ((i : ℕ) → stage_at p i ≡ stage_at r i)
    → (f (OBJECT_TAGS_AT + tag)).cached ≤ v + 1 → ObjectsClear r (Clearing tag) f v saved
    → ObjectsClear p (Clearing (tag + 1)) f v saved
tag_kept r p f v tag saved same low h = record {
  left = h.left;
  stood = h.stood;
  idle = other_idle r p same h.idle;
  known = λ id li slot s.
      let at = object_tag_at id slot in
      let word = h.left at in
      let k = h.known id li slot s in (
        elim (same_or_not (SLOTS * id + slot) tag) [
          | inl here ↦
              let place : OBJECT_TAGS_AT + tag ≡ object_tag_at id slot = omega (arith, here) in
              let clean = tag_clean v (SLOTS * id + slot) tag at word f here k.0 in
              let down : (f (object_tag_at id slot)).cached ≤ v + 1 = subst
              (λ (q : ℕ). (f q).cached ≤ v + 1) place low in
              tag_stays v (SLOTS * id + slot) tag at word f (omega (arith, down, clean.0)) clean
          | inr ne ↦ tag_passed v (SLOTS * id + slot) tag at word f f ne (calm_same (f at) (f at) refl) k.0
        ],
        k.1,
      );
}

-- all tags were looked at, and are flushed
tag_flown : (v t tag at word n j : ℕ) (f g : ℕ → Word) → t < tag → j < n → ((i : ℕ) → g i ≡ flushes LEADER at n f i)
    → IsKnown LEADER (tag_map (Clearing tag) v t (at + j) word) f → IsKnown LEADER (tag_map Cleared v t (at + j) word) g
tag_flown v t tag at word n j f g seen l e h =
    ⊎_elim
    (λ (yes : is_above v word ≡ true).
    let on : (nat_lt t tag && is_above v word) ≡ true = grind (arith, nat_tests) in
    rw yes (flush_in LEADER (Over word) f g at n j 0 e l (rw on at h)))
    (λ (no : is_above v word ≡ false).
    let off : (nat_lt t tag && is_above v word) ≡ false = grind (arith, nat_tests) in
    rw no (calm_word LEADER Clean (f (at + j)) (g (at + j)) word (flush_calm f g LEADER at n e (at + j)) (rw off at h)))
    (cases_Bool (is_above v word))

pub tags_flushed : (r p : Room) (f g : ℕ → Word) (v tag : ℕ) (saved : ℕ → Option Obj)
    → ((i : ℕ) → stage_at p i ≡ stage_at r i)
    → SLOTS * OBJECTS ≤ tag → ((i : ℕ) → g i ≡ flushes LEADER OBJECT_TAGS_AT (SLOTS * OBJECTS) f i)
    → ObjectsClear r (Clearing tag) f v saved → ObjectsClear p Cleared g v saved
tags_flushed r p f g v tag saved same all e h = record {
  left = h.left;
  stood = h.stood;
  idle = other_idle r p same h.idle;
  known = λ id li slot s.
      let k = h.known id li slot s in
      let place : OBJECT_TAGS_AT + (SLOTS * id + slot) ≡ object_tag_at id slot = omega arith in
      let word = h.left (object_tag_at id slot) in (
        subst (λ (q : ℕ). IsKnown LEADER (tag_map Cleared v (SLOTS * id + slot) q word) g) place
            (tag_flown v (SLOTS * id + slot) tag OBJECT_TAGS_AT word (SLOTS * OBJECTS) (SLOTS * id + slot) f g
            (omega (arith, all)) (omega arith) e
            (subst (λ (q : ℕ). IsKnown LEADER (tag_map (Clearing tag) v (SLOTS * id + slot) q word) f)
            (sym place) k.0)),
        λ j l. calm_word LEADER Clean (f (object_slot_at id slot + j)) (g (object_slot_at id slot + j))
            (h.left (object_slot_at id slot + j))
            (flush_calm f g LEADER OBJECT_TAGS_AT (SLOTS * OBJECTS) e (object_slot_at id slot + j)) (k.1 j l),
      );
}

-- what is chosen isn't cleared
pub clear_spares : (f g : ℕ → Word) (v tag : ℕ) (value : ℕ → ℕ) → tag < SLOTS * OBJECTS
    → IsBurst f g (OBJECT_TAGS_AT + tag) 1 value
    → v + 1 < (f (OBJECT_TAGS_AT + tag)).cached → SparesChosen f g v
clear_spares f g v tag value lt e above = λ id slot li chosen.
    let ne : object_tag_at id slot ≢ OBJECT_TAGS_AT + tag = λ same.
    let low : (f (OBJECT_TAGS_AT + tag)).cached ≤ v + 1 = subst
    (λ (q : ℕ). (f q).cached ≤ v + 1) same chosen.not_above in omega arith in
    record {
      tag = burst_off f g (OBJECT_TAGS_AT + tag) 1 (object_tag_at id slot) value e.words (grind (arith, ne));
      words = λ j l. burst_off f g (OBJECT_TAGS_AT + tag) 1 (object_slot_at id slot + j) value e.words
          (inr (omega arith));
    }
