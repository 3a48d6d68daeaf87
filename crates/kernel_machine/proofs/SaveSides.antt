-- What the side says of cores: what they have in hand, and which pages may be stored to.
use Rattle.std.specs.Prelude.{◌≡◌, ◌≢◌, ℕ, ◌<◌, ◌≤◌, ◌&&◌, nat_lt, Bool, true, false, List, length, map, Option, Some}
use Rattle.std.specs.Prelude.{None, slice_index_or, slice_set}
use Rattle.std.specs.List.{range_with_len}
use Rattle.std.proofs.Common.{refl, ap, sym, ◌∙◌, arith, inl, inr}
use Rattle.std.proofs.Math.Path.{fun_ext}
use Rattle.std.proofs.lemmas.Bool.{cases_eq, cases_lt, le-ltb}
use Rattle.std.proofs.lemmas.Grind.{get_or-set_at}
use Rattle.std.proofs.lemmas.List.{ext_get_or, get_or-set_other, get_or_past, length-set}
use Rattle.std.proofs.lemmas.List.FromFn.{get_or-map-range_with_len, length-map-range_with_len}
use Rattle.sls_base.specs.declared.limits.TheConstants.{PAGES}
use Rattle.page_store.specs.declared.stage.PageState.{PageState}
use Rattle.page_store.specs.Stages.{state_of}
use Rattle.core_turns.specs.declared.running.Running.{Running}
use Rattle.core_turns.specs.Runs.{prepared_by}
use Rattle.machine_contract.specs.Side.{CoreSide, free_core}
use Rattle.kernel_machine.specs.Sides.{due_of, hand_of, is_writable_at, writable_by}

-- Hands.

-- what running cores have in hand
abbrev pub hands : Running → ℕ → List CoreSide
hands k cores = map (hand_of k) (range_with_len 0 cores)

-- one of them
abbrev pub hand_in : Running → ℕ → ℕ → CoreSide
hand_in k cores core = slice_index_or (hands k cores) core free_core

-- a core that has this in hand
abbrev pub hand_with : Running → Option ℕ → CoreSide
hand_with k page = record { prepares = page; holds = None; due = due_of k page }

pub hand_at : (k : Running) (cores core : ℕ) → core < cores → hand_in k cores core ≡ hand_of k core
hand_at k cores core below =
    get_or-map-range_with_len (hand_of k) 0 cores core core free_core below (omega arith)

hand_past : (k : Running) (cores core : ℕ) → cores ≤ core → hand_in k cores core ≡ free_core
hand_past k cores core past =
    get_or_past (hands k cores) core free_core (omega (arith, past, length-map-range_with_len (hand_of k) 0 cores))

pub free_hand : (k : Running) (core : ℕ) → prepared_by k core ≡ None → hand_of k core ≡ free_core
free_hand k core none = ap (hand_with k) none

pub held_hand : (k : Running) (core page : ℕ) → prepared_by k core ≡ Some page
    → hand_of k core ≡ hand_with k (Some page)
held_hand k core page hand = ap (hand_with k) hand

-- where no core has a page in hand, all are free
pub all_free : (k : Running) (cores core : ℕ) → ((c : ℕ) → prepared_by k c ≡ None)
    → hand_in k cores core ≡ free_core
all_free k cores core none = elim (cases_lt core cores) [
  | inl below ↦ hand_at k cores core below ∙ free_hand k core (none core)
  | inr past ↦ hand_past k cores core past
]

pub same_hands : (old new : Running) (cores : ℕ) → ((c : ℕ) → prepared_by old c ≡ None)
    → ((c : ℕ) → prepared_by new c ≡ None) → hands new cores ≡ hands old cores
same_hands old new cores before then =
    let alike : hand_of new ≡ hand_of old =
    fun_ext (λ (c : ℕ). free_hand new c (then c) ∙ sym (free_hand old c (before c))) in
    ap (λ (hand : ℕ → CoreSide). map hand (range_with_len 0 cores)) alike

-- the page that a core has in hand is the same where the cores' pages are
pub prepares_same : (old new : Running) → new.prepares ≡ old.prepares
    → (core : ℕ) → prepared_by new core ≡ prepared_by old core
prepares_same old new same core = ap (λ (pages : List (Option ℕ)). slice_index_or pages core None) same

-- Where the other cores have in hand what they had, the list is another at this core alone.
module _ (old new : Running) (cores core : ℕ) (below : core < cores)
    (others : (c : ℕ) → c ≢ core → hand_of new c ≡ hand_of old c) where
  size : (k : Running) → length (hands k cores) ≡ cores
  size k = length-map-range_with_len (hand_of k) 0 cores

  set_size : length (hands new cores) ≡ length (slice_set (hands old cores) core (hand_in new cores core))
  set_size =
      size new ∙ sym (size old) ∙ sym (length-set (hands old cores) core (hand_in new cores core))

  hands_are : (c : ℕ) → c < length (hands new cores)
      → hand_in new cores c
      ≡ slice_index_or (slice_set (hands old cores) core (hand_in new cores core)) c free_core
  hands_are c inside = elim (cases_eq c core) [
    | inl here ↦
        ap (hand_in new cores) here
        ∙ sym (get_or-set_at (hands old cores) core c (hand_in new cores core) free_core here
        (omega (arith, below, size old)))
    | inr apart ↦
        hand_at new cores c (omega (arith, inside, size new)) ∙ others c apart
        ∙ sym (hand_at old cores c (omega (arith, inside, size new)))
        ∙ sym (get_or-set_other (hands old cores) core c (hand_in new cores core) free_core apart)
  ]

  pub other_hands : hands new cores ≡ slice_set (hands old cores) core (hand_in new cores core)
  other_hands =
      ext_get_or free_core (hands new cores) (slice_set (hands old cores) core (hand_in new cores core)) set_size
      hands_are

-- Pages.

pub same_writable_at : (old new : Running) (page : ℕ)
    → (page < PAGES → state_of new.rooms.pages page ≡ state_of old.rooms.pages page)
    → writable_by new page ≡ writable_by old page
same_writable_at old new page states = elim (cases_lt page PAGES) [
  | inl below ↦ ap (λ (s : PageState). nat_lt page PAGES && is_writable_at s) (states below)
  | inr past ↦ rw (le-ltb page PAGES past) refl
]

pub same_writable : (old new : Running)
    → ((page : ℕ) → page < PAGES → state_of new.rooms.pages page ≡ state_of old.rooms.pages page)
    → writable_by new ≡ writable_by old
same_writable old new states = fun_ext (λ (page : ℕ). same_writable_at old new page (states page))

pub none_writable_at : (k : Running) (page : ℕ)
    → (page < PAGES → is_writable_at (state_of k.rooms.pages page) ≡ false) → writable_by k page ≡ false
none_writable_at k page none = elim (cases_lt page PAGES) [
  | inl below ↦ rw (none below) (and_false (nat_lt page PAGES))
  | inr past ↦ rw (le-ltb page PAGES past) refl
]
  where
    and_false : (b : Bool) → (b && false) ≡ false
    and_false true = refl
    and_false false = refl

pub none_writable_either : (old new : Running)
    → ((page : ℕ) → page < PAGES → is_writable_at (state_of old.rooms.pages page) ≡ false)
    → ((page : ℕ) → page < PAGES → is_writable_at (state_of new.rooms.pages page) ≡ false)
    → writable_by new ≡ writable_by old
none_writable_either old new before then =
    fun_ext (λ (page : ℕ). none_writable_at new page (then page) ∙ sym (none_writable_at old page (before page)))
