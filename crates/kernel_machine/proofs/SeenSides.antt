-- What cores have in hand is sound.
use Rattle.std.specs.Prelude.{◌≡◌, ℕ, ◌<◌, ◌≤◌, true, map, replicate, Option, Some, None, slice_index_or}
use Rattle.std.specs.List.{range_with_len}
use Rattle.std.proofs.Common.{refl, sym, subst, arith, inl, inr}
use Rattle.std.proofs.lemmas.Bool.{cases_lt}
use Rattle.std.proofs.lemmas.List.{get_or_past, get_or-replicate, length-replicate}
use Rattle.std.proofs.lemmas.List.FromFn.{get_or-map-range_with_len, length-map-range_with_len}
use Rattle.plain_state.specs.Worlds.{World, has_page}
use Rattle.page_store.specs.declared.stage.PageStage.{PageStage}
use Rattle.page_store.specs.declared.stage.PageStage.TheVariants.{Fresh, Protected, Preparing, Writable}
use Rattle.page_store.specs.declared.stage.Preparation.TheVariants.{FlushCopy, FenceCopy, StoreTag, FlushTag, FenceTag}
use Rattle.page_store.specs.declared.stage.PageState.TheVariants as states
use Rattle.page_store.specs.Stages.{stage_of, state_at}
use Rattle.cow_fault.specs.Faults.{steps_left}
use Rattle.core_turns.specs.declared.running.Running.{Running}
use Rattle.core_turns.specs.Runs.{prepared_by}
use Rattle.machine_contract.specs.declared.bounds.TheConstants.{MOST_DUE, COPY_TURNS}
use Rattle.machine_contract.specs.Side.{CoreSide, IsSoundCore, free_core}
use Rattle.kernel_machine.specs.Sides.{due_of, hand_of}

-- Turns that are due.

-- a page that a core prepares needs a turn yet
pub some_due : (stage : PageStage) (core : ℕ) → state_at stage ≡ states.Preparing core → steps_left stage ≡ 0 → ⊥
some_due Fresh core is none = cc
some_due Protected core is none = cc
some_due (Preparing c FlushCopy) core is none = omega arith
some_due (Preparing c FenceCopy) core is none = omega arith
some_due (Preparing c StoreTag) core is none = omega arith
some_due (Preparing c FlushTag) core is none = omega arith
some_due (Preparing c FenceTag) core is none = omega arith
some_due (Writable origin writes) core is none = cc

pub most_due : (stage : PageStage) → steps_left stage ≤ MOST_DUE
most_due Fresh = omega arith
most_due Protected = omega arith
most_due (Preparing c FlushCopy) = omega arith
most_due (Preparing c FenceCopy) = omega arith
most_due (Preparing c StoreTag) = omega arith
most_due (Preparing c FlushTag) = omega arith
most_due (Preparing c FenceTag) = omega arith
most_due (Writable origin writes) = omega arith

-- What one core has in hand.

-- Of a core: it is sound, it holds no entry, and the page that it prepares is one of the running state.
pub record IsHand (w : World) (core : CoreSide) : Type 0 where
  pub sound : IsSoundCore core
  pub holds : core.holds ≡ None
  pub there : (page : ℕ) → core.prepares ≡ Some page → has_page w.now page ≡ true

no_entry_held : (entry due : ℕ) → ◌≡◌ {A = Option ℕ} None (Some entry) → due ≤ COPY_TURNS
no_entry_held entry due held = absurd (cc)

pub free_is_hand : (w : World) → IsHand w free_core
free_is_hand w = record {
  sound = record {
    due = (λ d. (refl, refl), λ free. refl);
    most = omega arith;
    copies = λ entry held. no_entry_held entry 0 held;
    one = inr refl;
  };
  holds = refl;
  there = λ page is. absurd (let wrong : ◌≡◌ {A = Option ℕ} None (Some page) = is in cc);
}

-- It has a page in hand only as the page's room says.
abbrev pub IsInRoom : Running → Option ℕ → Type 0
IsInRoom k prepares = (page : ℕ) → prepares ≡ Some page → steps_left (stage_of k.rooms.pages page) ≡ 0 → ⊥

-- what a core has in hand that prepares this
abbrev pub hand_with : Running → Option ℕ → CoreSide
hand_with k prepares = record { prepares = prepares; holds = None; due = due_of k prepares }

sound_with : (k : Running) (prepares : Option ℕ) → IsInRoom k prepares → IsSoundCore (hand_with k prepares)
sound_with k None has = record {
  due = (λ d. (refl, refl), λ free. refl);
  most = omega arith;
  copies = λ entry held. no_entry_held entry 0 held;
  one = inr refl;
}
sound_with k (Some page) has = record {
  due = (
    λ d. absurd (has page refl d),
    λ free. absurd (let wrong : Some page ≡ None = free.0 in cc),
  );
  most = most_due (stage_of k.rooms.pages page);
  copies = λ entry held. no_entry_held entry (steps_left (stage_of k.rooms.pages page)) held;
  one = inr refl;
}

pub is_hand : (k : Running) (w : World) (core : ℕ) → IsInRoom k (prepared_by k core)
    → ((page : ℕ) → prepared_by k core ≡ Some page → has_page w.now page ≡ true) → IsHand w (hand_of k core)
is_hand k w core has there = record {
  sound = sound_with k (prepared_by k core) has;
  holds = refl;
  there = there;
}

-- What each core has in hand.

-- one of them, or nothing
pub hand_at : (k : Running) (cores core : ℕ) → core < cores
    → slice_index_or (map (hand_of k) (range_with_len 0 cores)) core free_core ≡ hand_of k core
hand_at k cores core below = get_or-map-range_with_len (hand_of k) 0 cores core core free_core below (omega arith)

pub hand_past : (k : Running) (cores core : ℕ) → cores ≤ core
    → slice_index_or (map (hand_of k) (range_with_len 0 cores)) core free_core ≡ free_core
hand_past k cores core past =
    let size = length-map-range_with_len (hand_of k) 0 cores in
    get_or_past (map (hand_of k) (range_with_len 0 cores)) core free_core (omega arith)

pub free_at : (cores core : ℕ) → slice_index_or (replicate cores free_core) core free_core ≡ free_core
free_at cores core = elim (cases_lt core cores) [
  | inl below ↦ get_or-replicate cores core free_core free_core below
  | inr past ↦
      let size = length-replicate cores free_core in
      get_or_past (replicate cores free_core) core free_core (omega arith)
]

pub all_free : (w : World) (cores core : ℕ) → IsHand w (slice_index_or (replicate cores free_core) core free_core)
all_free w cores core = subst (IsHand w) (sym (free_at cores core)) (free_is_hand w)

pub all_hands : (k : Running) (w : World) (cores : ℕ) → ((core : ℕ) → IsInRoom k (prepared_by k core))
    → ((core page : ℕ) → prepared_by k core ≡ Some page → has_page w.now page ≡ true)
    → (core : ℕ) → IsHand w (slice_index_or (map (hand_of k) (range_with_len 0 cores)) core free_core)
all_hands k w cores has there core = elim (cases_lt core cores) [
  | inl below ↦ subst (IsHand w) (sym (hand_at k cores core below)) (is_hand k w core (has core) (there core))
  | inr past ↦ subst (IsHand w) (sym (hand_past k cores core past)) (free_is_hand w)
]
