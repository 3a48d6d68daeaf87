-- What is seen of the hands of running cores, and of the pages that may be stored to.
use Rattle.std.specs.Prelude.{◌≡◌, ◌≢◌, ℕ, ◌<◌, ◌≤◌, ◌&&◌, Bool, true, false, List, length, map, Option, Some, None, slice_index_or, slice_set}
use Rattle.std.specs.List.{range_with_len}
use Rattle.std.proofs.Common.{refl, ap, sym, ◌∙◌, inl, inr, arith}
use Rattle.std.proofs.Math.Path.{fun_ext}
use Rattle.std.proofs.lemmas.Bool.{cases_eq, cases_lt, lt-ltb, le-ltb}
use Rattle.std.proofs.lemmas.Grind.{get_or-set_at}
use Rattle.std.proofs.lemmas.List.{ext_get_or, get_or_past, get_or-set_other, length-set}
use Rattle.std.proofs.lemmas.List.FromFn.{get_or-map-range_with_len, length-map-range_with_len}
use Rattle.sls_base.specs.declared.limits.TheConstants.{PAGES}
use Rattle.page_store.specs.declared.stage.PageState.TheVariants.{Writable}
use Rattle.page_store.specs.Stages.{stage_of, state_of}
use Rattle.cow_fault.specs.Faults.{steps_left}
use Rattle.core_turns.specs.declared.running.Running.{Running}
use Rattle.core_turns.specs.Runs.{prepared_by}
use Rattle.machine_contract.specs.Side.{CoreSide, free_core}
use Rattle.kernel_machine.specs.Sides.{due_of, hand_of, is_writable_at, writable_by}
use Rattle.kernel_machine.proofs.HandsStages.{unwritable}

-- Hands.

-- the hands of so many cores
abbrev pub hands_at : Running → ℕ → List CoreSide
hands_at r cores = map (hand_of r) (range_with_len 0 cores)

-- a core that has a page in hand, or none
abbrev pub holding : Option ℕ → ℕ → CoreSide
holding page due = record { prepares = page; holds = None; due = due }

-- a core without a page has nothing in hand
free_hand : (r : Running) (core : ℕ) → prepared_by r core ≡ None → hand_of r core ≡ free_core
free_hand r core e = ap (λ (page : Option ℕ). holding page (due_of r page)) e

pub hand_below : (r : Running) (cores core : ℕ) → core < cores
    → slice_index_or (hands_at r cores) core free_core ≡ hand_of r core
hand_below r cores core below = get_or-map-range_with_len (hand_of r) 0 cores core core free_core below (omega arith)

count_hands : (r : Running) (cores : ℕ) → length (hands_at r cores) ≡ cores
count_hands r cores = length-map-range_with_len (hand_of r) 0 cores

hand_past : (r : Running) (cores core : ℕ) → cores ≤ core
    → slice_index_or (hands_at r cores) core free_core ≡ free_core
hand_past r cores core past =
    get_or_past (hands_at r cores) core free_core (let count = count_hands r cores in omega (arith, count, past))

-- no core past the last has a page
none_past : (r : Running) (cores core : ℕ) → ((core page : ℕ) → prepared_by r core ≡ Some page → core < cores)
    → cores ≤ core → (page : Option ℕ) → prepared_by r core ≡ page → prepared_by r core ≡ None
none_past r cores core below past None e = e
none_past r cores core below past (Some page) e =
    absurd (let less : core < cores = below core page e in omega arith)

-- so what is seen of each number is what it has
pub hand_each : (r : Running) (cores core : ℕ) → ((core page : ℕ) → prepared_by r core ≡ Some page → core < cores)
    → slice_index_or (hands_at r cores) core free_core ≡ hand_of r core
hand_each r cores core below = elim (cases_lt core cores) [
  | inl less ↦ hand_below r cores core less
  | inr past ↦
      hand_past r cores core past
      ∙ sym (free_hand r core (none_past r cores core below past (prepared_by r core) refl))
]

-- Cores that have in hand what they had, of which as much is due, are seen alike.

due_same : (r n : Running) (page : Option ℕ)
    → ((p : ℕ) → page ≡ Some p → steps_left (stage_of n.rooms.pages p) ≡ steps_left (stage_of r.rooms.pages p))
    → due_of n page ≡ due_of r page
due_same r n None steps = refl
due_same r n (Some p) steps = steps p refl

pub hand_same : (r n : Running) (core : ℕ) → prepared_by n core ≡ prepared_by r core
    → ((p : ℕ) → prepared_by r core ≡ Some p
    → steps_left (stage_of n.rooms.pages p) ≡ steps_left (stage_of r.rooms.pages p))
    → hand_of n core ≡ hand_of r core
hand_same r n core same steps =
    ap (λ (page : Option ℕ). holding page (due_of n page)) same
    ∙ ap (holding (prepared_by r core)) (due_same r n (prepared_by r core) steps)

pub hands_same : (r n : Running) (cores : ℕ) → ((core : ℕ) → hand_of n core ≡ hand_of r core)
    → hands_at n cores ≡ hands_at r cores
hands_same r n cores same = ap (λ (f : ℕ → CoreSide). map f (range_with_len 0 cores)) (fun_ext same)

-- where one core has another in hand, and no other has
module _ (r n : Running) (cores core : ℕ) (below : core < cores)
    (same : (other : ℕ) → other ≢ core → hand_of n other ≡ hand_of r other) where
  abbrev seen : ℕ → CoreSide
  seen i = slice_index_or (hands_at n cores) i free_core

  abbrev but : List CoreSide
  but = slice_set (hands_at r cores) core (seen core)

  at_core : (i : ℕ) → i ≡ core → seen i ≡ slice_index_or but i free_core
  at_core i e =
      ap seen e
      ∙ sym (get_or-set_at (hands_at r cores) core i (seen core) free_core e
      (let count = count_hands r cores in omega (arith, count, below)))

  elsewhere : (i : ℕ) → i < cores → i ≢ core → seen i ≡ slice_index_or but i free_core
  elsewhere i inside apart =
      hand_below n cores i inside ∙ same i apart
      ∙ sym (hand_below r cores i inside)
      ∙ sym (get_or-set_other (hands_at r cores) core i (seen core) free_core apart)

  count_but : length (hands_at n cores) ≡ length but
  count_but =
      count_hands n cores ∙ sym (count_hands r cores) ∙ sym (length-set (hands_at r cores) core (seen core))

  pub hands_but : hands_at n cores ≡ slice_set (hands_at r cores) core (slice_index_or (hands_at n cores) core free_core)
  hands_but = ext_get_or free_core (hands_at n cores) but count_but (λ i inside.
      let less : i < cores = let count = count_hands n cores in omega (arith, count, inside) in
      elim (cases_eq i core) [ inl e ↦ at_core i e | inr apart ↦ elsewhere i less apart ])

-- Pages that may be stored to.

pub writable_in_range : (r : Running) (page : ℕ) → page < PAGES
    → writable_by r page ≡ is_writable_at (state_of r.rooms.pages page)
writable_in_range r page below =
    ap (λ (b : Bool). b && is_writable_at (state_of r.rooms.pages page)) (lt-ltb page PAGES below)

pub writable_past : (r : Running) (page : ℕ) → PAGES ≤ page → writable_by r page ≡ false
writable_past r page past =
    ap (λ (b : Bool). b && is_writable_at (state_of r.rooms.pages page)) (le-ltb page PAGES past)

pub is_writable : (r : Running) (page : ℕ) → page < PAGES → state_of r.rooms.pages page ≡ Writable
    → writable_by r page ≡ true
is_writable r page below e = writable_in_range r page below ∙ ap is_writable_at e

pub not_writable : (r : Running) (page : ℕ) → page < PAGES → (state_of r.rooms.pages page ≡ Writable → ⊥)
    → writable_by r page ≡ false
not_writable r page below not_yet = writable_in_range r page below ∙ unwritable (state_of r.rooms.pages page) not_yet

pub writable_alike : (r n : Running) (page : ℕ)
    → (page < PAGES → state_of n.rooms.pages page ≡ state_of r.rooms.pages page)
    → writable_by n page ≡ writable_by r page
writable_alike r n page same = elim (cases_lt page PAGES) [
  | inl below ↦
      writable_in_range n page below ∙ ap is_writable_at (same below) ∙ sym (writable_in_range r page below)
  | inr past ↦ writable_past n page past ∙ sym (writable_past r page past)
]
