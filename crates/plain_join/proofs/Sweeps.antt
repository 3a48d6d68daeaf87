-- A sweep takes nothing away: each object is reached.
use Rattle.std.specs.Prelude.{◌≡◌, ℕ, zero, suc, ◌+◌, ◌<◌, Bool, true, false, ◌&&◌, [], ◌∷◌, filter, Option, Some, None, option_map, if◌then◌else◌}
use Rattle.std.specs.List.{list_any}
use Rattle.std.proofs.Common.{refl, ap, sym, arith}
use Rattle.std.proofs.lemmas.Bool.{lt-ltb}
use Rattle.sls_base.specs.declared.limits.TheConstants.{OBJECTS}
use Rattle.sls_base.specs.declared.fixed.TheConstants.{FIRST_PROGRAM_OBJECT}
use Rattle.sls_base.proofs.ListTests.{IsIn, or_left, or_right, and_both, any_in, in_range}
use Rattle.sls_kernel.specs.declared.thread.Status.{Status}
use Rattle.sls_kernel.specs.declared.thread.Status.TheVariants.{Ready as IsReady, Running as IsRunning, Stopped as HasStopped}
use Rattle.sls_kernel.specs.Plain.{State as ProgramState}
use Rattle.plain_state.specs.declared.objects.Occupant.{Occupant}
use Rattle.plain_model.specs.Objects.{Object, every_object}
use Rattle.plain_model.specs.States.{State}
use Rattle.plain_model.specs.Sweep.{leads_to, is_within, is_reached, swept, settled, settled_state, kept_on_core}
use Rattle.plain_join.specs.Joined.{memory_object, thread_object, state_of, queue_of, occupant_of}
use Rattle.plain_join.proofs.Canon.{code_state, code_list, are_list, none_past, same_state}

-- Reached.

abbrev is_within_by_one : State → ℕ → ℕ → ℕ → Bool
is_within_by_one s n i from = is_within s n from && leads_to (s.objects from) i

within_more : (s : State) (n i : ℕ) → is_within s n i ≡ true → is_within s (suc n) i ≡ true
unfolding is_within
within_more s n i e = or_left (is_within s n i) (list_any (is_within_by_one s n i) every_object) e

within_up : (s : State) (n k i : ℕ) → is_within s n i ≡ true → is_within s (k + n) i ≡ true
within_up s n zero i e = rw (let none : 0 + n ≡ n = omega arith in none) e
within_up s n (suc k) i e =
    let more : suc k + n ≡ suc (k + n) = omega arith in
    rw more (within_more s (k + n) i (within_up s n k i e))

is_object : (i : ℕ) → i < OBJECTS → IsIn i every_object
unfolding every_object
is_object i l = in_range 0 OBJECTS i (omega arith) (omega arith)

within_step : (s : State) (n from i : ℕ) → from < OBJECTS → is_within s n from ≡ true → leads_to (s.objects from) i ≡ true
    → is_within s (suc n) i ≡ true
unfolding is_within
within_step s n from i l e f =
    let both = and_both (is_within s n from) (leads_to (s.objects from) i) e f in
    or_right (is_within s n i) (list_any (is_within_by_one s n i) every_object)
    (any_in (is_within_by_one s n i) every_object from (is_object from l) both)

fixed_within : (s : State) (i : ℕ) → i < FIRST_PROGRAM_OBJECT → is_within s 0 i ≡ true
unfolding is_within
fixed_within s i l = lt-ltb i FIRST_PROGRAM_OBJECT l

within_reached : (s : State) (n k i : ℕ) → k + n ≡ OBJECTS → is_within s n i ≡ true → is_reached s i ≡ true
unfolding is_reached
within_reached s n k i sum e = rw (sym sum) (within_up s n k i e)

fixed_reached : (s : State) (i : ℕ) → i < FIRST_PROGRAM_OBJECT → is_reached s i ≡ true
fixed_reached s i l = within_reached s 0 128 i refl (fixed_within s i l)

-- the root group leads to the program's group, and that to its other objects

group_within : (s : ProgramState) → is_within (code_state s) 1 7 ≡ true
group_within s = within_step (code_state s) 0 0 7 (omega arith) (fixed_within (code_state s) 0 (omega arith)) refl

group_reached : (s : ProgramState) → is_reached (code_state s) 7 ≡ true
group_reached s = within_reached (code_state s) 1 127 7 refl (group_within s)

member_reached : (s : ProgramState) (i : ℕ) → leads_to ((code_state s).objects 7) i ≡ true → is_reached (code_state s) i ≡ true
member_reached s i leads = within_reached (code_state s) 2 126 i refl (within_step (code_state s) 1 7 i (omega arith) (group_within s) leads)

-- What is left.

abbrev swept_object : State → ℕ → Option Object
swept_object s i = if is_reached s i then option_map (settled s) (s.objects i) else None

left_there : (s : ProgramState) (i : ℕ) (o : Object) → is_reached (code_state s) i ≡ true → (code_state s).objects i ≡ Some o
    → settled (code_state s) o ≡ o → swept_object (code_state s) i ≡ Some o
left_there s i o reached there same = rw (reached, there, same) refl

none_left : (s : State) (i : ℕ) (b : Bool) → s.objects i ≡ None → (if b then option_map (settled s) (s.objects i) else None) ≡ None
none_left s i true none = rw none refl
none_left s i false none = refl

state_stays : (s : State) (status : Status) → settled_state s (state_of status) ≡ state_of status
state_stays s IsReady = refl
state_stays s (IsRunning slice) = refl
state_stays s (HasStopped cause) = refl

thread_stays : (s : ProgramState) → settled (code_state s) (thread_object s.thread) ≡ thread_object s.thread
thread_stays s = rw (state_stays (code_state s) s.thread.status) refl

objects_stay : (s : ProgramState) → (swept (code_state s)).objects ≡ (code_state s).objects
objects_stay s =
    let w = code_state s in
    are_list (swept_object w) (code_list (memory_object s.byte) (thread_object s.thread)) (
      left_there s 0 _ (fixed_reached w 0 (omega arith)) refl refl,
      (
        left_there s 1 _ (fixed_reached w 1 (omega arith)) refl refl,
        (
          left_there s 2 _ (fixed_reached w 2 (omega arith)) refl refl,
          (
            left_there s 3 _ (fixed_reached w 3 (omega arith)) refl refl,
            (
              left_there s 4 _ (fixed_reached w 4 (omega arith)) refl refl,
              (
                left_there s 5 _ (fixed_reached w 5 (omega arith)) refl refl,
                (
                  left_there s 6 _ (fixed_reached w 6 (omega arith)) refl refl,
                  (
                    left_there s 7 _ (group_reached s) refl refl,
                    (
                      left_there s 8 _ (member_reached s 8 refl) refl refl,
                      (
                        left_there s 9 _ (member_reached s 9 refl) refl refl,
                        (left_there s 10 _ (member_reached s 10 refl) refl (thread_stays s), tt),
                      ),
                    ),
                  ),
                ),
              ),
            ),
          ),
        ),
      ),
    )
    (λ i past. none_left w i (is_reached w i) (none_past (memory_object s.byte) (thread_object s.thread) i past))

queue_stays : (s : State) (status : Status) → is_reached s 10 ≡ true → filter (is_reached s) (queue_of status) ≡ queue_of status
queue_stays s IsReady e = rw e refl
queue_stays s (IsRunning slice) e = refl
queue_stays s (HasStopped cause) e = refl

core_stays : (s : State) (status : Status) → is_reached s 10 ≡ true → kept_on_core s (occupant_of status) ≡ occupant_of status
core_stays s IsReady e = refl
core_stays s (IsRunning slice) e = rw e refl
core_stays s (HasStopped cause) e = refl

pub swept_is : (s : ProgramState) → swept (code_state s) ≡ code_state s
swept_is s =
    let w = code_state s in
    let thread = member_reached s 10 refl in
    same_state (swept w) w (objects_stay s) (queue_stays w s.thread.status thread)
    (ap (λ (core : Option Occupant). core ∷ []) (core_stays w s.thread.status thread)) refl refl
