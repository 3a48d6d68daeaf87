-- What calls on notifications do.
use Rattle.std.specs.Prelude.{◌≡◌, ◌≢◌, ℕ, ◌+◌, ◌-◌, ◌^◌, ◌<◌, ◌==◌, false, List, [], ◌∷◌, ◌++◌, min, Option, Some, slice_set}
use Rattle.std.proofs.Common.{refl, ap, ◌∙◌, arith}
use Rattle.std.proofs.lemmas.Bool.{eqb-false}
use Rattle.sls_base.specs.declared.thread.Thread.{Thread as ThreadRecord}
use Rattle.sls_base.specs.declared.thread.ThreadState.TheVariants.{Waiting}
use Rattle.plain_state.specs.declared.calls.TheConstants.{ANSWER}
use Rattle.plain_state.specs.Objects.{Object, Notification}
use Rattle.plain_state.specs.States.{State, thread_at}
use Rattle.plain_state.specs.Effects.{waits}
use Rattle.plain_state.specs.Calls.{id_named, named}
use Rattle.plain_state.specs.CallRefusals.{is_full_count}
use Rattle.plain_state.specs.CallEffects.{change, answers_with, ready_with, signal_effect, wait_effect}

-- the first waiter becomes Ready
pub signal_wakes : (s : State) (thread : ThreadRecord) (id first count : ℕ) (waiters : List ℕ) → id_named s thread 0 ≡ id → s.objects id ≡ Some (Notification count (first ∷ waiters)) →
    signal_effect s thread (id_named s thread 0) (named s thread 0)
    ≡ record (answers_with thread 0 (change id (Notification count waiters) ∷ ready_with s first (slice_set (thread_at s first).x ANSWER 0) ∷ [])) { wakes = first ∷ [] }
signal_wakes s thread id first count waiters id_is there =
    ap (λ (n : ℕ). signal_effect s thread n (s.objects n)) id_is ∙ ap (λ (o : Option Object). signal_effect s thread id o) there

-- or the count rises
pub signal_counts : (s : State) (thread : ThreadRecord) (id count : ℕ) → id_named s thread 0 ≡ id → s.objects id ≡ Some (Notification count []) →
    signal_effect s thread (id_named s thread 0) (named s thread 0) ≡ answers_with thread 0 (change id (Notification (count + 1) []) ∷ [])
signal_counts s thread id count id_is there =
    ap (λ (n : ℕ). signal_effect s thread n (s.objects n)) id_is ∙ ap (λ (o : Option Object). signal_effect s thread id o) there

-- the caller waits
pub wait_waits : (s : State) (thread : ThreadRecord) (me id count : ℕ) (waiters : List ℕ) → id_named s thread 0 ≡ id → s.objects id ≡ Some (Notification count waiters) → count ≡ 0 →
    wait_effect me thread (id_named s thread 0) (named s thread 0) ≡ record (waits thread (Waiting id)) { changes = change id (Notification 0 (waiters ++ me ∷ [])) ∷ [] }
wait_waits s thread me id count waiters id_is there none =
    ap (λ (n : ℕ). wait_effect me thread n (s.objects n)) id_is ∙ ap (λ (o : Option Object). wait_effect me thread id o) (there ∙ ap (λ (n : ℕ). Some (Notification n waiters)) none)

-- or takes one from the count
pub wait_takes : (s : State) (thread : ThreadRecord) (me id count : ℕ) (waiters : List ℕ) → id_named s thread 0 ≡ id → s.objects id ≡ Some (Notification count waiters) → (count == 0) ≡ false →
    wait_effect me thread (id_named s thread 0) (named s thread 0) ≡ answers_with thread 0 (change id (Notification (count - 1) waiters) ∷ [])
wait_takes s thread me id count waiters id_is there some =
    ap (λ (n : ℕ). wait_effect me thread n (s.objects n)) id_is ∙ ap (λ (o : Option Object). wait_effect me thread id o) there ∙ rw some refl

-- a count that isn't the greatest rises by one
pub rises : (count new : ℕ) → new ≡ min (count + 1) (2 ^ 32 - 1) → count < 2 ^ 32 → count ≢ 2 ^ 32 - 1 → new ≡ count + 1
rises count new e small other = omega (arith, e, other)

pub not_greatest : (count : ℕ) → is_full_count (Some (Notification count [])) ≡ false → count ≢ 2 ^ 32 - 1
not_greatest count e = eqb-false count (2 ^ 32 - 1) e
