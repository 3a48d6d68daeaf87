-- A call that isn't refused.
use Rattle.std.specs.Prelude.{◌≡◌, ℕ, zero, suc, ◌<◌, ◌≤◌, ◌&&◌, not, nat_le, Bool, true, false, List, [], ◌∷◌, length, find, Option, Some, None, slice_index_or}
use Rattle.std.specs.List.{list_any}
use Rattle.std.proofs.Common.{refl, cond, arith, rules, tests}
use Rattle.sls_base.proofs.ListTests.{or_false}
use Rattle.sls_base.specs.declared.limits.TheConstants.{ENTRY_BYTES}
use Rattle.sls_base.specs.declared.thread.Thread.{Thread as ThreadRecord}
use Rattle.plain_state.specs.declared.calls.Call.{Call}
use Rattle.plain_state.specs.declared.calls.Call.TheVariants.{Put, Signal}
use Rattle.plain_state.specs.declared.calls.Refusal.TheVariants.{NoCap}
use Rattle.plain_state.specs.Worlds.{World}
use Rattle.plain_state.specs.Calls.{arg, named, needs}
use Rattle.plain_state.specs.Refusals.{refusal_order}
use Rattle.plain_state.specs.CallRefusals.{is_unmet, is_refused_besides, is_refused_by, is_full_count, refusal_of}

not_first : {X : Type 0} (b : Bool) (x : X) (rest : Option X) → cond b (Some x) rest ≡ None → (b ≡ false) × (rest ≡ None)
not_first true x rest e = absurd (cc)
not_first false x rest e = (refl, e)

-- where no element is found, each fails the test
pub fails_each : {X : Type 0} (f : X → Bool) (xs : List X) (k : ℕ) (d : X) → find f xs ≡ None → k < length xs → f (slice_index_or xs k d) ≡ false
fails_each f [] k d e l = absurd (omega arith)
fails_each f (x ∷ xs) zero d e l = (not_first (f x) x (find f xs) e).0
fails_each f (x ∷ xs) (suc k) d e l = fails_each f xs k d (not_first (f x) x (find f xs) e).1 (omega arith)

-- what is asked beside the needs holds, by the place of its refusal in the order
pub not_besides : (w : World) (id : ℕ) (thread : ThreadRecord) (call : Call) (k : ℕ) → k < 13 → refusal_of w id thread call ≡ None → is_refused_besides w id thread call (slice_index_or refusal_order k NoCap) ≡ false
unfolding refusal_of
not_besides w id thread call k l e =
    let refusal = slice_index_or refusal_order k NoCap in
    (or_false (list_any (is_unmet w.now thread refusal) (needs thread call)) (is_refused_besides w id thread call refusal)
    (fails_each (is_refused_by w id thread call) refusal_order k NoCap e (omega arith))).1

length_is_small : (n : ℕ) (a b : Bool) → nat_le n ENTRY_BYTES ≡ b → not (a && b) ≡ false → n ≤ ENTRY_BYTES
length_is_small n true true e f = search (rules, tests)
length_is_small n true false e f = absurd (cc)
length_is_small n false b e f = absurd (cc)

pub put_size : (w : World) (id : ℕ) (thread : ThreadRecord) → refusal_of w id thread Put ≡ None → arg thread 2 ≤ ENTRY_BYTES
put_size w id thread e = length_is_small (arg thread 2) (nat_le 1 (arg thread 2)) (nat_le (arg thread 2) ENTRY_BYTES) refl (not_besides w id thread Put 4 (omega arith) e)

pub signal_room : (w : World) (id : ℕ) (thread : ThreadRecord) → refusal_of w id thread Signal ≡ None → is_full_count (named w.now thread 0) ≡ false
signal_room w id thread e = not_besides w id thread Signal 10 (omega arith) e
