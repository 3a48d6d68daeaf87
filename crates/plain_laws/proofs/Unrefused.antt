-- What is known of a call that isn't refused.
use Rattle.std.specs.Prelude.{◌≡◌, ◌≢◌, ◌-◌, ℕ, false, Some, None, slice_get}
use Rattle.std.specs.List.{list_any}
use Rattle.std.proofs.Common.{refl}
use Rattle.sls_base.specs.declared.thread.Thread.{Thread}
use Rattle.plain_state.specs.declared.calls.Call.{Call}
use Rattle.plain_state.specs.declared.calls.Refusal.{Refusal}
use Rattle.plain_state.specs.declared.calls.Refusal.TheVariants.{BadCall, NoCap, WrongKind, NoRight, BadAddress, BadSize, Overlap, NoSlot, NoObjects, NoPages, NoRegions, Full, Empty, Taken}
use Rattle.plain_model.specs.Worlds.{World}
use Rattle.plain_model.specs.Calls.{needs}
use Rattle.plain_model.specs.Refusals.{refusal_order, refusal_rank}
use Rattle.plain_model.specs.CallRefusals.{is_unmet, is_refused_besides, refusal_of}
use Rattle.plain_laws.proofs.FormsCalls.{not_refused}

-- each refusal stands in the order at its rank, from that of NoCap on
pub in_order : (refusal : Refusal) → refusal ≢ BadCall → slice_get refusal_order (refusal_rank refusal - 2) ≡ Some refusal
in_order BadCall ne = absurd (ne refl)
in_order NoCap ne = refl
in_order WrongKind ne = refl
in_order NoRight ne = refl
in_order BadAddress ne = refl
in_order BadSize ne = refl
in_order Overlap ne = refl
in_order NoSlot ne = refl
in_order NoObjects ne = refl
in_order NoPages ne = refl
in_order NoRegions ne = refl
in_order Full ne = refl
in_order Empty ne = refl
in_order Taken ne = refl

pub meets_all : (w : World) (id : ℕ) (thread : Thread) (call : Call) (refusal : Refusal) → refusal ≢ BadCall → refusal_of w id thread call ≡ None
    → (list_any (is_unmet w.now thread refusal) (needs thread call) ≡ false) × (is_refused_besides w id thread call refusal ≡ false)
meets_all w id thread call refusal ne h = not_refused w id thread call (refusal_rank refusal - 2) refusal h (in_order refusal ne)
