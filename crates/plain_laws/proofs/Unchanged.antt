-- Objects that are the same in both states of a world.
use Rattle.std.specs.Prelude.{◌≡◌, ◌≢◌, ◌⊎◌, ℕ, zero, suc, ◌<◌, ◌==◌, Bool, true, false, Option, Some, None}
use Rattle.std.proofs.Common.{refl, ap, sym, ◌∙◌, arith, inl, inr}
use Rattle.sls_base.specs.declared.fixed.TheConstants.{FIRST_PROGRAM_OBJECT}
use Rattle.plain_model.specs.Objects.{Object}
use Rattle.plain_model.specs.States.{State}
use Rattle.plain_model.specs.Worlds.{World}
use Rattle.plain_laws.specs.Plays.{Both}
use Rattle.plain_laws.specs.Fixed.{HasFixedObjects}
use Rattle.plain_laws.specs.Kept.{IsTracked, IsSameInBoth}

same_in_both : (w : World) (i : ℕ) (o : Option Object) → w.saved.objects i ≡ o → w.now.objects i ≡ w.saved.objects i → IsSameInBoth w i
same_in_both w i None e same = inr (same ∙ e, e)
same_in_both w i (Some object) e same = inl (object, same ∙ e, e)

pub unchanged_same : (w : World) (i : ℕ) → IsTracked w → w.changed i ≡ false → IsSameInBoth w i
unchanged_same w i tracked e = same_in_both w i (w.saved.objects i) refl (tracked.objects i e)

is_there : (o : Option Object) (object : Object) → o ≡ Some object → o ≢ None
is_there o object e none = absurd (cc)

-- the objects that are always there, one by one
pub fixed_there : (s : State) → HasFixedObjects s → (i : ℕ) → i < FIRST_PROGRAM_OBJECT → s.objects i ≢ None
fixed_there s h zero l = λ none. (let root = h.root in absurd (cc))
fixed_there s h (suc zero) l = is_there (s.objects 1) _ h.scheduler
fixed_there s h (suc (suc zero)) l = is_there (s.objects 2) _ (h.outputs 0 (omega arith))
fixed_there s h (suc (suc (suc zero))) l = is_there (s.objects 3) _ (h.outputs 1 (omega arith))
fixed_there s h (suc (suc (suc (suc zero)))) l = is_there (s.objects 4) _ (h.outputs 2 (omega arith))
fixed_there s h (suc (suc (suc (suc (suc zero))))) l = is_there (s.objects 5) _ (h.outputs 3 (omega arith))
fixed_there s h (suc (suc (suc (suc (suc (suc zero)))))) l = is_there (s.objects 6) _ h.input
fixed_there s h (suc (suc (suc (suc (suc (suc (suc i))))))) l = absurd (omega arith)

pub fixed_in_both : (w : World) (i : ℕ) → Both HasFixedObjects w → i < FIRST_PROGRAM_OBJECT → (w.now.objects i ≢ None) × (w.saved.objects i ≢ None)
fixed_in_both w i h l = (fixed_there w.now h.0 i l, fixed_there w.saved h.1 i l)
