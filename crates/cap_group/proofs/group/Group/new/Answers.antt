use Rattle.std.proofs.Common.{◌≡◌, ℕ, zero, suc, Option, None, IfSome, replicate, refl, sym, subst}
use Rattle.std.specs.Prelude.{slice_get}
use Rattle.std.specs.Option.{option_and_then}
use Rattle.sls_base.specs.declared.limits.TheConstants.{GROUP_SLOTS}
use Rattle.cap_group.specs.declared.cap.Cap.{Cap}
use Rattle.cap_group.specs.Cap.{IsCap}
use Rattle.cap_group.proofs.group.Group.new.Goals as goal

-- empty slots hold nothing
nothing_held : {X : Type 0} (n k : ℕ) → option_and_then {T = Option X} (λ held. held) (slice_get (replicate n None) k) ≡ None
nothing_held zero k = refl
nothing_held (suc n) zero = refl
nothing_held (suc n) (suc k) = nothing_held n k

pub returns-clause-empty : goal.returns-clause-empty
returns-clause-empty c = λ k. nothing_held GROUP_SLOTS k

pub returns-clause-in_form : goal.returns-clause-in_form
returns-clause-in_form c = λ k. subst (λ (held : Option Cap). IfSome held IsCap) (sym (nothing_held GROUP_SLOTS k)) tt
