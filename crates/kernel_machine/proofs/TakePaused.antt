-- A turn of a core that has nothing to do while the machine starts.
use Rattle.std.specs.Prelude.{◌≡◌, ◌≢◌, ℕ, Bool, true, false, if◌then◌else◌}
use Rattle.std.proofs.Common.{refl, sym, subst, inl, inr, arith}
use Rattle.sls_base.specs.declared.fixed.TheConstants.{LEADER}
use Rattle.machine_contract.specs.declared.answers.Did.TheVariants as did
use Rattle.machine_contract.specs.declared.answers.Why.TheVariants as why
use Rattle.machine_contract.specs.Side.{Formatting, Recovering, IsStarting}
use Rattle.machine_contract.specs.Courses.{Course}
use Rattle.kernel_machine.specs.declared.work.FirstFormat.{FirstFormat}
use Rattle.kernel_machine.specs.declared.work.Restoring.{Restoring}
use Rattle.kernel_machine.specs.declared.work.Work.{Work}
use Rattle.kernel_machine.specs.declared.work.Work.TheVariants as work
use Rattle.kernel_machine.specs.declared.kernel.Kernel.{Kernel}
use Rattle.kernel_machine.specs.Sides.{mode_of}
use Rattle.kernel_machine.specs.Shows.{IsAt}
use Rattle.kernel_machine.specs.Turns.{TakesTurn}

-- Formatting and recovery are ways up.

pub formats_starting : (now : Work) (s : FirstFormat) → now ≡ work.Formats s → IsStarting (mode_of now)
formats_starting now s e = subst (λ (x : Work). IsStarting (mode_of x)) (sym e) (inl refl)

starting_if : (first : Bool) → IsStarting (if first then Formatting else Recovering)
starting_if true = inl refl
starting_if false = inr refl

pub recovers_starting : (now : Work) (s : Restoring) → now ≡ work.Recovers s → IsStarting (mode_of now)
recovers_starting now s e = subst (λ (x : Work). IsStarting (mode_of x)) (sym e) (starting_if s.is_first)

-- The leader alone has something to do there.
pub paused_turn : (k : Kernel) (c : Course) (core : ℕ) → core ≢ LEADER → IsStarting (mode_of k.work) → IsAt k c
    → TakesTurn k c core (did.Inner why.Paused) k
paused_turn k c core other starting h = record {
  goes = record {
    lawful = record { other = other; why = inl starting; rest = refl };
    words = λ i. refl;
    ops = omega arith;
    renewed = λ no. absurd no;
    board = λ closed opened. absurd (cc);
    opened = λ no. absurd no;
    rest = refl;
  };
  is_at = h;
}
