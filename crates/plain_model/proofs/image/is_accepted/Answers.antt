use Rattle.std.proofs.Common.{subst, sym, length, ◌≤◌}
use Rattle.std.specs.Prelude.{All}
use Rattle.std.proofs.lemmas.Bool.{false≢true}
use Rattle.plain_model.specs.Initial.{IsProgram}
use Rattle.plain_model.specs.declared.image.TheConstants.{PROGRAMS}
use Rattle.plain_model.proofs.image.is_accepted.Goals as goal

pub returns-else-are_programs : goal.returns-else-are_programs
returns-else-are_programs c = (
  λ e. absurd (false≢true (cc)),
  λ h. c.are_programs.ensures.1 (subst (λ xs. (1 ≤ length xs) × (length xs ≤ PROGRAMS) × All IsProgram xs) (sym c.as_slice-programs.ensures.value) (h.some_program, h.programs, h.each_program)),
)
