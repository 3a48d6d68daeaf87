use Rattle.std.proofs.Common.{◌-◌, ◌/◌, ◌%◌, inl, inr, arith}
use Rattle.std.proofs.lemmas.Bool.{cases_lt, cases_eq}
use Rattle.pmem_layout.specs.declared.places.TheConstants.{FIRST_SPARE_FRAME}
use Rattle.pmem_layout.proofs.laws.frames_are_of_one.Goals as goal

pub returns-clause-each : goal.returns-clause-each
returns-clause-each c = λ frame inside.
    elim (cases_lt frame FIRST_SPARE_FRAME) [
      | inl low ↦ elim (cases_eq (frame % 2) 0) [
        | inl even ↦ inl (frame / 2, omega arith, omega arith)
        | inr odd ↦ inr (inl (frame / 2, omega arith, omega arith))
      ]
      | inr high ↦ inr (inr (frame - FIRST_SPARE_FRAME, omega arith, omega arith))
    ]
