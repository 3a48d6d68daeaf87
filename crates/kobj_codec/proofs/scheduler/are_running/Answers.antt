use Rattle.std.proofs.Common.{◌≡◌, ◌≤◌, ℕ, arith, refl, length, inl, inr, None}
use Rattle.std.specs.Prelude.{slice_index_or}
use Rattle.std.proofs.lemmas.Bool.{cases_lt}
use Rattle.std.proofs.lemmas.List.{get_or_past}
use Rattle.kobj_codec.proofs.scheduler.are_running.Goals as goal

pub returns : goal.returns
returns c =
    let xs = c.args.running.now in
    let v = c.loop-core.invariant in
    let all : c.loop-core.core ≡ length xs = omega (arith, c.loop-core-test.false, c.loop-core.auto.core-end) in
    let behind : (k : ℕ) → length xs ≤ k → slice_index_or xs k None ≡ None = λ k ge. get_or_past xs k None ge in
    record {
      size = omega arith;
      running = (
        λ _. (
          λ k. elim (cases_lt k (length xs)) [ inl lt ↦ v.occupants k (omega arith) | inr ge ↦ let none = behind k ge in rw none tt ],
          λ k past. elim (cases_lt k (length xs)) [ inl lt ↦ v.past k past (omega arith) | inr ge ↦ behind k ge ],
        ),
        λ _. refl,
      );
    }
