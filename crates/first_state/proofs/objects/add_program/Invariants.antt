use Rattle.std.proofs.Common.{◌≡◌, ℕ, ◌+◌, ◌-◌, ◌++◌, List, length, map}
use Rattle.std.specs.List.{range_with_len}
use Rattle.plain_model.specs.Objects.{Object}
use Rattle.plain_model.specs.Initial as plain
use Rattle.first_state.specs.Content.{program_parts, HoldsParts, HasPartsAt}
use Rattle.first_state.specs.Filled.{IsFilled, IsFreeFrom, KeepsBelow, AreMarked}
use Rattle.first_state.proofs.FillsUp.{FillsUp}
use Rattle.first_state.proofs.objects.add_program.Given as goal

abbrev pub invariant-loop-j : goal.invariant-loop-j
invariant-loop-j l = record {
  filled : (content : ℕ → ℕ → ℕ) (parts : List (List ℕ)) (list : List Object) → HoldsParts content parts → HasPartsAt parts l.k (program_parts l.program) →
      IsFilled content l.fn.objects list → length list ≡ l.n →
      FillsUp content l.objects (l.first + l.j) (map (plain.program_thread l.program l.n) (range_with_len l.j (l.program.threads - l.j))) (list ++ plain.program_objects l.program l.n l.k);
  marked : (parts : List (List ℕ)) → HasPartsAt parts l.k (program_parts l.program) → AreMarked parts l.fn.objects → AreMarked parts l.objects;
  free : IsFreeFrom l.objects (l.first + l.j);
  kept : KeepsBelow l.fn.objects l.objects l.n;
}
