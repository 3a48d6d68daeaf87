use Rattle.std.proofs.Common.{◌≡◌, ℕ, ◌+◌, ◌++◌, List, drop, length, sum_by}
use Rattle.std.specs.List.{flat_map}
use Rattle.plain_model.specs.Objects.{Object}
use Rattle.plain_model.specs.Initial as plain
use Rattle.first_state.specs.Content.{region_parts, HoldsParts, HasPartsAt}
use Rattle.first_state.specs.Filled.{IsFilled, IsFreeFrom, KeepsBelow, AreMarked}
use Rattle.first_state.proofs.FillsUp.{FillsUp}
use Rattle.first_state.proofs.objects.add_memories.Given as goal

abbrev pub invariant-loop-spec : goal.invariant-loop-spec
invariant-loop-spec l = record {
  id : l.id ≡ l.n + l.spec-index;
  pages : l.page + sum_by plain.pages_taken (drop l.spec-index l.specs) ≡ l.k + sum_by plain.pages_taken l.specs;
  parts : (parts : List (List ℕ)) → HasPartsAt parts l.k (flat_map region_parts l.specs) → HasPartsAt parts l.page (flat_map region_parts (drop l.spec-index l.specs));
  filled : (content : ℕ → ℕ → ℕ) (parts : List (List ℕ)) (list : List Object) → HoldsParts content parts → HasPartsAt parts l.k (flat_map region_parts l.specs) →
      IsFilled content l.initial.objects list → length list ≡ l.n →
      FillsUp content l.objects l.id (plain.program_memories (drop l.spec-index l.specs) l.page) (list ++ plain.program_memories l.specs l.k);
  marked : (parts : List (List ℕ)) → HasPartsAt parts l.k (flat_map region_parts l.specs) → AreMarked parts l.initial.objects → AreMarked parts l.objects;
  free : IsFreeFrom l.objects l.id;
  kept : KeepsBelow l.initial.objects l.objects l.n;
}
