use Rattle.std.proofs.Common.{ℕ, ◌+◌, ◌≤◌, All, drop, sum_by}
use Rattle.std.specs.List.{flat_map}
use Rattle.plain_model.specs.Initial as plain
use Rattle.plain_model.specs.Initial.{IsProgram}
use Rattle.first_state.specs.Content.{image_parts, program_parts, HoldsParts, HasPartsAt}
use Rattle.first_state.specs.Filled.{IsFreeFrom, KeepsBelow, AreMarked}
use Rattle.first_state.proofs.FillsUp.{FillsUp}
use Rattle.first_state.proofs.objects.first_objects.Given as goal

abbrev pub invariant-loop-program : goal.invariant-loop-program
invariant-loop-program l = record {
  from : 7 ≤ l.n;
  room : l.n + sum_by plain.program_size (drop l.program-index l.programs) ≤ 128;
  pages : l.k + sum_by plain.program_pages (drop l.program-index l.programs) ≤ 512;
  programs : All IsProgram (drop l.program-index l.programs);
  parts : HasPartsAt (image_parts l.programs) l.k (flat_map program_parts (drop l.program-index l.programs));
  filled : (content : ℕ → ℕ → ℕ) → HoldsParts content (image_parts l.programs) →
      FillsUp content l.objects l.n (plain.programs_objects (drop l.program-index l.programs) l.n l.k) (plain.image_objects l.programs);
  marked : AreMarked (image_parts l.programs) l.objects;
  free : IsFreeFrom l.objects l.n;
  kept : KeepsBelow l.initial.objects l.objects 7;
}
