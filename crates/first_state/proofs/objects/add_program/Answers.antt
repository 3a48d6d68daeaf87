use Rattle.std.proofs.Common.{◌≡◌, ◌+◌, ◌-◌, ◌∙◌, [], ◌∷◌, ◌++◌, Option, Some, List, ap, sym, subst, length, map, arith}
use Rattle.std.specs.List.{flat_map, range_with_len}
use Rattle.sls_base.specs.declared.image.RegionSpec.{RegionSpec}
use Rattle.plain_state.specs.declared.objects.Capability.{Capability}
use Rattle.plain_state.specs.declared.objects.Region.{Region as PlainRegion}
use Rattle.plain_model.specs.Objects as objects
use Rattle.plain_model.specs.Objects.{Object}
use Rattle.plain_model.specs.Initial as plain
use Rattle.kobj_table.specs.declared.slot.Slot.{Slot}
use Rattle.first_state.specs.Content.{region_parts, HasPartsAt}
use Rattle.first_state.specs.Filled.{IsFilled}
use Rattle.first_state.proofs.FillsUp.{begins, goes_on, ends, marked_more, kept_more, unmarked, memories_count, three_more, counted_more, rest_of}
use Rattle.first_state.proofs.objects.add_program.Goals as goal

pub add_memories-requires-clause-free : goal.add_memories-requires-clause-free
add_memories-requires-clause-free c = λ j from. c.add-2.ensures.free j (omega (arith, from))

pub loop-j-init : goal.loop-j-init
loop-j-init c =
    let p = c.args.program.now in
    let n = c.args.n in
    let regions = c.as_slice-regions.result.now in
    let same : regions ≡ p.regions.items = c.as_slice-regions.ensures.value in
    let group = objects.Group (plain.slots_with (plain.program_caps p n)) in
    let space = objects.Space (plain.program_regions p.regions.items (n + 2)) in
    let memories = plain.program_memories p.regions.items c.args.k in
    let threads = map (plain.program_thread p n) (range_with_len 0 (p.threads - 0)) in
    let all : p.threads ≡ p.threads - 0 = omega arith in
    let count = memories_count p.regions.items c.args.k in
    let regions_count = ap length same in
    record {
      filled = λ content parts list holds has filled counted.
          goes_on (group ∷ space ∷ memories) threads (begins (plain.program_objects p n c.args.k) filled counted)
          (ap (λ m. group ∷ space ∷ (memories ++ map (plain.program_thread p n) (range_with_len 0 m))) all) (omega arith)
          (λ before is_filled is_counted.
          let one = c.add.ensures.filled content before group is_filled is_counted (ap (λ (s : List (Option Capability)). Some (objects.Group s)) c.program_group.ensures) in
          let two = c.add-2.ensures.filled content (before ++ group ∷ []) space one (counted_more before group n is_counted)
          (ap (λ (s : List PlainRegion). Some (objects.Space s)) (c.space_over.ensures ∙ ap (λ (s : List RegionSpec). plain.program_regions s (n + 2)) same)) in
          let three = c.add_memories.ensures.filled content parts ((before ++ group ∷ []) ++ space ∷ []) holds (subst (λ (s : List RegionSpec). HasPartsAt parts c.args.k (flat_map region_parts s)) (sym same) has) two
          (counted_more (before ++ group ∷ []) space (n + 1) (counted_more before group n is_counted) ∙ omega arith) in
          subst (IsFilled content c.add_memories.new.objects)
          (ap (λ (s : List RegionSpec). ((before ++ group ∷ []) ++ space ∷ []) ++ plain.program_memories s c.args.k) same ∙ three_more before memories group space) three);
      marked = λ parts has marks.
          c.add_memories.ensures.marked parts (subst (λ (s : List RegionSpec). HasPartsAt parts c.args.k (flat_map region_parts s)) (sym same) has)
          (marked_more parts c.add.new.objects c.add-2.new.objects (n + 1) (Slot.Space c.space_over.result) c.add-2.ensures.slot c.add-2.ensures.others (unmarked parts)
          (marked_more parts c.args.objects.now c.add.new.objects n (Slot.Group c.program_group.result) c.add.ensures.slot c.add.ensures.others (unmarked parts) marks));
      free = λ j from. c.add_memories.ensures.free j (omega (arith, from));
      kept = λ i below. c.add_memories.ensures.kept i (omega (arith, below))
          ∙ (c.add-2.ensures.others i (λ e. absurd (omega (arith, e, below))) ∙ c.add.ensures.others i (λ e. absurd (omega (arith, e, below))));
    }

pub loop-j-preserved : goal.loop-j-preserved
loop-j-preserved c =
    let p = c.args.program.now in
    let thread = plain.program_thread p c.args.n in
    let l = c.loop-j in
    let left : p.threads - l.j ≡ (p.threads - (l.j + 1)) + 1 = omega (arith, c.loop-j-test.true) in
    let threads = map thread (range_with_len (l.j + 1) (p.threads - (l.j + 1))) in
    record {
      filled = λ content parts list holds has filled counted.
          goes_on (thread l.j ∷ []) threads (l.invariant.filled content parts list holds has filled counted) (rest_of thread l.j (p.threads - l.j) (p.threads - (l.j + 1)) left) (omega arith)
          (λ before is_filled is_counted. c.add-in-loop-j.ensures.filled content before (thread l.j) is_filled is_counted (ap (λ (o : Object). Some o) c.program_thread.ensures));
      marked = λ parts has marks.
          marked_more parts l.objects c.add-in-loop-j.new.objects _ (Slot.Thread c.program_thread.result) c.add-in-loop-j.ensures.slot c.add-in-loop-j.ensures.others (unmarked parts) (l.invariant.marked parts has marks);
      free = λ j from. c.add-in-loop-j.ensures.free j (omega (arith, from));
      kept = kept_more c.args.objects.now l.objects c.add-in-loop-j.new.objects c.args.n _ (omega arith) c.add-in-loop-j.ensures.others l.invariant.kept;
    }

pub returns-clause-filled : goal.returns-clause-filled
returns-clause-filled c content parts list holds has filled counted =
    let none : c.args.program.now.threads - c.loop-j.j ≡ 0 = omega (arith, c.loop-j-test.false) in
    ends (c.loop-j.invariant.filled content parts list holds has filled counted)
    (ap (λ m. map (plain.program_thread c.args.program.now c.args.n) (range_with_len c.loop-j.j m)) none)

pub returns-clause-free : goal.returns-clause-free
returns-clause-free c j from =
    let regions_count = ap length c.as_slice-regions.ensures.value in
    c.loop-j.invariant.free j (omega (arith, from, c.loop-j.auto.j-end))
