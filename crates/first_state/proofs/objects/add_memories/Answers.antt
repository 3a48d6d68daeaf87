use Rattle.std.proofs.Common.{◌≡◌, ◌+◌, ◌∙◌, [], ◌∷◌, ap, drop, sum_by, refl, arith, List}
use Rattle.std.proofs.lemmas.List.{drop_all}
use Rattle.std.proofs.lemmas.List.Sums.{sum_by-cons}
use Rattle.sls_base.specs.declared.image.RegionSpec.{RegionSpec}
use Rattle.plain_model.specs.Initial as plain
use Rattle.kobj_table.specs.declared.slot.Slot.{Slot}
use Rattle.first_state.proofs.Lists.{drop_next}
use Rattle.first_state.proofs.FillsUp.{goes_on, ends, marked_more, kept_more, memory_is, memory_marked, first_region, other_regions, memories_first}
use Rattle.first_state.proofs.objects.add_memories.Goals as goal

pub loop-spec-preserved : goal.loop-spec-preserved
loop-spec-preserved c =
    let l = c.loop-spec in
    let i = l.spec-index in
    let spec = c.spec-item.result in
    let specs = drop i c.args.specs.now in
    let rest = drop (i + 1) c.args.specs.now in
    let memory = c.memory_of.result in
    let first : specs ≡ spec ∷ rest = drop_next c.args.specs.now i spec c.loop-spec-test.true c.spec-item.is in
    let pages = ap (sum_by plain.pages_taken) first ∙ sum_by-cons plain.pages_taken spec rest in
    let next : l.page + c.from-page.result ≡ l.page + spec.pages = ap (λ k. l.page + k) c.from-page.ensures in
    record {
      id = omega (arith, l.invariant.id);
      pages = omega (arith, l.invariant.pages, pages, next);
      parts = λ parts has. other_regions parts specs rest spec l.page _ first next (l.invariant.parts parts has);
      filled = λ content parts list holds has filled count.
          goes_on (plain.memory_of spec l.page ∷ []) (plain.program_memories rest (l.page + c.from-page.result)) (l.invariant.filled content parts list holds has filled count)
          (memories_first specs rest spec l.page _ first next) refl
          (λ before is_filled counted. c.add.ensures.filled content before (plain.memory_of spec l.page) is_filled counted
          (memory_is content parts spec l.page memory holds (first_region parts specs rest spec l.page first (l.invariant.parts parts has)) c.memory_of.ensures));
      marked = λ parts has marks.
          marked_more parts l.objects c.add.new.objects l.id (Slot.Memory memory) c.add.ensures.slot c.add.ensures.others
          (memory_marked parts spec l.page memory (first_region parts specs rest spec l.page first (l.invariant.parts parts has)) c.memory_of.ensures)
          (l.invariant.marked parts has marks);
      free = c.add.ensures.free;
      kept = kept_more c.args.objects.now l.objects c.add.new.objects c.args.n l.id (omega (arith, l.invariant.id)) c.add.ensures.others l.invariant.kept;
    }

pub returns-clause-filled : goal.returns-clause-filled
returns-clause-filled c content parts list holds has filled count =
    ends (c.loop-spec.invariant.filled content parts list holds has filled count)
    (ap (λ (l : List RegionSpec). plain.program_memories l c.loop-spec.page) (drop_all c.loop-spec.spec-index c.args.specs.now c.loop-spec-test.false))

pub returns-clause-free : goal.returns-clause-free
returns-clause-free c j from =
    c.loop-spec.invariant.free j (omega (arith, c.loop-spec.invariant.id, from, c.loop-spec.auto.spec-index-end))
