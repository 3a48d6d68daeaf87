use Rattle.std.proofs.Common.{◌≡◌, ℕ, ◌+◌, ◌∙◌, [], ◌∷◌, List, All, ap, sym, subst, drop, replicate, sum_by, refl, arith, lit≤, lit<}
use Rattle.std.specs.List.{flat_map}
use Rattle.std.proofs.lemmas.List.{drop_all, get_or-append-add}
use Rattle.std.proofs.lemmas.List.Sums.{sum_by-cons}
use Rattle.sls_base.specs.declared.image.Program.{Program}
use Rattle.plain_model.specs.Initial as plain
use Rattle.plain_model.specs.Initial.{IsProgram, image_objects}
use Rattle.first_state.specs.Content.{image_parts, program_parts, HoldsParts}
use Rattle.first_state.specs.Filled.{IsFilled}
use Rattle.first_state.proofs.Lists.{drop_next, others_too}
use Rattle.first_state.proofs.FillsUp.{begins, goes_on, ends, first_program, other_programs, objects_count, programs_first}
use Rattle.first_state.proofs.States.{same_state, image_bytes, bytes_hold}
use Rattle.first_state.proofs.objects.first_objects.Goals as goal

pub loop-program-init : goal.loop-program-init
unfolding image_parts image_objects
loop-program-init c =
    let ps = c.as_slice-programs.result.now in
    let value : ps ≡ c.args.image.now.programs.items = c.as_slice-programs.ensures.value in
    let sizes = ap (sum_by plain.program_size) value in
    let pages = ap (sum_by plain.program_pages) value in
    let rings : List (List ℕ) = replicate 4 [] in
    record {
      from = lit≤ tt;
      room = omega (arith, c.requires.image.objects);
      pages = omega (arith, c.requires.image.pages);
      programs = subst (All IsProgram) (sym value) c.requires.image.each_program;
      parts = λ j below. get_or-append-add rings (flat_map program_parts ps) j [];
      filled = λ content holds. begins (plain.programs_objects ps 7 4) (c.fixed_objects-objects.ensures.filled content) refl;
      marked = c.fixed_objects-objects.ensures.marked (image_parts ps);
      free = c.fixed_objects-objects.ensures.free;
      kept = λ i below. refl;
    }

pub loop-program-preserved : goal.loop-program-preserved
loop-program-preserved c =
    let l = c.loop-program in
    let i = l.program-index in
    let all = c.as_slice-programs.result.now in
    let p = c.program-item.result in
    let ps = drop i all in
    let rest = drop (i + 1) all in
    let first : ps ≡ p ∷ rest = drop_next all i p c.loop-program-test.true c.program-item.is in
    let sizes = ap (sum_by plain.program_size) first ∙ sum_by-cons plain.program_size p rest in
    let pages = ap (sum_by plain.program_pages) first ∙ sum_by-cons plain.program_pages p rest in
    let n : l.n + c.program_size-n.result ≡ l.n + plain.program_size p = ap (λ k. l.n + k) c.program_size-n.ensures in
    let k : l.k + c.program_pages-k.result ≡ l.k + plain.program_pages p = ap (λ k. l.k + k) c.program_pages-k.ensures in
    let own = first_program (image_parts all) ps rest p l.k first l.invariant.parts in
    let count = objects_count p l.n l.k in
    record {
      from = omega (arith, l.invariant.from);
      room = omega (arith, l.invariant.room, sizes, n);
      pages = omega (arith, l.invariant.pages, pages, k);
      programs = others_too IsProgram ps rest p first l.invariant.programs;
      parts = other_programs (image_parts all) ps rest p l.k _ first k l.invariant.parts;
      filled = λ content holds.
          goes_on (plain.program_objects p l.n l.k) (plain.programs_objects rest (l.n + c.program_size-n.result) (l.k + c.program_pages-k.result)) (l.invariant.filled content holds)
          (programs_first ps rest p l.n _ l.k _ first n k) (omega (arith, n, count))
          (λ before is_filled counted. c.add_program.ensures.filled content (image_parts all) before holds own is_filled counted);
      marked = c.add_program.ensures.marked (image_parts all) own l.invariant.marked;
      free = λ j from. c.add_program.ensures.free j (omega (arith, from, n));
      kept = λ i below. c.add_program.ensures.kept i (omega (arith, below, l.invariant.from)) ∙ l.invariant.kept i below;
    }

pub returns-clause-state : goal.returns-clause-state
returns-clause-state c = λ content holds.
    let all = c.as_slice-programs.result.now in
    let value : all ≡ c.args.image.now.programs.items = c.as_slice-programs.ensures.value in
    let held = subst (λ (ps : List Program). HoldsParts content (image_parts ps)) (sym value) holds in
    let filled = ends (c.loop-program.invariant.filled content held)
    (ap (λ (ps : List Program). plain.programs_objects ps c.loop-program.n c.loop-program.k) (drop_all c.loop-program.program-index all c.loop-program-test.false)) in
    same_state content c.loop-program.objects c.args.image.now c.args.cores (subst (λ (ps : List Program). IsFilled content c.loop-program.objects (image_objects ps)) value filled) c.requires.cores
    (c.loop-program.invariant.kept 1 (lit< tt) ∙ c.fixed_objects-objects.ensures.scheduler)

pub returns-clause-strays : goal.returns-clause-strays
returns-clause-strays c = λ i other listless.
    let all = c.as_slice-programs.result.now in
    let value : all ≡ c.args.image.now.programs.items = c.as_slice-programs.ensures.value in
    let content = image_bytes c.args.image.now in
    let held = subst (λ (ps : List Program). HoldsParts content (image_parts ps)) (sym value) (bytes_hold c.args.image.now) in
    let filled = c.loop-program.invariant.filled content held in
    filled.filled.lists i other
