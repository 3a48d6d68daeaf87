use Rattle.std.proofs.Common.{◌≡◌, ◌+◌, ◌++◌, ◌∷◌, ◌∙◌, sym, ap, subst, All, drop, length, map, sum_by, arith}
use Rattle.std.proofs.lemmas.List.{length-map}
use Rattle.std.proofs.lemmas.List.Sums.{sum_by-cons}
use Rattle.plain_model.specs.Initial as plain
use Rattle.plain_model.specs.Initial.{IsProgram, image_objects}
use Rattle.plain_state.specs.Slow.{object_of}
use Rattle.plain_model.proofs.SlowInitial.{programs_more, count_more, drop_next, others_too}
use Rattle.plain_model.proofs.initial.image_objects.Goals as goal

pub loop-program-init : goal.loop-program-init
unfolding image_objects
loop-program-init c =
    let ps = c.as_slice-programs.result.now in
    let list = c.in_ok-list.list.items in
    let value : ps ≡ c.args.image.now.programs.items = c.as_slice-programs.ensures.value in
    let sizes = ap (sum_by plain.program_size) value in
    let pages = ap (sum_by plain.program_pages) value in
    record {
      objects = ap (λ l. l ++ plain.programs_objects ps 7 4) c.in_ok-list.ensures;
      count = sym (length-map list object_of) ∙ ap length c.in_ok-list.ensures;
      room = omega (arith, c.requires.objects);
      pages = omega (arith, c.requires.pages);
      programs = subst (All IsProgram) (sym value) c.requires.each_program;
    }

pub loop-program-preserved : goal.loop-program-preserved
loop-program-preserved c =
    let l = c.loop-program in
    let ps = c.as_slice-programs.result.now in
    let p = c.program-item.result in
    let i = l.program-index in
    let first : drop i ps ≡ p ∷ drop (i + 1) ps = drop_next ps i p (omega arith) c.program-item.is in
    let sizes : sum_by plain.program_size (drop i ps) ≡ plain.program_size p + sum_by plain.program_size (drop (i + 1) ps) = ap (sum_by plain.program_size) first ∙ sum_by-cons plain.program_size p (drop (i + 1) ps) in
    let pages : sum_by plain.program_pages (drop i ps) ≡ plain.program_pages p + sum_by plain.program_pages (drop (i + 1) ps) = ap (sum_by plain.program_pages) first ∙ sum_by-cons plain.program_pages p (drop (i + 1) ps) in
    let old = map object_of l.list.items in
    let new = map object_of c.add_program.new.list.items in
    record {
      objects = programs_more old new (drop i ps) (drop (i + 1) ps) p l.n _ l.k _ c.in_ok-add_program.ensures first (omega arith) (omega arith) ∙ l.invariant.objects;
      count =
          let a = length-map l.list.items object_of in
          let b = length-map c.add_program.new.list.items object_of in
          let d : length new ≡ l.n + plain.program_size p = count_more old new p l.n l.k (l.n + plain.program_size p) c.in_ok-add_program.ensures (omega arith) in
          omega arith;
      room = omega arith;
      pages = omega arith;
      programs = others_too IsProgram (drop i ps) (drop (i + 1) ps) p first l.invariant.programs;
    }
