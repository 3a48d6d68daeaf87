use Rattle.std.proofs.Common.{◌<◌, ◌∙◌, ℕ, arith, ap, sym, Some, length}
use Rattle.std.proofs.lemmas.Option.{slice_get-get_or}
use Rattle.kobj_codec.proofs.Told.{list_told}
use Rattle.kobj_codec.proofs.ReadSoFar.{first_none, first_pushed, first_all}
use Rattle.kobj_codec.proofs.Lists.{ListOf, list_length}
use Rattle.kobj_codec.proofs.list.read_list.Goals as goal

pub loop-j-init : goal.loop-j-init
loop-j-init c = record { size = ap length c.new-ids.ensures; read = first_none c.new-ids.ensures }

pub loop-j-preserved : goal.loop-j-preserved
loop-j-preserved c = record {
  size = omega (arith, c.push.ensures.len, c.loop-j.invariant.size);
  read = first_pushed c.byte_at.result c.loop-j.invariant.read c.push.ensures.items
      (λ ids w.
      let len = list_length c.args.words.now c.args.first ids w c.min-count.result c.min-count.ensures in
      let inside : c.loop-j.j < length ids = omega (arith, len, c.loop-j-test.true) in
      let here = c.byte_at.ensures ∙ list_told c.args.first ids w.0 w.1 c.loop-j.j (omega (arith, inside, w.0.most)) in
      slice_get-get_or ids c.loop-j.j 0 inside ∙ ap (λ (id : ℕ). Some id) (sym here));
}

pub returns : goal.returns
returns c = λ ids i word.
    let w : ListOf c.args.words.now c.args.first ids = (i, record { word = word }) in
    let len = list_length c.args.words.now c.args.first ids w c.min-count.result c.min-count.ensures in
    first_all c.loop-j.invariant.read ids w (omega (arith, len, c.loop-j-test.false))
