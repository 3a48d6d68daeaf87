use Rattle.std.proofs.Common.{◌∙◌, false, Bool, inl, inr, sym, subst, arith}
use Rattle.std.proofs.lemmas.Bool.{cases_eq}
use Rattle.std.proofs.lemmas.List.{length-set, get_or-set_same, get_or-set_other}
use Rattle.object_records.specs.Records.{record_at}
use Rattle.leader_helper.specs.Begins.{IsFound}
use Rattle.leader_helper.proofs.begin.changed_objects.Goals as goal

pub loop-id-preserved : goal.loop-id-preserved
loop-id-preserved c =
    let id = c.loop-id.id in
    let changed = c.loop-id.changed in
    let found = c.has_changed.result in
    record {
      whole = length-set changed id found ∙ c.loop-id.invariant.whole;
      found = λ v saved pages may i below. elim (cases_eq i id) [
        | inl here ↦
            rw here
            (subst (λ (b : Bool). IsFound b (record_at c.args.objects.now id) (saved.objects id))
            (sym (get_or-set_same changed id found false (omega (arith, c.loop-id.invariant.whole)))) (c.has_changed.ensures v saved pages may))
        | inr other ↦
            subst (λ (b : Bool). IsFound b (record_at c.args.objects.now i) (saved.objects i))
            (sym (get_or-set_other changed id i found false other)) (c.loop-id.invariant.found v saved pages may i (omega arith))
      ];
    }

pub returns : goal.returns
returns c v saved pages may id inside = c.loop-id.invariant.found v saved pages may id (omega (arith, inside, c.loop-id-test.false))
