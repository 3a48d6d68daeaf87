use Rattle.std.proofs.Common.{◌≡◌, ◌∙◌, arith, ap, sym, length}
use Rattle.std.proofs.lemmas.List.{length-set}
use Rattle.sls_base.specs.declared.limits.TheConstants.{GROUP_SLOTS}
use Rattle.cap_group.specs.declared.group.Group.{Group}
use Rattle.kobj_codec.proofs.Told.{group_told, cap_here}
use Rattle.kobj_codec.proofs.ReadSoFar.{below_one_more, below_all}
use Rattle.kobj_codec.proofs.group.read_group.Goals as goal

pub loop-j-init : goal.loop-j-init
loop-j-init c = record {
  size = ap length c.new-group.ensures.slots;
  read = record { same = λ xs w k lt. absurd (omega arith) };
}

pub loop-j-preserved : goal.loop-j-preserved
loop-j-preserved c = record {
  size = length-set c.loop-j.group.slots c.loop-j.j c.slot_of.result ∙ c.loop-j.invariant.size;
  read = below_one_more c.slot_of.result c.loop-j.invariant.read (omega (arith, c.loop-j.invariant.size, c.loop-j-test.true))
      (λ slots w.
      let g : Group = record { slots = slots } in
      let held = w.0.slots c.loop-j.j in
      c.slot_of.ensures _ held (c.short_at.ensures ∙ group_told g w.0 w.1 c.loop-j.j c.loop-j-test.true) ∙ cap_here g c.loop-j.j);
}

pub returns : goal.returns
returns c = λ g i r.
    let all : c.loop-j.j ≡ GROUP_SLOTS = omega (arith, c.loop-j-test.false, c.loop-j.auto.j-end) in
    let v = c.loop-j.invariant in
    let slots = below_all v.read (v.size ∙ sym all) g.slots (i, r) (i.size ∙ sym all) in
    ap (λ s. record { slots = s }) slots
