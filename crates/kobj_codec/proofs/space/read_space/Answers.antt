use Rattle.std.proofs.Common.{◌≡◌, ◌∙◌, List, arith, ap, sym, None, length}
use Rattle.std.specs.Prelude.{slice_get}
use Rattle.mem_space.specs.declared.region.Region.{Region}
use Rattle.mem_space.specs.Region.{IsRegion}
use Rattle.kobj_codec.proofs.Told.{gets_all}
use Rattle.kobj_codec.proofs.ReadSoFar.{first_none, first_pushed, first_all, none_behind}
use Rattle.kobj_codec.proofs.Spaces.{space_of}
use Rattle.kobj_codec.proofs.space.read_space.Goals as goal

pub loop-i-init : goal.loop-i-init
loop-i-init c = record { size = ap length c.new-regions.ensures; read = first_none c.new-regions.ensures }

pub returns-in-None : goal.returns-in-None
returns-in-None c = λ s i r.
    let rs = s.regions.items in
    let here = c.region_of.ensures (slice_get rs c.loop-i.i) (gets_all IsRegion rs i.space.regions c.loop-i.i) (r.behind c.loop-i.i (omega (arith, c.loop-i-test.true))) in
    let none : slice_get rs c.loop-i.i ≡ None = sym here ∙ c.in-None.is in
    ap (λ (xs : List Region). space_of xs) (first_all c.loop-i.invariant.read rs (i, r) (none_behind rs c.loop-i.i none))

pub loop-i-preserved : goal.loop-i-preserved
loop-i-preserved c = record {
  size = omega (arith, c.push.ensures.len, c.loop-i.invariant.size);
  read = first_pushed c.in-Some.region c.loop-i.invariant.read c.push.ensures.items
      (λ rs w.
      let here = c.region_of.ensures (slice_get rs c.loop-i.i) (gets_all IsRegion rs w.0.space.regions c.loop-i.i) (w.1.behind c.loop-i.i (omega (arith, c.loop-i-test.true))) in
      sym here ∙ c.in-Some.is);
}

pub returns : goal.returns
returns c = λ s i r.
    let most = i.most in
    ap (λ (xs : List Region). space_of xs) (first_all c.loop-i.invariant.read s.regions.items (i, r) (omega (arith, most, c.loop-i-test.false)))
