use Rattle.std.proofs.Common.{◌≡◌, ◌∙◌, ◌+◌, ◌-◌, ap, sym, arith, rules, true, ℕ}
use Rattle.std.specs.Prelude.{is_some, find, ◌&&◌, Option}
use Rattle.plain_state.specs.declared.objects.Region.{Region as PlainRegion}
use Rattle.plain_model.specs.Objects.{regions_of}
use Rattle.plain_model.specs.Memory.{covers}
use Rattle.kobj_table.specs.Slots.{region_of}
use Rattle.kobj_table.specs.Objects.{object_at}
use Rattle.call_readings.proofs.Converted.{some_converted}
use Rattle.call_readings.proofs.Ends.{covered_by_ends}
use Rattle.call_readings.proofs.regions.is_covered.Goals as goal

pub returns-then-is_some : goal.returns-then-is_some
returns-then-is_some c content =
    let regions = regions_of (object_at content c.args.objects.now c.args.space) in
    let right = c.args.right in
    let there = λ (address : ℕ). is_some (find (covers right address) regions) in
    let last = c.args.at + (c.args.count - 1) in
    let first_is : c.from-first.result ≡ c.args.at = c.from-first.ensures in
    let last_is : c.from-first.result + c.from.result ≡ last = omega arith in
    let first_there : there c.from-first.result ≡ true =
    ap (λ (o : Option PlainRegion). is_some o) (sym (c.region_at.ensures content)) ∙ some_converted region_of c.region_at.result ∙ search rules in
    let last_there : there (c.from-first.result + c.from.result) ≡ c.is_some-then-is_some.result =
    ap (λ (o : Option PlainRegion). is_some o) (sym (c.region_at-then-is_some.ensures content)) ∙ some_converted region_of c.region_at-then-is_some.result ∙ search rules in
    sym (covered_by_ends regions right c.args.at c.args.count (omega arith) c.requires
    ∙ ap (λ b. b && there last) (sym (ap there first_is) ∙ first_there)
    ∙ sym (ap there last_is) ∙ last_there)
