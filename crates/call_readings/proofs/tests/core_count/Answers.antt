use Rattle.std.proofs.Common.{◌≡◌, ◌∙◌, length, sym, ap, arith}
use Rattle.std.specs.Prelude.{map, option_map, min}
use Rattle.std.proofs.lemmas.List.{length-map, length-take}
use Rattle.kobj_table.specs.Slots.{occupant_of}
use Rattle.call_readings.proofs.tests.core_count.Goals as goal

pub returns-clause-count : goal.returns-clause-count
returns-clause-count c =
    let cores = c.args.cores in
    let all = length-map cores.running (option_map occupant_of) in
    let there = length-take cores.cores (map (option_map occupant_of) cores.running) in
    omega (arith, all, there)
