-- Where the number has no ring, there is none that the count would be of.
use Rattle.std.proofs.Common.{◌+◌}
use Rattle.sls_base.specs.declared.fixed.TheConstants.{FIRST_OUTPUT_RING}
use Rattle.core_turns.proofs.Rings.{no_ring}
use Rattle.core_turns.proofs.begin.count_of.Goals as goal

pub returns-in-None : goal.returns-in-None
returns-in-None c = λ ring is.
    let none = c.in-None.ensures in
    absurd (no_ring c.args.objects.now (FIRST_OUTPUT_RING + c.args.channel) ring none.no_output none.no_input is)
