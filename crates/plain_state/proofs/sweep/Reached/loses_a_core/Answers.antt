use Rattle.std.proofs.Common.{Option, rules, tests}
use Rattle.std.proofs.lemmas.Iterator.{YieldsList-from_slice}
use Rattle.std.proofs.lemmas.Iterator.Search.{any_from_yields_List}
use Rattle.plain_state.specs.declared.objects.Occupant.{Occupant}
use Rattle.plain_state.specs.Sweep.{is_lost, thread_on}
use Rattle.plain_state.proofs.sweep.Reached.loses_a_core.Goals as goal

pub returns : goal.returns
returns c = λ s tells.
    any_from_yields_List (λ (core : Option Occupant). is_lost s (thread_on core)) _ _ c.any.result c.any.ensures.ran (YieldsList-from_slice c.args.cores.now cc) (λ x b q k. search (rules, tests, tells))
