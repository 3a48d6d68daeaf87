use Rattle.std.proofs.Common.{refl, length}
use Rattle.std.proofs.lemmas.List.Elements.{recursion_from_All}
use Rattle.machine_contract.specs.Courses.{played, labels_of}
use Rattle.machine_contract.specs.Play.{IsPossible}
use Rattle.machine_contract.proofs.Chains.{plays_show}
use Rattle.machine_contract.proofs.Labels.{labels_may}
use Rattle.machine_contract.proofs.laws.play_is_play.Goals as goal

pub returns-clause-may : goal.returns-clause-may
returns-clause-may g c = λ events answers old k new h shows possible.
    let T = g.M.Machine in
    labels_may T.format T.seen T.shows events answers old k new (length (T.seen old).side.cores) h
    (g.met.M.Machine.is_shown old k shows) refl
    (recursion_from_All (IsPossible (length (T.seen old).side.cores)) events possible)

pub returns-clause-shows : goal.returns-clause-shows
returns-clause-shows g c = let T = g.M.Machine in plays_show T.format T.seen T.shows

pub returns-clause-released : goal.returns-clause-released
returns-clause-released g c = λ events answers old k new h shows.
    let T = g.M.Machine in
    (g.met.M.Machine.is_shown new (played k (labels_of events answers))
    (plays_show T.format T.seen T.shows events answers old k new h shows)).counted.in_order.released
