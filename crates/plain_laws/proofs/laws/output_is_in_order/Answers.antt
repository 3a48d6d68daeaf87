use Rattle.plain_model.specs.Initial.{first_world}
use Rattle.plain_laws.specs.Laws.{IsInOrder}
use Rattle.plain_laws.proofs.Parts.{stays_in_order, first_in_order}
use Rattle.plain_laws.proofs.Walk.{played}
use Rattle.plain_laws.proofs.laws.output_is_in_order.Goals as goal

pub returns-clause-kept : goal.returns-clause-kept
returns-clause-kept c = stays_in_order

pub returns-clause-always : goal.returns-clause-always
returns-clause-always c = λ image cores labels. played IsInOrder stays_in_order (first_world image cores) labels (first_in_order image cores)
