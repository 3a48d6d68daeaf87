use Rattle.plain_laws.proofs.Parts.{released_played}
use Rattle.plain_laws.proofs.laws.released_grows.Goals as goal

pub returns : goal.returns
returns c = released_played
