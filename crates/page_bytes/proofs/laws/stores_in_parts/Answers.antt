use Rattle.page_bytes.proofs.Parts.{in_parts, still_apart}
use Rattle.page_bytes.proofs.laws.stores_in_parts.Goals as goal

pub returns-clause-parts : goal.returns-clause-parts
returns-clause-parts c objects regions right at first behind covered = in_parts objects regions right at first behind covered

pub returns-clause-apart : goal.returns-clause-apart
returns-clause-apart c objects rest content apart = still_apart objects rest content apart
