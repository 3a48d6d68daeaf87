use Rattle.plain_laws.proofs.SavedImages.{first_saved}
use Rattle.plain_laws.proofs.Saved.{saved_after, always_saved}
use Rattle.plain_laws.proofs.kept.saved_is_swept.Goals as goal

pub returns-clause-first : goal.returns-clause-first
returns-clause-first c = first_saved

pub returns-clause-kept : goal.returns-clause-kept
returns-clause-kept c = saved_after

pub returns-clause-always : goal.returns-clause-always
returns-clause-always c = always_saved
