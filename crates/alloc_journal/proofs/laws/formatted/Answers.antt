use Rattle.alloc_journal.proofs.ShowLemmas.{format_calm, formatted}
use Rattle.alloc_journal.proofs.laws.formatted.Goals as goal

pub returns-clause-calm : goal.returns-clause-calm
returns-clause-calm c = format_calm

pub returns-clause-shows : goal.returns-clause-shows
returns-clause-shows c = formatted
