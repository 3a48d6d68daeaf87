use Rattle.plain_laws.proofs.BytePlays.{always_of_bytes}
use Rattle.plain_laws.proofs.Entries.{first_entries, stays_with_entries}
use Rattle.plain_laws.proofs.bounds.entries_keep_their_form.Goals as goal

pub returns-clause-first : goal.returns-clause-first
returns-clause-first c = first_entries

pub returns-clause-kept : goal.returns-clause-kept
returns-clause-kept c = stays_with_entries

pub returns-clause-always : goal.returns-clause-always
returns-clause-always c = λ image cores accepted bytes labels may inputs. (always_of_bytes image cores labels accepted bytes may inputs).entries
