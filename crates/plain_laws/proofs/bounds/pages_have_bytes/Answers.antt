use Rattle.plain_laws.proofs.BytePlays.{always_of_bytes}
use Rattle.plain_laws.proofs.PageLabels.{first_pages, stays_with_pages}
use Rattle.plain_laws.proofs.bounds.pages_have_bytes.Goals as goal

pub returns-clause-first : goal.returns-clause-first
returns-clause-first c = first_pages

pub returns-clause-kept : goal.returns-clause-kept
returns-clause-kept c = stays_with_pages

pub returns-clause-always : goal.returns-clause-always
returns-clause-always c = λ image cores accepted bytes labels may inputs. (always_of_bytes image cores labels accepted bytes may inputs).pages
