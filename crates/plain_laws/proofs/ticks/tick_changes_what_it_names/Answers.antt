use Rattle.plain_laws.proofs.Changes.{tick_changes}
use Rattle.plain_laws.proofs.Pages.{tick_keeps_pages, tick_keeps_numbers}
use Rattle.plain_laws.proofs.ticks.tick_changes_what_it_names.Goals as goal

pub returns-clause-only : goal.returns-clause-only
returns-clause-only c = tick_changes

pub returns-clause-pages : goal.returns-clause-pages
returns-clause-pages c = λ w core chosen placed chose. tick_keeps_pages w core chosen placed chose

pub returns-clause-numbers : goal.returns-clause-numbers
returns-clause-numbers c = tick_keeps_numbers
