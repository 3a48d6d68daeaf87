use Rattle.pmem_layout.proofs.OwnerLemmas.{format_place, version_place, fixed_places, numbers_places, objects_places, pages_places}
use Rattle.pmem_layout.proofs.laws.places_of_owners.Goals as goal

pub returns-clause-format : goal.returns-clause-format
returns-clause-format c = format_place

pub returns-clause-version : goal.returns-clause-version
returns-clause-version c = version_place

pub returns-clause-fixed : goal.returns-clause-fixed
returns-clause-fixed c = fixed_places

pub returns-clause-numbers : goal.returns-clause-numbers
returns-clause-numbers c = numbers_places

pub returns-clause-objects : goal.returns-clause-objects
returns-clause-objects c = objects_places

pub returns-clause-pages : goal.returns-clause-pages
returns-clause-pages c = pages_places
