use Rattle.plain_laws.proofs.Free.{least_free, all_used, no_object_free, pages_are_free}
use Rattle.plain_laws.proofs.laws.new_numbers_are_free.Goals as goal

pub returns-clause-object : goal.returns-clause-object
returns-clause-object c = least_free

pub returns-clause-pages : goal.returns-clause-pages
returns-clause-pages c = pages_are_free

pub returns-clause-no_object : goal.returns-clause-no_object
returns-clause-no_object c = λ w. (all_used w, no_object_free w)
