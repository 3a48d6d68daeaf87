use Rattle.first_format.specs.Parts.{first_parts}
use Rattle.first_format.proofs.Firsts.{are_first, records_ranged}
use Rattle.first_format.proofs.Stands.{parts_stand}
use Rattle.first_format.proofs.laws.formatted_words_stand.Goals as goal

pub returns-clause-stand : goal.returns-clause-stand
returns-clause-stand c = λ image cores accepted some most.
    parts_stand (first_parts image cores) some most c.places_of_owners.ensures.fixed (λ id. records_ranged image cores id (c.first_state.ensures.sound image cores accepted) some most)

pub returns-clause-are : goal.returns-clause-are
returns-clause-are c = λ image cores accepted bytes some most.
    are_first image cores accepted (c.first_state.ensures.sound image cores accepted) (c.pages_have_bytes.ensures.first image cores bytes) (c.first_state.ensures.swept image cores accepted) most
