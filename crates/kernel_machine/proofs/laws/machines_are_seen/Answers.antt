-- What is seen of a machine says the course that it is at.
use Rattle.kernel_machine.proofs.SeenParts.{SeenLaws}
use Rattle.kernel_machine.proofs.Seen.{count_hands, is_shown, seen_at}
use Rattle.kernel_machine.proofs.laws.machines_are_seen.Goals as goal
use Rattle.kernel_machine.proofs.laws.machines_are_seen.Goals.{After-cuts}

laws_of : After-cuts → SeenLaws
laws_of c = record {
  formats = c.formatting.ensures.cut;
  first_stands = c.formatted_words_stand.ensures.stand;
  first_are = c.formatted_words_stand.ensures.are;
  first_sound = c.worlds_are_sound.ensures.first;
  recovers = c.recovery_is_clean.ensures;
  rests = c.at_rest.ensures;
  before = c.cuts.ensures.before;
  behind = c.cuts.ensures.behind;
  version = c.version_word.ensures;
}

pub returns-clause-home : goal.returns-clause-home
returns-clause-home c = λ k course is. (seen_at (laws_of c) k course is).home

pub returns-clause-cores : goal.returns-clause-cores
returns-clause-cores c = λ k. count_hands k.work k.cores

pub returns-clause-shown : goal.returns-clause-shown
returns-clause-shown c = λ k course is. is_shown k course is (seen_at (laws_of c) k course is)

pub returns-clause-left : goal.returns-clause-left
returns-clause-left c = λ k course left may reads is. (seen_at (laws_of c) k course is).left left may reads
