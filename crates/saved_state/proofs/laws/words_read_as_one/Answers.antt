use Rattle.saved_state.proofs.AsOne.{read_as_one}
use Rattle.saved_state.proofs.laws.words_read_as_one.Goals as goal

pub returns : goal.returns
returns c = λ words version base accepted s t first second.
    let law = c.parts_are_of_one.ensures in
    let p = first.parts in
    let q = second.parts in
    read_as_one base accepted p q s t (law.numbers words version p q first.stand second.stand) (law.objects words version p q first.stand second.stand)
    (law.pages words version p q first.stand second.stand) c.entries_have_places.ensures.one first.are second.are
