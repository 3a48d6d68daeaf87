use Rattle.pmem_model.specs.Places.{word_among}
use Rattle.pmem_model.proofs.SoundLemmas.{sound_after_less, less_lost}
use Rattle.pmem_model.proofs.pmem.Pmem.cut.Goals as goal

pub invariant_of-self : goal.invariant_of-self
invariant_of-self c =
    let p = c.self.inside in
    let after = c.cut.new.banks.items in
    sound_after_less p.banks.items after p.flushes.items c.self.invariant c.cut.ensures.banks c.cut.ensures.home
    (λ core i. less_lost (word_among after i) (word_among p.banks.items i) core (c.cut.ensures.words i))
