use Rattle.pmem_model.proofs.PlaceLemmas.{home_bank}
use Rattle.pmem_model.specs.Words.{is_within}
use Rattle.pmem_model.specs.Places.{word_among}
use Rattle.pmem_model.proofs.SoundLemmas.{sound_after_less, less_written}
use Rattle.pmem_model.proofs.pmem.Pmem.write_back.Goals as goal

pub invariant_of-self : goal.invariant_of-self
invariant_of-self c =
    let p = c.self.inside in
    let after = c.write_back.new.banks.items in
    sound_after_less p.banks.items after p.flushes.items c.self.invariant c.write_back.ensures.banks c.write_back.ensures.home
    (λ core i. less_written (is_within c.args.at 1 i) (word_among after i) (word_among p.banks.items i) core (c.write_back.ensures.words i))

pub write_back-requires-clause-home : goal.write_back-requires-clause-home
write_back-requires-clause-home c = home_bank c.self.inside.banks.items c.args.at c.self.invariant.table (rw (← c.self.view_is) at c.requires.home)
