use Rattle.pmem_model.proofs.PlaceLemmas.{home_bank}
use Rattle.std.proofs.Common.{length}
use Rattle.pmem_model.specs.Words.{is_within}
use Rattle.pmem_model.specs.Places.{word_among}
use Rattle.pmem_model.proofs.SoundLemmas.{sound_after_less, less_stored}
use Rattle.pmem_model.proofs.pmem.Pmem.burst.Goals as goal

pub invariant_of-self : goal.invariant_of-self
invariant_of-self c =
    let p = c.self.inside in
    let after = c.store.new.banks.items in
    sound_after_less p.banks.items after p.flushes.items c.self.invariant c.store.ensures.banks c.store.ensures.home
    (λ core i. less_stored (is_within c.args.at (length c.args.words.now) i) _ (word_among after i) (word_among p.banks.items i) core (c.store.ensures.words i))

pub store-requires-clause-home : goal.store-requires-clause-home
store-requires-clause-home c = home_bank c.self.inside.banks.items c.args.at c.self.invariant.table (rw (← c.self.view_is) at c.requires.home)
