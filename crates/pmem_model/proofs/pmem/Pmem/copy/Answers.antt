use Rattle.std.proofs.Common.{◌+◌}
use Rattle.pmem_model.specs.Words.{is_within}
use Rattle.pmem_model.specs.Places.{bank_start, word_among}
use Rattle.pmem_model.proofs.SoundLemmas.{sound_after_less, less_stored}
use Rattle.pmem_model.proofs.pmem.Pmem.copy.Goals as goal

pub invariant_of-self : goal.invariant_of-self
invariant_of-self c =
    let p = c.self.inside in
    let after = c.copy.new.banks.items in
    sound_after_less p.banks.items after p.flushes.items c.self.invariant c.copy.ensures.banks c.copy.ensures.home
    (λ core i. less_stored (is_within (bank_start (1 + c.args.to)) 512 i) _ (word_among after i) (word_among p.banks.items i) core (c.copy.ensures.words i))
