use Rattle.std.proofs.lemmas.List.{get_or-replicate}
use Rattle.page_store.proofs.store.zero_words.Goals as goal

pub returns-clause-zero : goal.returns-clause-zero
returns-clause-zero c = λ j lt. get_or-replicate 512 j 0 0 lt
