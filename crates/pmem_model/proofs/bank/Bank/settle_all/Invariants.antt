use Rattle.std.proofs.Common.{◌≡◌, ℕ, true}
use Rattle.pmem_model.specs.Parts.{is_touched}
use Rattle.pmem_model.specs.Words.{word_in, fenced, has_core, bank_len}
use Rattle.pmem_model.proofs.bank.Bank.settle_all.Given as goal

abbrev pub invariant-loop-rest : goal.invariant-loop-rest
invariant-loop-rest l = record {
  len : bank_len l.self ≡ l.len;
  words : (i : ℕ) → fenced l.core (word_in l.self i) ≡ fenced l.core (word_in l.initial.self i);
  marked : (i : ℕ) → has_core (word_in l.self i).marks l.core ≡ true → is_touched l.len l.rest i ≡ true;
}

abbrev pub decreases-loop-rest : goal.decreases-loop-rest
decreases-loop-rest l = l.rest
