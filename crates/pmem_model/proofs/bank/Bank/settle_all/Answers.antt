use Rattle.std.proofs.Common.{◌≡◌, ℕ, ◌∙◌, arith, true, sym, ap, subst, length, refl}
use Rattle.pmem_model.specs.Kept.{is_between}
use Rattle.pmem_model.specs.Words.{word_in, bank_len}
use Rattle.pmem_model.specs.Parts.{is_touched}
use Rattle.pmem_model.proofs.FenceLemmas.{step_words, step_flushed, all_fenced}
use Rattle.pmem_model.proofs.PartLemmas.{none_touched, still_in_rest}
use Rattle.pmem_model.proofs.KeptLemmas.{marked_touched}
use Rattle.pmem_model.proofs.bank.Bank.settle_all.Goals as goal

pub loop-rest-init : goal.loop-rest-init
loop-rest-init c =
    let count : c.len-len.result ≡ length c.self.inside.cached.items = omega (arith, c.len-len.ensures, c.self.inside.cached.ok.0) in
    record {
      len = sym (ap bank_len c.self.view_is) ∙ sym count;
      words = λ i. refl;
      marked = λ i has. subst (λ (n : ℕ). is_touched n c.self.inside.touched i ≡ true) (sym count)
          (marked_touched c.self.inside.cached.items c.self.inside.durable.items c.self.inside.marks.items c.self.inside.touched c.args.core i
          c.self.invariant (rw (← c.self.view_is) at has));
    }

pub loop-rest-preserved : goal.loop-rest-preserved
loop-rest-preserved c =
    let here = λ (i : ℕ). is_between c.start.result c.start-in-loop-rest.result i in
    record {
      len = c.settle.ensures.len ∙ c.loop-rest.invariant.len;
      words = λ i. step_words c.args.core (here i) (word_in c.settle.new.self i) (word_in c.loop-rest.self i) (word_in c.args.self.now i) (c.settle.ensures.words i) (c.loop-rest.invariant.words i);
      marked = λ i. step_flushed c.args.core (here i) (is_touched c.len-len.result c.without-rest.result i) (word_in c.settle.new.self i) (word_in c.loop-rest.self i) (c.settle.ensures.words i)
          (λ has. rw (c.start.ensures, c.start-in-loop-rest.ensures)
          (still_in_rest c.len-len.result c.loop-rest.rest c.without-rest.result c.first-part.result i c.without-rest.ensures.others (c.loop-rest.invariant.marked i has)));
    }

pub returns-clause-words : goal.returns-clause-words
returns-clause-words c = λ i.
    all_fenced c.args.core (word_in c.loop-rest.self i) (word_in c.args.self.now i)
    (λ has. none_touched c.len-len.result i (rw c.loop-rest-test.false at (c.loop-rest.invariant.marked i has)))
    (c.loop-rest.invariant.words i)
