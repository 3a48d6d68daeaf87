use Rattle.std.proofs.Common.{◌≡◌, ◌+◌, ◌<◌, ◌≤◌, sym, ap, ◌∙◌, ⊎_elim, arith}
use Rattle.std.proofs.lemmas.Bool.{cases_eq, cases_lt}
use Rattle.std.proofs.lemmas.List.{length-set, get_or-set_other}
use Rattle.std.proofs.lemmas.Grind.{get_or-set_at}
use Rattle.sls_kernel.proofs.PutEntries.{zero_at, bytes_at-within, bytes_at-past}
use Rattle.sls_kernel.proofs.put.bytes_of.Goals as goal

pub loop-k-init : goal.loop-k-init
loop-k-init c = record { size = omega arith; filled = λ byte page j h. absurd (omega arith); zeros = λ j h. zero_at 56 j }

pub loop-k-preserved : goal.loop-k-preserved
loop-k-preserved c =
    let l = c.loop-k in
    let sized = l.invariant.size in
    record {
      size = length-set l.bytes l.k c.byte.result ∙ l.invariant.size;
      filled = λ byte page j h.
          ⊎_elim
          (λ (here : j ≡ l.k). get_or-set_at l.bytes l.k j c.byte.result 0 here (omega arith) ∙ c.byte.ensures byte page ∙ ap (λ n. byte (c.args.at + n)) (sym here))
          (λ (other : j ≡ l.k → ⊥). get_or-set_other l.bytes l.k j c.byte.result 0 other ∙ l.invariant.filled byte page j (omega arith))
          (cases_eq j l.k);
      zeros = λ j h. get_or-set_other l.bytes l.k j c.byte.result 0 (λ e. omega arith) ∙ l.invariant.zeros j (omega arith);
    }

pub returns : goal.returns
returns c byte page k =
    let l = c.loop-k in
    ⊎_elim
    (λ (h : k < c.args.count). l.invariant.filled byte page k (omega arith) ∙ sym (bytes_at-within byte c.args.at c.args.count k h))
    (λ (h : c.args.count ≤ k). l.invariant.zeros k (omega arith) ∙ sym (bytes_at-past byte c.args.at c.args.count k h))
    (cases_lt k c.args.count)
