use Rattle.std.proofs.Common.{◌≡◌, sym, subst, arith, false, true}
use Rattle.page_store.specs.Back.{Progress, PageBack}
use Rattle.page_store.specs.Known.{Open}
use Rattle.page_store.proofs.BackLaws.{back_begins}
use Rattle.page_store.proofs.BackSteps.{new_progress}
use Rattle.page_store.proofs.recovery.Recovery.new.Goals as goal

pub returns-clause-shows : goal.returns-clause-shows
returns-clause-shows c = λ f saved clean stands. record {
  at = c.new.ensures.at;
  each = λ page lt.
      subst (λ (p : Progress). PageBack p f c.args.version page (saved page) Open) (sym (new_progress c.new.result page))
      (back_begins clean.at (stands.each page lt));
  done = λ page low lt. absurd (omega (arith, low));
  full = λ fenced. let z : true ≡ false = sym fenced in cc;
}
