use Rattle.plain_laws.proofs.ThreadInstructions.{KnowsTable}
use Rattle.plain_laws.proofs.ThreadLabels.{first_threads, stays_with_threads, always_with_threads}
use Rattle.plain_laws.proofs.bounds.threads_stay_in_range.Goals as goal

pub returns : goal.returns
returns c =
    let table : KnowsTable = record {
      form = λ word i e. c.one_row.ensures.in_range word i ((c.one_row.ensures.decoded word i).0 e);
      in_range = c.plans_in_range.ensures.in_range;
      aligned = c.plans_in_range.ensures.aligned;
    } in
    record {
      first = first_threads;
      kept = stays_with_threads table;
      always = λ image cores accepted bytes labels may inputs. always_with_threads table image cores labels accepted bytes may inputs;
    }
