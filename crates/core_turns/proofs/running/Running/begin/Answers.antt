-- What was restored runs in the world that it is, by laws of the crates below.
use Rattle.core_turns.proofs.Begun.{begun, just_saved, rest}
use Rattle.core_turns.proofs.running.Running.begin.Goals as goal

pub returns-clause-runs : goal.returns-clause-runs
returns-clause-runs c = λ accepted m w h.
    let r = c.args.restored in
    let reads = c.page_versions.ensures.reads in
    let of_records = c.records_stand_for_objects.ensures.state in
    let zeros = c.fresh_pages_are_zero.ensures.state in
    let put_back = c.parts_are_running_objects.ensures.state in
    let again = c.parts_are_running_objects.ensures.saved in
    let is = just_saved r accepted m w h reads of_records zeros put_back again in
    let content = rest r accepted m w h reads of_records zeros put_back again in
    let holds = c.begin.ensures.holds accepted m content w is in
    let counts = c.counts_of-saved in
    begun r accepted m w h reads of_records zeros put_back again c.begin.new.self c.begin.ensures.objects holds
    counts.result counts.ensures.counts
