-- An input is taken in as the world takes it, and Full comes exactly where the world has no room for it.
use Rattle.core_turns.proofs.Offers.{no_room, is_full, input_runs, runtime_kept}
use Rattle.core_turns.proofs.running.Running.give_input.Goals as goal

pub returns-clause-full : goal.returns-clause-full
returns-clause-full c = λ accepted m w h.
    let k = c.args.self.now.calls in
    let full = c.give_input.ensures.full in (
      λ err. no_room k accepted m h.rest w h.holds (full.0 err),
      λ none. full.1 (is_full k accepted m h.rest w h.holds none),
    )

pub returns-clause-runs : goal.returns-clause-runs
returns-clause-runs c = λ accepted m w h.
    let told = c.give_input.ensures in
    let holds = told.holds accepted m h.rest w h.holds in
    let same = runtime_kept c.give_input.result c.args.self.now.calls c.give_input.new.self _ told.err told.ok in
    input_runs c.args.self.now accepted m w h c.give_input.new.self same c.args.bytes.now holds.0 holds.1
