-- The pages that were passed are forgotten, where no object has content on them.
use Rattle.std.proofs.Common.{◌≡◌}
use Rattle.object_records.specs.Records.{record_at}
use Rattle.core_turns.specs.Runs.{objects_of}
use Rattle.checkpoint_turns.proofs.ForgetAll.{HasForgotten}
use Rattle.checkpoint_turns.proofs.checkpoint.Checkpoint.forget_unused.Given as goal

abbrev pub invariant-loop-page : goal.invariant-loop-page
invariant-loop-page l = record {
  forgotten : HasForgotten (record_at (objects_of l.initial.self.running)) l.initial.self.running.rooms
      l.self.running.rooms l.page;
  same : l.self ≡ record l.initial.self {
    running = record l.initial.self.running {
      rooms = record l.initial.self.running.rooms { pages = l.self.running.rooms.pages };
    };
  };
}
