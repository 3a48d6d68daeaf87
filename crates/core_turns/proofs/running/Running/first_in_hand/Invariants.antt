use Rattle.std.proofs.Common.{◌≢◌, ◌<◌, ℕ, slice_index}
use Rattle.page_store.specs.Stages.{state_of}
use Rattle.page_store.specs.declared.stage.PageState.TheVariants.{Preparing}
use Rattle.core_turns.proofs.running.Running.first_in_hand.Given as goal

abbrev pub invariant-loop-page : goal.invariant-loop-page
invariant-loop-page l =
    (k : ℕ) → k < l.page-index → (core : ℕ) → state_of l.self.rooms.pages (slice_index l.pages k) ≢ Preparing core
