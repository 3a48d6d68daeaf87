-- What is seen of a machine, by what it is at.
use Rattle.std.specs.Prelude.{ℕ, ◌+◌, ◌&&◌, nat_lt, Bool, true, false, if◌then◌else◌, List, [], map, replicate, Option, Some, None, slice_index_or}
use Rattle.std.specs.List.{range_with_len}
use Rattle.sls_base.specs.declared.limits.TheConstants.{PAGES}
use Rattle.pmem_model.specs.Memory.{word_at}
use Rattle.page_store.specs.declared.stage.PageState.{PageState}
use Rattle.page_store.specs.declared.stage.PageState.TheVariants as state
use Rattle.page_store.specs.Stages.{stage_of, state_of}
use Rattle.cow_fault.specs.Faults.{steps_left}
use Rattle.leader_helper.specs.Stages.{is_before_commit}
use Rattle.first_format.specs.Shows as formats
use Rattle.tree_restore.specs.declared.recovery.TheConstants.{RECOVERY_TURNS}
use Rattle.tree_restore.specs.Restores as restores
use Rattle.core_turns.specs.declared.running.Running.{Running}
use Rattle.core_turns.specs.Runs.{prepared_by}
use Rattle.checkpoint_turns.specs.Checkpoints.{turns_left}
use Rattle.machine_contract.specs.Side.{Mode, Formatting, Recovering, Running as Runs, BeforeCommit, AfterCommit, CoreSide, free_core, Side, none_given}
use Rattle.machine_contract.specs.Shown.{Seen}
use Rattle.kernel_machine.specs.declared.work.Work.{Work}
use Rattle.kernel_machine.specs.declared.work.Work.TheVariants as work
use Rattle.kernel_machine.specs.declared.kernel.Kernel.{Kernel}

-- what the machine does: recovery right behind formatting is a part of formatting
abbrev pub mode_of : Work → Mode
mode_of (work.Formats s) = Formatting
mode_of (work.Recovers s) = if s.is_first then Formatting else Recovering
mode_of (work.Runs k) = Runs
mode_of (work.Saves c) = if is_before_commit c.leader.stage then BeforeCommit else AfterCommit
mode_of work.Between = Runs

-- How many turns of the leader it takes at most to the end of this: behind formatting comes recovery, and a last turn in
-- which the machine comes up.
abbrev pub left_of : Work → ℕ
left_of (work.Formats s) = formats.turns_left s.formatting + (RECOVERY_TURNS + 2)
left_of (work.Recovers s) = restores.turns_left s.recovery + 1
left_of (work.Runs k) = 0
left_of (work.Saves c) = turns_left c
left_of work.Between = 0

-- the turns that a core needs for the page that it has in hand
abbrev pub due_of : Running → Option ℕ → ℕ
due_of k None = 0
due_of k (Some page) = steps_left (stage_of k.rooms.pages page)

-- what a core has in hand
abbrev pub hand_of : Running → ℕ → CoreSide
hand_of k core = record { prepares = prepared_by k core; holds = None; due = due_of k (prepared_by k core) }

abbrev pub hands_of : Work → ℕ → List CoreSide
hands_of (work.Formats s) cores = replicate cores free_core
hands_of (work.Recovers s) cores = replicate cores free_core
hands_of (work.Runs k) cores = map (hand_of k) (range_with_len 0 cores)
hands_of (work.Saves c) cores = map (hand_of c.running) (range_with_len 0 cores)
hands_of work.Between cores = replicate cores free_core

-- which pages may be stored to
abbrev pub is_writable_at : PageState → Bool
is_writable_at state.Writable = true
is_writable_at other = false

abbrev pub writable_by : Running → ℕ → Bool
writable_by k page = nat_lt page PAGES && is_writable_at (state_of k.rooms.pages page)

abbrev pub writable_of : Work → ℕ → Bool
writable_of (work.Formats s) page = false
writable_of (work.Recovers s) page = false
writable_of (work.Runs k) page = writable_by k page
writable_of (work.Saves c) page = writable_by c.running page
writable_of work.Between page = false

-- by how many turns a page was prepared
abbrev pub spent_at : List ℕ → ℕ → ℕ
spent_at spent page = slice_index_or spent page 0

-- The side: nothing is copied by helpers, so there is no board, and no spare is given to a page.
abbrev pub side_of : Kernel → Side
side_of k = record {
  mode = mode_of k.work;
  left = left_of k.work;
  cores = hands_of k.work k.cores;
  spent = spent_at k.spent;
  writable = writable_of k.work;
  board = [];
  is_open = false;
  hot = [];
  given = none_given;
  wish = k.wish;
}

-- what is seen of the machine
abbrev pub seen_of : Kernel → Seen
seen_of k = record {
  side = side_of k;
  words = word_at k.nvm;
  accepted = k.accepted;
  ops = k.nvm.ops;
  commits = k.nvm.commits;
  cuts = k.nvm.cuts;
}
