-- How many turns of the leader are left.
use Rattle.std.specs.Prelude.{◌≡◌, ℕ, ◌+◌, ◌<◌, ◌&&◌, Bool, true, false}
use Rattle.sls_base.specs.declared.limits.TheConstants.{OBJECTS, PAGES}
use Rattle.alloc_journal.specs.declared.journal.Stage.TheVariants as logs
use Rattle.alloc_journal.specs.declared.journal.Stage.{Stage as LogStage}
use Rattle.alloc_journal.specs.Sets.{changes, count_of}
use Rattle.alloc_journal.specs.Work.{log_left, redo_left}
use Rattle.object_root.specs.Room.{stage_at}
use Rattle.object_root.specs.declared.stage.Stage.{Stage as RecordStage}
use Rattle.object_root.specs.declared.stage.Stage.TheVariants as records
use Rattle.page_store.specs.Stages.{stage_of, state_of}
use Rattle.page_store.specs.declared.stage.PageStage.{PageStage}
use Rattle.page_store.specs.declared.stage.PageStage.TheVariants.{Writable}
use Rattle.page_store.specs.declared.stage.Writes.TheVariants.{Stored}
use Rattle.version_commit.specs.OnWay.{turns_of as commit_turns}
use Rattle.version_rooms.specs.declared.rooms.Rooms.{Rooms}
use Rattle.leader_helper.specs.declared.leader.Leader.{Leader}
use Rattle.leader_helper.specs.declared.stage.Stage.{Stage}
use Rattle.leader_helper.specs.declared.stage.Stage.TheVariants as at
use Rattle.leader_helper.specs.Leads.{is_changed}

-- a page was stored to and not flushed since
abbrev pub is_unflushed : PageStage → Bool
is_unflushed (Writable origin Stored) = true
is_unflushed stage = false

-- a page of the rooms was
abbrev pub is_to_flush : Rooms → ℕ → Bool
is_to_flush r page = is_unflushed (stage_of r.pages page)

-- the pages that are still to be flushed
abbrev pub pages_left : Rooms → ℕ
pages_left r = count_of (is_to_flush r) PAGES

-- how many steps a record still needs until it is flushed, and then until its tag is

abbrev pub is_unstored : RecordStage → Bool
is_unstored records.Idle = true
is_unstored stage = false

abbrev pub is_unwritten : RecordStage → Bool
is_unwritten records.Idle = true
is_unwritten (records.Stored slot) = true
is_unwritten stage = false

abbrev pub is_tagless : RecordStage → Bool
is_tagless (records.TagStored slot) = false
is_tagless (records.TagFlushed slot) = false
is_tagless stage = true

abbrev pub is_untagged : RecordStage → Bool
is_untagged (records.TagFlushed slot) = false
is_untagged stage = true

-- of how many changed objects the record is so
abbrev pub count_changed : Leader → Rooms → (RecordStage → Bool) → ℕ
count_changed l r so = count_of (λ id. is_changed l id && so (stage_at r.roots id)) OBJECTS

-- each record is stored and flushed, and so is its tag: two steps each

abbrev pub records_left : Leader → Rooms → ℕ
records_left l r = count_changed l r is_unstored + count_changed l r is_unwritten

abbrev pub tags_left : Leader → Rooms → ℕ
tags_left l r = count_changed l r is_tagless + count_changed l r is_untagged

-- the log has an entry for each number that changes, and five steps beside them; so has its redo

abbrev pub numbers_changed : Rooms → ℕ
numbers_changed r = changes r.numbers.work.committed r.numbers.running

abbrev pub log_turns : LogStage → Rooms → ℕ
log_turns logs.Rest r = numbers_changed r + 5
log_turns stage r = log_left r.numbers.work

-- After the commit the log is redone, and the cores resume. Before it comes the commit, which stores, flushes and fences,
-- before that the tags with their fence, the fence of the records, the log, the records, and the pages with their fence.

abbrev pub turns_from_commit : Rooms → ℕ
turns_from_commit r = commit_turns r.committer.version + (numbers_changed r + 5) + 1

abbrev pub turns_from_tags : Leader → Rooms → ℕ
turns_from_tags l r = tags_left l r + 1 + turns_from_commit r

abbrev pub turns_from_log : Leader → Rooms → ℕ
turns_from_log l r = log_turns r.numbers.work.stage r + 1 + turns_from_tags l r

-- How many turns of the leader are left until its checkpoint is at its end. Where it waits for cores that prepare a page
-- no turn is its own: the first of them is that of the first page.
abbrev pub turns_at : Stage → Leader → Rooms → ℕ
turns_at at.Gather l r = pages_left r + 1 + records_left l r + turns_from_log l r
turns_at (at.Pages page) l r = pages_left r + 1 + records_left l r + turns_from_log l r
turns_at (at.Records id) l r = records_left l r + turns_from_log l r
turns_at at.Log l r = turns_from_log l r
turns_at at.Fence l r = 1 + turns_from_tags l r
turns_at (at.Tags id) l r = turns_from_tags l r
turns_at at.Commit l r = turns_from_commit r
turns_at at.Apply l r = redo_left r.numbers.work + 1
turns_at at.Resume l r = 1

abbrev pub turns_left : Leader → Rooms → ℕ
turns_left l r = turns_at l.stage l r

-- A turn of the leader that commits nothing: of those that were left it was one. Pages may be stored to as before, and
-- the numbers in use are the same.
pub record IsTurn (old new : Leader) (r s : Rooms) : Type 0 where
  pub left : turns_left old r ≡ turns_left new s + 1
  pub pages : (page : ℕ) → page < PAGES → state_of s.pages page ≡ state_of r.pages page
  pub running : s.numbers.running ≡ r.numbers.running
