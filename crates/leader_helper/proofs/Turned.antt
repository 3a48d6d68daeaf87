-- Each turn of the leader before the commit is one of those that were left.
use Rattle.std.specs.Prelude.{◌≡◌, ◌≢◌, ◌+◌, ◌-◌, ◌<◌, ℕ, true}
use Rattle.std.proofs.Common.{◌∙◌, ap, arith, inl, inr, refl, sym}
use Rattle.std.proofs.lemmas.Bool.{cases_eq, cases_lt}
use Rattle.sls_base.specs.declared.limits.TheConstants.{OBJECTS, PAGES}
use Rattle.pmem_model.specs.Words.{Word}
use Rattle.alloc_journal.specs.declared.journal.Stage.{Stage as LogStage}
use Rattle.alloc_journal.specs.declared.journal.Stage.TheVariants as logs
use Rattle.alloc_journal.specs.Sets.{changes}
use Rattle.alloc_journal.specs.Work.{InUse, log_left, redo_left, redo_left_at}
use Rattle.alloc_journal.proofs.SetLemmas.{count_less, count_none}
use Rattle.object_root.specs.Room.{KeepsOthers, Room, stage_at}
use Rattle.page_store.specs.declared.store.PageStore.{PageStore}
use Rattle.page_store.specs.Stages.{flushed, stage_of, state_at, state_of}
use Rattle.version_rooms.specs.declared.rooms.Rooms.{Rooms}
use Rattle.version_rooms.specs.Rooms.{Contents}
use Rattle.leader_helper.specs.declared.leader.Leader.{Leader}
use Rattle.leader_helper.specs.declared.stage.Stage.{Stage}
use Rattle.leader_helper.specs.declared.stage.Stage.TheVariants as at
use Rattle.leader_helper.specs.First.{IsFirstFrom, IsNoneFrom}
use Rattle.leader_helper.specs.Stages.{HasTag, IsIdle, IsStored, IsTagged, IsWritten}
use Rattle.leader_helper.specs.Leads.{is_changed, IsWriting}
use Rattle.leader_helper.specs.Turns.{IsTurn, is_tagless, is_to_flush, is_unflushed, is_unstored, is_untagged, is_unwritten, log_turns, pages_left, records_left, tags_left, turns_at, turns_from_commit, turns_from_log, turns_from_tags, turns_left}
use Rattle.leader_helper.proofs.Counted.{all_as_many, as_many, none_left, one_less}
use Rattle.leader_helper.proofs.LogSteps.{IsOn, none_logged, turns_logging}
use Rattle.leader_helper.proofs.PageSteps.{flushed_clear, is_clear, same_state}
use Rattle.leader_helper.proofs.Writing.{at_stage, none_behind, of_changed}
use Rattle.leader_helper.proofs.RecordSteps.{past}

pub turns_now : (l : Leader) (r : Rooms) (stage : Stage) → l.stage ≡ stage → turns_left l r ≡ turns_at stage l r
turns_now l r stage e = ap (λ (s : Stage). turns_at s l r) e

-- the turns from the log on depend on the numbers, the records and the commit alone
log_alike : (stage : LogStage) (r s : Rooms) → s.numbers ≡ r.numbers → log_turns stage r ≡ log_turns stage s
log_alike logs.Rest r s e = ap (λ (n : InUse). changes n.work.committed n.running + 5) (sym e)
log_alike stage r s e = ap (λ (n : InUse). log_left n.work) (sym e)

pub log_as_many : (l : Leader) (r : Rooms) (pages : PageStore)
    → turns_from_log l r ≡ turns_from_log l (record r { pages = pages })
log_as_many l r pages = ap (λ (n : ℕ). n + 1 + turns_from_tags l r) (log_alike r.numbers.work.stage r (record r { pages = pages }) refl)

-- Pages.

pages_then : (a b x y z : ℕ) → a ≡ b + 1 → y ≡ z → a + 1 + x + y ≡ b + 1 + x + z + 1
pages_then a b x y z e same = omega (arith, e, same)

pages_done : (a x y : ℕ) → a ≡ 0 → a + 1 + x + y ≡ x + y + 1
pages_done a x y e = omega (arith, e)

pub flush_turn : (l : Leader) (r : Rooms) (pages : PageStore) (first page : ℕ) → l.stage ≡ at.Pages first
    → IsFirstFrom first PAGES (is_to_flush r) page → stage_of pages page ≡ flushed (stage_of r.pages page)
    → ((i : ℕ) → i ≢ page → stage_of pages i ≡ stage_of r.pages i)
    → IsTurn l (record l { stage = at.Pages (page + 1) }) r (record r { pages = pages })
flush_turn l r pages first page e next here others = record {
  left = turns_now l r (at.Pages first) e ∙ pages_then (pages_left r) (pages_left (record r { pages = pages })) (records_left l r) (turns_from_log l r) (turns_from_log l (record r { pages = pages }))
      (count_less (is_to_flush r) (is_to_flush (record r { pages = pages })) page PAGES next.inside next.found (ap is_unflushed here ∙ flushed_clear _)
      (λ i lt ne. ap is_unflushed (others i ne))) (log_as_many l r pages);
  pages = λ i lt. elim (cases_eq i page) [
    | inl same ↦ ap (λ (k : ℕ). state_of pages k) same ∙ ap state_at here ∙ same_state _ ∙ ap (λ (k : ℕ). state_of r.pages k) (sym same)
    | inr other ↦ ap state_at (others i other)
  ];
  running = refl;
}

pub pages_turn : (l : Leader) (r : Rooms) (f : ℕ → Word) (v : ℕ) (c : Contents) (first : ℕ) → l.stage ≡ at.Pages first
    → IsNoneFrom first PAGES (is_to_flush r) → IsWriting l r f v c → IsTurn l (record l { stage = at.Records 0 }) r r
pages_turn l r f v c first e none h =
    let w = at_stage (at.Pages first) e h in
    record {
      left = turns_now l r (at.Pages first) e ∙ pages_done (pages_left r) (records_left l r) (turns_from_log l r)
          (count_none (is_to_flush r) PAGES (λ i lt. elim (cases_lt i first) [
            | inl earlier ↦ is_clear _ ((w.pages i lt).1 earlier)
            | inr later ↦ none i later lt
          ]));
      pages = λ i lt. refl;
      running = refl;
    }

-- Records.

sums : {a b c d : ℕ} → a ≡ c → b ≡ d → a + b ≡ c + d
sums {a} {b} {c} {d} p q = ap (λ (x : ℕ). x + b) p ∙ ap (λ (x : ℕ). c + x) q

left_less : (a b c d : ℕ) → a ≡ c + 1 → b ≡ d → a + b ≡ c + d + 1
left_less a b c d p q = omega (arith, p, q)

right_less : (a b c d : ℕ) → a ≡ c → b ≡ d + 1 → a + b ≡ c + d + 1
right_less a b c d p q = omega (arith, p, q)

records_then : (a b t u g h k : ℕ) → a ≡ b + 1 → t ≡ u → g ≡ h → a + (t + 1 + (g + 1 + k)) ≡ b + (u + 1 + (h + 1 + k)) + 1
records_then a b t u g h k p q s = omega (arith, p, q, s)

tags_then : (a b k : ℕ) → a ≡ b + 1 → a + 1 + k ≡ b + 1 + k + 1
tags_then a b k p = omega (arith, p)

none_and : (a b : ℕ) → a ≡ 0 → a + b ≡ b
none_and a b p = omega (arith, p)

none_and_one : (a k : ℕ) → a ≡ 0 → a + 1 + k ≡ k + 1
none_and_one a k p = omega (arith, p)

one_and : (a b k : ℕ) → a ≡ b → 1 + (a + 1 + k) ≡ b + 1 + k + 1
one_and a b k p = omega (arith, p)

record_turn : (l : Leader) (r : Rooms) (roots : Room) (first next : ℕ) → l.stage ≡ at.Records first
    → records_left l r ≡ records_left l (record r { roots = roots }) + 1
    → tags_left l r ≡ tags_left l (record r { roots = roots })
    → IsTurn l (record l { stage = at.Records next }) r (record r { roots = roots })
record_turn l r roots first next e less same = record {
  left = turns_now l r (at.Records first) e
      ∙ records_then (records_left l r) (records_left l (record r { roots = roots })) (log_turns r.numbers.work.stage r) (log_turns r.numbers.work.stage (record r { roots = roots }))
      (tags_left l r) (tags_left l (record r { roots = roots })) (turns_from_commit r) less (log_alike r.numbers.work.stage r (record r { roots = roots }) refl) same;
  pages = λ i lt. refl;
  running = refl;
}

pub store_turn : (l : Leader) (r : Rooms) (roots : Room) (first next id : ℕ) → l.stage ≡ at.Records first
    → IsFirstFrom first OBJECTS (is_changed l) id → IsIdle (stage_at r.roots id) → IsStored (stage_at roots id)
    → KeepsOthers r.roots roots id → IsTurn l (record l { stage = at.Records next }) r (record r { roots = roots })
store_turn l r roots first next id e changed idle stored others =
    record_turn l r roots first next e
    (left_less _ _ _ _ (one_less (is_changed l) (stage_at r.roots) (stage_at roots) is_unstored id changed.inside changed.found (ap is_unstored idle) (ap is_unstored stored.1) others.others)
    (as_many (is_changed l) (stage_at r.roots) (stage_at roots) is_unwritten id (ap is_unwritten idle ∙ sym (ap is_unwritten stored.1)) others.others))
    (sums (as_many (is_changed l) (stage_at r.roots) (stage_at roots) is_tagless id (ap is_tagless idle ∙ sym (ap is_tagless stored.1)) others.others)
    (as_many (is_changed l) (stage_at r.roots) (stage_at roots) is_untagged id (ap is_untagged idle ∙ sym (ap is_untagged stored.1)) others.others))

pub write_turn : (l : Leader) (r : Rooms) (roots : Room) (first next id : ℕ) → l.stage ≡ at.Records first
    → IsFirstFrom first OBJECTS (is_changed l) id → IsStored (stage_at r.roots id) → IsWritten (stage_at roots id)
    → KeepsOthers r.roots roots id → IsTurn l (record l { stage = at.Records next }) r (record r { roots = roots })
write_turn l r roots first next id e changed stored written others =
    record_turn l r roots first next e
    (right_less _ _ _ _ (as_many (is_changed l) (stage_at r.roots) (stage_at roots) is_unstored id (ap is_unstored stored.1 ∙ sym (ap is_unstored written.1)) others.others)
    (one_less (is_changed l) (stage_at r.roots) (stage_at roots) is_unwritten id changed.inside changed.found (ap is_unwritten stored.1) (ap is_unwritten written.1) others.others))
    (sums (as_many (is_changed l) (stage_at r.roots) (stage_at roots) is_tagless id (ap is_tagless stored.1 ∙ sym (ap is_tagless written.1)) others.others)
    (as_many (is_changed l) (stage_at r.roots) (stage_at roots) is_untagged id (ap is_untagged stored.1 ∙ sym (ap is_untagged written.1)) others.others))

-- the log begins in a turn of its own
pub log_turn_begins : (l : Leader) (r : Rooms) (f : ℕ → Word) (v : ℕ) (c : Contents) (first : ℕ)
    → l.stage ≡ at.Records first → IsNoneFrom first OBJECTS (is_changed l) → IsWriting l r f v c
    → turns_left l r ≡ turns_left (record l { stage = at.Log }) r
log_turn_begins l r f v c first e none h =
    let w = at_stage (at.Records first) e h in
    let written = λ (i : ℕ) (lt : i < OBJECTS) (set : is_changed l i ≡ true). past (none_behind none i lt set) (of_changed (is_changed l i) (at.Records first) i _ _ _ set (w.records i lt)) in
    turns_now l r (at.Records first) e
    ∙ none_and _ (turns_from_log l r) (sums (none_left (is_changed l) (stage_at r.roots) is_unstored (λ i lt set. ap is_unstored (written i lt set).1))
    (none_left (is_changed l) (stage_at r.roots) is_unwritten (λ i lt set. ap is_unwritten (written i lt set).1)))

pub turn_after : {l m n : Leader} {r s : Rooms} → turns_left l r ≡ turns_left m r → IsTurn m n r s → IsTurn l n r s
turn_after same turn = record { left = same ∙ turn.left; pages = turn.pages; running = turn.running }

-- Tags.

tag_turn : (l : Leader) (r : Rooms) (roots : Room) (first next : ℕ) → l.stage ≡ at.Tags first
    → tags_left l r ≡ tags_left l (record r { roots = roots }) + 1
    → IsTurn l (record l { stage = at.Tags next }) r (record r { roots = roots })
tag_turn l r roots first next e less = record {
  left = turns_now l r (at.Tags first) e ∙ tags_then (tags_left l r) (tags_left l (record r { roots = roots })) (turns_from_commit r) less;
  pages = λ i lt. refl;
  running = refl;
}

pub store_tag_turn : (l : Leader) (r : Rooms) (roots : Room) (first next id : ℕ) → l.stage ≡ at.Tags first
    → IsFirstFrom first OBJECTS (is_changed l) id → IsWritten (stage_at r.roots id) → HasTag (stage_at roots id)
    → KeepsOthers r.roots roots id → IsTurn l (record l { stage = at.Tags next }) r (record r { roots = roots })
store_tag_turn l r roots first next id e changed written tag others =
    tag_turn l r roots first next e
    (left_less _ _ _ _ (one_less (is_changed l) (stage_at r.roots) (stage_at roots) is_tagless id changed.inside changed.found (ap is_tagless written.1) (ap is_tagless tag.1) others.others)
    (as_many (is_changed l) (stage_at r.roots) (stage_at roots) is_untagged id (ap is_untagged written.1 ∙ sym (ap is_untagged tag.1)) others.others))

pub flush_tag_turn : (l : Leader) (r : Rooms) (roots : Room) (first next id : ℕ) → l.stage ≡ at.Tags first
    → IsFirstFrom first OBJECTS (is_changed l) id → HasTag (stage_at r.roots id) → IsTagged (stage_at roots id)
    → KeepsOthers r.roots roots id → IsTurn l (record l { stage = at.Tags next }) r (record r { roots = roots })
flush_tag_turn l r roots first next id e changed tag tagged others =
    tag_turn l r roots first next e
    (right_less _ _ _ _ (as_many (is_changed l) (stage_at r.roots) (stage_at roots) is_tagless id (ap is_tagless tag.1 ∙ sym (ap is_tagless tagged.1)) others.others)
    (one_less (is_changed l) (stage_at r.roots) (stage_at roots) is_untagged id changed.inside changed.found (ap is_untagged tag.1) (ap is_untagged tagged.1) others.others))

-- Fences of all objects.

pub fence_turn : (l : Leader) (r : Rooms) (roots : Room) → l.stage ≡ at.Fence
    → ((i : ℕ) → stage_at roots i ≡ stage_at r.roots i)
    → IsTurn l (record l { stage = at.Tags 0 }) r (record r { roots = roots })
fence_turn l r roots e same = record {
  left = turns_now l r at.Fence e ∙ one_and (tags_left l r) (tags_left l (record r { roots = roots })) (turns_from_commit r)
      (sums (all_as_many (is_changed l) (stage_at r.roots) (stage_at roots) is_tagless same)
      (all_as_many (is_changed l) (stage_at r.roots) (stage_at roots) is_untagged same));
  pages = λ i lt. refl;
  running = refl;
}

pub fence_tags_turn : (l : Leader) (r : Rooms) (roots : Room) (f : ℕ → Word) (v : ℕ) (c : Contents) (first : ℕ)
    → l.stage ≡ at.Tags first → IsNoneFrom first OBJECTS (is_changed l) → IsWriting l r f v c
    → IsTurn l (record l { stage = at.Commit }) r (record r { roots = roots })
fence_tags_turn l r roots f v c first e none h =
    let w = at_stage (at.Tags first) e h in
    let tagged = λ (i : ℕ) (lt : i < OBJECTS) (set : is_changed l i ≡ true). past (none_behind none i lt set) (of_changed (is_changed l i) (at.Tags first) i _ _ _ set (w.records i lt)) in
    record {
      left = turns_now l r (at.Tags first) e ∙ none_and_one (tags_left l r) (turns_from_commit r)
          (sums (none_left (is_changed l) (stage_at r.roots) is_tagless (λ i lt set. ap is_tagless (tagged i lt set).1))
          (none_left (is_changed l) (stage_at r.roots) is_untagged (λ i lt set. ap is_untagged (tagged i lt set).1)));
      pages = λ i lt. refl;
      running = refl;
    }

-- The log.

log_then : (a b x t k n m : ℕ) → a ≡ b + 1 → x ≡ b → m ≡ n
    → a + 1 + (t + 1 + (k + (n + 5) + 1)) ≡ x + 1 + (t + 1 + (k + (m + 5) + 1)) + 1
log_then a b x t k n m p q s = omega (arith, p, q, s)

log_done : (a b t k n m : ℕ) → a ≡ b + 1 → b ≡ 0 → m ≡ n
    → a + 1 + (t + 1 + (k + (n + 5) + 1)) ≡ 1 + (t + 1 + (k + (m + 5) + 1)) + 1
log_done a b t k n m p q s = omega (arith, p, q, s)

pub log_turn : (l : Leader) (r : Rooms) (new : InUse) → l.stage ≡ at.Log → IsOn r new
    → new.running ≡ r.numbers.running → IsTurn l (record l { stage = at.Log }) r (record r { numbers = new })
log_turn l r new e on running = record {
  left = turns_now l r at.Log e ∙ log_then _ _ (log_turns new.work.stage (record r { numbers = new })) (tags_left l r) _ _ _ on.left
      (turns_logging new.work.stage (record r { numbers = new }) on.logging) on.changed;
  pages = λ i lt. refl;
  running = running;
}

pub log_last_turn : (l : Leader) (r : Rooms) (new : InUse) → l.stage ≡ at.Log → IsOn r new
    → new.work.stage ≡ logs.Logged → new.running ≡ r.numbers.running
    → IsTurn l (record l { stage = at.Fence }) r (record r { numbers = new })
log_last_turn l r new e on last running = record {
  left = turns_now l r at.Log e ∙ log_done _ _ (tags_left l r) _ _ _ on.left (none_logged new last) on.changed;
  pages = λ i lt. refl;
  running = running;
}

-- Behind the commit.

apply_then : (a b : ℕ) → a ≡ b + 1 → a + 1 ≡ b + 1 + 1
apply_then a b p = omega (arith, p)

pub apply_turn : (l : Leader) (r : Rooms) (new : InUse) → l.stage ≡ at.Apply
    → redo_left r.numbers.work ≡ redo_left new.work + 1 → new.running ≡ r.numbers.running
    → IsTurn l (record l { stage = at.Apply }) r (record r { numbers = new })
apply_turn l r new e less running = record {
  left = turns_now l r at.Apply e ∙ apply_then _ _ less;
  pages = λ i lt. refl;
  running = running;
}

pub apply_last_turn : (l : Leader) (r : Rooms) (new : InUse) → l.stage ≡ at.Apply
    → redo_left r.numbers.work ≡ redo_left new.work + 1 → new.work.stage ≡ logs.Rest
    → new.running ≡ r.numbers.running → IsTurn l (record l { stage = at.Resume }) r (record r { numbers = new })
apply_last_turn l r new e less last running = record {
  left = turns_now l r at.Apply e ∙ apply_then _ 0 (less ∙ ap (λ (stage : LogStage). redo_left_at stage (new.work.entries - new.work.redone) + 1) last);
  pages = λ i lt. refl;
  running = running;
}
