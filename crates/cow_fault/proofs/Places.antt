-- Words, lines and frames that an event names.
use Rattle.std.proofs.Common.{◌≡◌, ℕ, ◌+◌, ◌%◌, ◌<◌, ◌≤◌, IsTrue, ◌-◌, arith, refl, subst, true, false, suc, List, Option, Some, slice_index, [], ◌∷◌, ⊎_elim}
use Rattle.std.proofs.lemmas.Bool.{cases_Bool}
use Rattle.pmem_model.specs.Words.{Word, is_within, bursts}
use Rattle.pmem_model.specs.Events.{IsBurst, inside_of}
use Rattle.sls_base.specs.declared.limits.TheConstants.{PAGES}
use Rattle.pmem_model.specs.Memory.{Memory, AllHome, is_frame_home}
use Rattle.pmem_model.specs.PlaceLaws.{inside_word, inside_line, home_of, all_home_kept, frame_home_of}
use Rattle.pmem_layout.specs.Places.{line_at, runtime_frame, backup_frame}
use Rattle.cow_fault.specs.Events.{AfterEvent, AfterEvents, event_at}
use Rattle.page_store.specs.Shows.{Has}
use Rattle.page_store.specs.Back.{filled}
use Rattle.cow_fault.specs.declared.history.Event.{Event}
use Rattle.page_store.specs.Slots.{Slot, Backup, slot_frame, IsPageHome}

pub line_begins : (at : ℕ) → line_at at % 8 ≡ 0
line_begins at = omega arith

pub line_least : (at : ℕ) → line_at at ≤ at
line_least at = omega arith

slot_home : (m : Memory) (page : ℕ) (slot : Slot) → AllHome m → page < PAGES → IsTrue (is_frame_home m (slot_frame page slot))
slot_home m page Backup all lt = frame_home_of m (backup_frame page) all (omega (arith, lt))

pub page_home : (m : Memory) (page : ℕ) → AllHome m → page < PAGES → IsPageHome m page
page_home m page all lt = record {
  runtime = frame_home_of m (runtime_frame page) all (omega (arith, lt));
  slots = λ slot. slot_home m page slot all lt;
}

pub ruleset places = (inside_word, inside_line, home_of, all_home_kept, line_begins, line_least, page_home)

-- a burst of one word stores the same at each of its words
pub one_burst : (f g : ℕ → Word) (at value : ℕ) → ((i : ℕ) → g i ≡ bursts at 1 (slice_index (value ∷ [])) f i) → IsBurst f g at 1 (λ j. value)
one_burst f g at value e = record {
  words = λ i.
      ⊎_elim
      (λ (yes : is_within at 1 i ≡ true).
      let k = inside_of at 1 i yes in
      let low = k.1 in let is = k.2 in
      let first : i - at ≡ 0 = omega (arith, low, is) in
      let w = rw (yes, first) at (e i) in rw yes w)
      (λ (off : is_within at 1 i ≡ false). let w = rw off at (e i) in rw off w)
      (cases_Bool (is_within at 1 i));
}

-- one event more
pub after_next : (events : List Event) (count : ℕ) (saved now before next : ℕ → Option (ℕ → ℕ))
    → AfterEvents events count saved now before → AfterEvent (event_at events count) saved before next
    → AfterEvents events (count + 1) saved now next
after_next events count saved now before next so_far after =
    let more : suc count ≡ count + 1 = omega arith in
    subst (λ (n : ℕ). AfterEvents events n saved now next) more (before, so_far, after)

-- after recovery a page has what was saved of it
pub has_saved : (saved : ℕ → Option (ℕ → ℕ)) (f : ℕ → Word) (page : ℕ) (content : ℕ → ℕ) → saved page ≡ Some content
    → Has (filled saved f page) content
has_saved saved f page content is = λ j lt. rw is refl
