-- What the private fields keep as entries are stored, and the steps that are left.
use Rattle.std.proofs.Common.{◌≡◌, ◌≢◌, ℕ, ◌+◌, ◌<◌, ◌∙◌, sym, ap, subst, arith, true, false, List, inl, inr}
use Rattle.std.proofs.lemmas.Bool.{cases_lt}
use Rattle.pmem_layout.specs.declared.places.TheConstants.{NUMBERS}
use Rattle.alloc_journal.specs.declared.journal.Stage.{Stage}
use Rattle.alloc_journal.specs.declared.journal.Stage.TheVariants.{StoringEntries, EntriesInFlight}
use Rattle.alloc_journal.specs.Sets.{has, count_of, changes}
use Rattle.alloc_journal.specs.Work.{Work, IsKept, HasEntries, log_left, is_logging}
use Rattle.alloc_journal.proofs.SetLemmas.{count_less, count_none}

pub kept_stored : (w : Work) (n : ℕ) (pending : List ℕ) → w.stage ≡ StoringEntries → IsKept w → n < NUMBERS
    → has w.pending n ≡ true → ((m : ℕ) → m < n → has w.pending m ≡ false) → has pending n ≡ false
    → ((m : ℕ) → m < NUMBERS → m ≢ n → has pending m ≡ has w.pending m)
    → IsKept (record w { pending = pending; entries = w.entries + 1 })
    × (log_left w ≡ log_left (record w { pending = pending; entries = w.entries + 1 }) + 1)
kept_stored w n pending e kept inside is_pending least gone others =
    let few = kept.room e n inside is_pending in
    let less : count_of (has w.pending) NUMBERS ≡ count_of (has pending) NUMBERS + 1 = count_less (has w.pending)
    (has pending) n NUMBERS inside is_pending gone others in
    let counts : w.entries + count_of (has w.pending) NUMBERS ≡ changes w.committed w.logged = subst
    (λ (s : Stage). HasEntries s w) e kept.has_entries in (
      record {
        most = omega (arith, few, inside);
        room = λ stage m within wanted.
            let other : m ≢ n = λ q. let z = sym gone ∙ ap (has pending) (sym q) ∙ wanted in cc in
            let was : has w.pending m ≡ true = sym (others m within other) ∙ wanted in
            elim (cases_lt m n) [
              | inl low ↦ let z = sym (least m low) ∙ was in cc
              | inr high ↦ omega (arith, high, other, few)
            ];
        has_entries = subst (λ (s : Stage). HasEntries s (record w { pending = pending; entries = w.entries + 1 }))
            (sym e) (omega (arith, less, counts));
        version = kept.version;
        next_version = kept.next_version;
      },
      subst (λ (s : Stage). log_left (record w { stage = s }) ≡ log_left
          (record w { stage = s; pending = pending; entries = w.entries + 1 }) + 1) (sym e) (omega (arith, less)),
    )

pub kept_flushed : (w : Work) → w.stage ≡ StoringEntries → IsKept w → ((m : ℕ) → m < NUMBERS → has w.pending m ≡ false)
    → IsKept (record w { stage = EntriesInFlight }) × (log_left w ≡ log_left (record w { stage = EntriesInFlight }) + 1)
kept_flushed w e kept none =
    let no_more : count_of (has w.pending) NUMBERS ≡ 0 = count_none (has w.pending) NUMBERS none in
    let counts : w.entries + count_of (has w.pending) NUMBERS ≡ changes w.committed w.logged = subst
    (λ (s : Stage). HasEntries s w) e kept.has_entries in (
      record {
        most = kept.most;
        room = λ stage. cc;
        has_entries = omega (arith, no_more, counts);
        version = kept.version;
        next_version = λ logging. kept.next_version (ap is_logging e);
      },
      subst (λ (s : Stage). log_left (record w { stage = s }) ≡ 5) (sym e) (omega (arith, no_more)),
    )
