-- The laws of the relation: it outlives calm events, a cut leaves what stands, and what is logged may be committed.
use Rattle.std.proofs.Common.{◌≡◌, ◌≢◌, ◌⊎◌, inl, inr, ℕ, ◌+◌, ◌/◌, ◌^◌, ◌<◌, ◌≤◌, ◌∙◌, sym, ap, subst, refl, arith, Bool, true, false, if◌then◌else◌, ⊎_elim, slice_index}
use Rattle.std.proofs.lemmas.Bool.{cases_Bool}
use Rattle.pmem_model.specs.Words.{Word}
use Rattle.pmem_model.specs.Events.{Kind, Clean, Over, ReadyOver, WordIs, WordCalm, Left, IsCut, calm_word, left_word, cut_clean, cut_left}
use Rattle.pmem_layout.specs.declared.places.TheConstants.{LOG_HEAD_AT, OBJECT_BASE_AT, NUMBERS, BASE_BITS}
use Rattle.pmem_layout.specs.Places.{log_entry_at}
use Rattle.pmem_layout.specs.Numbers.{base_at}
use Rattle.pmem_layout.specs.Fields.{log_count}
use Rattle.pmem_layout.specs.Owners.{Numbers, owner}
use Rattle.pmem_layout.specs.Rooms.{CalmIn, LeftIn, SameIn}
use Rattle.alloc_journal.specs.declared.bits.TheConstants.{BASE_WORDS}
use Rattle.alloc_journal.specs.declared.journal.Stage.{Stage}
use Rattle.alloc_journal.specs.declared.journal.Stage.TheVariants.{Unformatted, FirstStored, FirstInFlight, Rest, StoringEntries, EntriesInFlight, EntriesDurable, HeadStored, HeadInFlight, Logged, Redoing, BaseInFlight, BaseDurable, HeadCleared, ClearInFlight}
use Rattle.alloc_journal.specs.Sets.{bit_of, has}
use Rattle.alloc_journal.specs.Format.{number_of, comes, redone, entries, count_at, base_bit, AreEntries, NumbersStand}
use Rattle.alloc_journal.specs.Work.{Work, is_redo, is_logged, as_committed, once_committed}
use Rattle.alloc_journal.specs.Shows.{NumbersShow, IsUnnamed, head_kind, head_value, entry_kind, base_kind, counted, redone_at, IsHeadAt}
use Rattle.alloc_journal.specs.Formatting.{FormatShows, first_kind}
use Rattle.alloc_journal.proofs.Words.{owner_head, owner_base, owner_entry, durable_calm}
use Rattle.alloc_journal.proofs.RedoLemmas.{redone_is, redone_unnamed, redone_named, redone_same, count_of_none, count_of_named, count_of_next}

-- each stage knows what the base reads
pub base_reads : (s : Stage) (w : Word) (x : ℕ) → WordIs 0 (base_kind s) w x → w.cached ≡ x
base_reads Unformatted w x h = h.0
base_reads FirstStored w x h = h.0
base_reads FirstInFlight w x h = h.0
base_reads Rest w x h = h.0
base_reads StoringEntries w x h = h.0
base_reads EntriesInFlight w x h = h.0
base_reads EntriesDurable w x h = h.0
base_reads HeadStored w x h = h.0
base_reads HeadInFlight w x h = h.0
base_reads Logged w x h = h.0
base_reads Redoing w x h = h
base_reads BaseInFlight w x h = h.0
base_reads BaseDurable w x h = h.0
base_reads HeadCleared w x h = h.0
base_reads ClearInFlight w x h = h.0

-- none of all entries is of the number, nor one of those that are left
pub still_unnamed : (entry : ℕ → ℕ) (first past n : ℕ) → IsUnnamed entry 0 past n → IsUnnamed entry first past n
still_unnamed entry first past n none = λ i low high. none i (omega arith) high

-- What is durable of the base outlives what is calm there.
pub durable_kept : (w : Work) (f g : ℕ → Word) (v : ℕ) (saved : ℕ → Bool) (h : NumbersShow w f v saved)
    → ((k : ℕ) → k < BASE_WORDS → WordCalm (f (OBJECT_BASE_AT + k)) (g (OBJECT_BASE_AT + k)))
    → (n : ℕ) → n < NUMBERS → IsUnnamed h.entry 0 (counted w) n → bit_of ((g (base_at n)).durable) n ≡ saved n
durable_kept w f g v saved h calm n inside none =
    let k = n / BASE_BITS in
    let lt : k < BASE_WORDS = omega (arith, inside) in
    durable_calm (f (base_at n)) (g (base_at n)) (h.base k) n (saved n) (calm k lt)
    (base_reads w.stage (f (base_at n)) (h.base k) (h.base_words k lt))
    (h.base_has n inside (still_unnamed h.entry (redone_at w.stage w) (counted w) n none)) (h.durable_has n inside none)

-- CALM

pub entries_kept : (w : Work) (f g : ℕ → Word) (v : ℕ) (saved : ℕ → Bool)
    (h : NumbersShow w f v saved) → CalmIn Numbers f g
    → (i : ℕ) → i < w.entries → WordIs 0 (entry_kind w.stage) (g (log_entry_at i)) (h.entry i)
entries_kept w f g v saved h calm i lt =
    let most = h.are_entries.most in
    calm_word 0 (entry_kind w.stage) (f (log_entry_at i)) (g (log_entry_at i)) (h.entry i)
    (calm.at (log_entry_at i) (owner_entry i (omega (arith, lt, most)))) (h.entry_words i lt)

pub head_kept : (w : Work) (f g : ℕ → Word) (v : ℕ) (saved : ℕ → Bool)
    (h : NumbersShow w f v saved) → CalmIn Numbers f g
    → WordIs 0 (head_kind w.stage h.head) (g LOG_HEAD_AT) (head_value w.stage h.head)
head_kept w f g v saved h calm =
    calm_word 0 (head_kind w.stage h.head) (f LOG_HEAD_AT) (g LOG_HEAD_AT) (head_value w.stage h.head)
    (calm.at LOG_HEAD_AT owner_head) h.head_word

pub base_kept : (w : Work) (f g : ℕ → Word) (v : ℕ) (saved : ℕ → Bool)
    (h : NumbersShow w f v saved) → CalmIn Numbers f g
    → (k : ℕ) → k < BASE_WORDS → WordIs 0 (base_kind w.stage) (g (OBJECT_BASE_AT + k)) (h.base k)
base_kept w f g v saved h calm k lt =
    calm_word 0 (base_kind w.stage) (f (OBJECT_BASE_AT + k)) (g (OBJECT_BASE_AT + k)) (h.base k)
    (calm.at (OBJECT_BASE_AT + k) (owner_base k lt)) (h.base_words k lt)

pub numbers_calm : (w : Work) (f g : ℕ → Word) (v : ℕ) (saved : ℕ → Bool) → CalmIn Numbers f g → NumbersShow w f v saved
    → NumbersShow w g v saved
numbers_calm w f g v saved calm h = record {
  version_is = h.version_is;
  entry = h.entry;
  head = h.head;
  base = h.base;
  entry_words = entries_kept w f g v saved h calm;
  head_word = head_kept w f g v saved h calm;
  base_words = base_kept w f g v saved h calm;
  are_entries = h.are_entries;
  tell = h.tell;
  log_is = h.log_is;
  head_is = h.head_is;
  base_has = h.base_has;
  committed_has = h.committed_has;
  durable_has = durable_kept w f g v saved h (λ k lt. calm.at (OBJECT_BASE_AT + k) (owner_base k lt));
}

-- LEFT

-- the entries that count are durable
entry_left : (s : Stage) (w : Word) (x y : ℕ) → is_redo s ≡ true → WordIs 0 (entry_kind s) w x → Left w y → y ≡ x
entry_left Unformatted w x y redo h l = cc
entry_left FirstStored w x y redo h l = cc
entry_left FirstInFlight w x y redo h l = cc
entry_left Rest w x y redo h l = cc
entry_left StoringEntries w x y redo h l = cc
entry_left EntriesInFlight w x y redo h l = cc
entry_left EntriesDurable w x y redo h l = cc
entry_left HeadStored w x y redo h l = cc
entry_left HeadInFlight w x y redo h l = cc
entry_left Logged w x y redo h l = cc
entry_left Redoing w x y redo h l = left_word 0 Clean w x y h l
entry_left BaseInFlight w x y redo h l = left_word 0 Clean w x y h l
entry_left BaseDurable w x y redo h l = left_word 0 Clean w x y h l
entry_left HeadCleared w x y redo h l = left_word 0 Clean w x y h l
entry_left ClearInFlight w x y redo h l = left_word 0 Clean w x y h l

-- The head that is left counts the entries that count; or, where it is being cleared, none, and the base is durable.
abbrev HeadLeft : Stage → Work → ℕ → Type 0
HeadLeft s w y =
    (log_count y w.version ≡ (if is_redo s then w.entries else 0))
    ⊎ ((log_count y w.version ≡ 0) × (base_kind s ≡ Clean) × (redone_at s w ≡ w.entries))

counts : {x y : ℕ} (v n : ℕ) → y ≡ x → log_count x v ≡ n → log_count y v ≡ n
counts v n e is = ap (λ (z : ℕ). log_count z v) e ∙ is

head_left : (s : Stage) (w : Work) (head : ℕ) (u : Word) (y : ℕ) → w.entries < 2 ^ 16 → IsHeadAt s w head
    → WordIs 0 (head_kind s head) u (head_value s head) → Left u y → HeadLeft s w y
head_left Unformatted w head u y most is h l = inl
    (counts w.version 0 (left_word 0 Clean u 0 y h l) (count_of_none w.version))
head_left FirstStored w head u y most is h l = inl
    (counts w.version 0 (left_word 0 Clean u 0 y h l) (count_of_none w.version))
head_left FirstInFlight w head u y most is h l = inl
    (counts w.version 0 (left_word 0 Clean u 0 y h l) (count_of_none w.version))
head_left Rest w head u y most is h l = inl (counts w.version 0 (left_word 0 Clean u 0 y h l) (count_of_none w.version))
head_left StoringEntries w head u y most is h l = inl
    (counts w.version 0 (left_word 0 Clean u 0 y h l) (count_of_none w.version))
head_left EntriesInFlight w head u y most is h l = inl
    (counts w.version 0 (left_word 0 Clean u 0 y h l) (count_of_none w.version))
head_left EntriesDurable w head u y most is h l = inl
    (counts w.version 0 (left_word 0 Clean u 0 y h l) (count_of_none w.version))
head_left HeadStored w head u y most is h l = elim (left_word 0 (Over 0) u head y h l) [
  | inl new ↦ inl (counts w.version 0 (new ∙ is) (count_of_next w.version w.entries most))
  | inr none ↦ inl (counts w.version 0 none (count_of_none w.version))
]
head_left HeadInFlight w head u y most is h l = elim (left_word 0 (ReadyOver 0) u head y h l) [
  | inl new ↦ inl (counts w.version 0 (new ∙ is) (count_of_next w.version w.entries most))
  | inr none ↦ inl (counts w.version 0 none (count_of_none w.version))
]
head_left Logged w head u y most is h l =
    inl (counts w.version 0 (left_word 0 Clean u head y h l ∙ is) (count_of_next w.version w.entries most))
head_left Redoing w head u y most is h l = inl (counts w.version w.entries (left_word 0 Clean u head y h l) is)
head_left BaseInFlight w head u y most is h l = inl (counts w.version w.entries (left_word 0 Clean u head y h l) is)
head_left BaseDurable w head u y most is h l = inl (counts w.version w.entries (left_word 0 Clean u head y h l) is)
head_left HeadCleared w head u y most is h l = elim (left_word 0 (Over head) u 0 y h l) [
  | inl none ↦ inr (counts w.version 0 none (count_of_none w.version), refl, refl)
  | inr old ↦ inl (counts w.version w.entries old is)
]
head_left ClearInFlight w head u y most is h l = elim (left_word 0 (ReadyOver head) u 0 y h l) [
  | inl none ↦ inr (counts w.version 0 none (count_of_none w.version), refl, refl)
  | inr old ↦ inl (counts w.version w.entries old is)
]

-- an entry counts while the log is redone alone
counted_redo : (w : Work) (i : ℕ) → i < counted w → (is_redo w.stage ≡ true) × (i < w.entries)
counted_redo w i lt =
    ⊎_elim (λ (yes : is_redo w.stage ≡ true). (yes, rw yes at lt))
    (λ (off : is_redo w.stage ≡ false). absurd (omega (arith, rw off at lt))) (cases_Bool (is_redo w.stage))

counted_most : (w : Work) → w.entries ≤ NUMBERS → counted w ≤ NUMBERS
counted_most w most =
    ⊎_elim (λ (yes : is_redo w.stage ≡ true). rw yes most) (λ (off : is_redo w.stage ≡ false). rw off (omega arith))
    (cases_Bool (is_redo w.stage))

-- they are entries of a log
counted_entries : (w : Work)
    (entry other : ℕ → ℕ) → ((i : ℕ) → i < counted w → other i ≡ entry i) → AreEntries entry w.entries
    → AreEntries other (counted w)
counted_entries w entry other same log = record {
  most = counted_most w log.most;
  in_range = λ i lt. let e = same i lt in let c = counted_redo w i lt in
      subst (λ (x : ℕ). number_of x < NUMBERS) (sym e) (log.in_range i c.1);
  rising = λ i j less lt.
      let a = same i (omega (arith, less, lt)) in let b = same j lt in let c = counted_redo w j lt in
      subst (λ (x : ℕ). number_of x < number_of (other j)) (sym a)
      (subst (λ (y : ℕ). number_of (entry i) < number_of y) (sym b) (log.rising i j less c.1));
}

-- what is left of a word of the base has a bit that both its values have
bit_left : (w : Word) (x y n : ℕ) (b : Bool) → w.cached ≡ x → bit_of x n ≡ b → bit_of (w.durable) n ≡ b → Left w y
    → bit_of y n ≡ b
bit_left w x y n b reads now was l = elim l [
  | inl d ↦ ap (λ (z : ℕ). bit_of z n) d ∙ was
  | inr c ↦ ap (λ (z : ℕ). bit_of z n) (c ∙ reads) ∙ now
]

pub numbers_stand : (w : Work) (f : ℕ → Word) (left : ℕ → ℕ) (v : ℕ) (saved : ℕ → Bool) → LeftIn Numbers f left
    → NumbersShow w f v saved → NumbersStand left v saved
numbers_stand w f left v saved may h =
    let most = h.are_entries.most in
    let base_left : (n : ℕ) → n < NUMBERS → IsUnnamed h.entry 0 (counted w) n → base_bit left n ≡ saved n =
    λ n inside none.
    let k = n / BASE_BITS in
    let lt : k < BASE_WORDS = omega (arith, inside) in
    bit_left (f (base_at n)) (h.base k) (left (base_at n)) n (saved n)
    (base_reads w.stage (f (base_at n)) (h.base k) (h.base_words k lt))
    (h.base_has n inside (still_unnamed h.entry (redone_at w.stage w) (counted w) n none)) (h.durable_has n inside none)
    (may.at (base_at n) (owner_base k lt)) in
    let entry_is : (i : ℕ) → i < counted w → entries left i ≡ h.entry i = λ i lt.
    let c = counted_redo w i lt in
    let inside = c.1 in
    entry_left w.stage (f (log_entry_at i)) (h.entry i) (left (log_entry_at i)) c.0 (h.entry_words i inside)
    (may.at (log_entry_at i) (owner_entry i (omega (arith, inside, most)))) in
    elim (head_left w.stage w h.head (f LOG_HEAD_AT) (left LOG_HEAD_AT) (omega (arith, most)) h.head_is h.head_word
    (may.at LOG_HEAD_AT owner_head)) [
      | inl all ↦
          let count : count_at left v ≡ counted w = subst
          (λ (x : ℕ). log_count (left LOG_HEAD_AT) x ≡ counted w) h.version_is all in
          record {
            log = rw count (counted_entries w h.entry (entries left) entry_is h.are_entries);
            each = λ n inside. rw count (redone_is (entries left) n (base_bit left n) (saved n) (counted w)
                (λ i lt of.
                let c = counted_redo w i lt in
                let same = entry_is i lt in
                let tells : saved (number_of (h.entry i)) ≡ comes (h.entry i) = rw c.0 at (h.tell i c.1) in
                ap comes same ∙ sym tells ∙ ap (λ (e : ℕ). saved (number_of e)) (sym same) ∙ ap saved of)
                (λ none. base_left n inside (λ i low lt of. none i low lt (ap number_of (entry_is i lt) ∙ of))));
          }
      | inr cleared ↦
          let count : count_at left v ≡ 0 = subst
          (λ (x : ℕ). log_count (left LOG_HEAD_AT) x ≡ 0) h.version_is cleared.0 in
          record {
            log = rw count (record {
              most = omega arith;
              in_range = λ i lt. absurd
                  (omega (arith, lt));
              rising = λ i j less lt. absurd (omega (arith, lt));
            });
            each = λ n inside. rw count (
                let k = n / BASE_BITS in
                let lt : k < BASE_WORDS = omega (arith, inside) in
                let clean : WordIs 0 Clean (f (base_at n)) (h.base k) = subst
                (λ (d : Kind). WordIs 0 d (f (base_at n)) (h.base k)) cleared.1 (h.base_words k lt) in
                let same = left_word 0 Clean (f (base_at n)) (h.base k) (left (base_at n)) clean
                (may.at (base_at n) (owner_base k lt)) in
                ap (λ (y : ℕ). bit_of y n) same ∙ h.base_has n inside (λ i low high.
                let c = counted_redo w i high in
                let all = cleared.2 in
                absurd (omega (arith, low, c.1, all))));
          }
    ]

-- COMMITTED

-- once the next version is committed, its log is to be redone
pub numbers_commit : (w : Work) (f : ℕ → Word) (v : ℕ) (saved : ℕ → Bool) → w.stage ≡ Logged → NumbersShow w f v saved
    → NumbersShow (as_committed w) f (v + 1) (has w.logged)
numbers_commit w f v saved e all =
    let h = subst (λ (s : Stage). NumbersShow (record w { stage = s }) f v saved) e all in
    let most = h.are_entries.most in
    record {
      version_is = ap (λ (x : ℕ). x + 1) h.version_is;
      entry = h.entry;
      head = h.head;
      base = h.base;
      entry_words = h.entry_words;
      head_word = h.head_word;
      base_words = λ k lt. (h.base_words k lt).0;
      are_entries = h.are_entries;
      tell = h.tell;
      log_is = tt;
      head_is = counts (w.version + 1) w.entries h.head_is
          (count_of_named (w.version + 1) w.entries (omega (arith, most)));
      base_has = λ n inside none. h.base_has n inside (λ i low high. absurd (omega (arith, high)))
          ∙ sym (h.committed_has n inside (λ i low high. absurd (omega (arith, high)))) ∙ h.log_is n inside none;
      committed_has = λ n inside none. refl;
      durable_has = λ n inside none. h.durable_has n inside (λ i low high. absurd (omega (arith, high)))
          ∙ sym (h.committed_has n inside (λ i low high. absurd (omega (arith, high)))) ∙ h.log_is n inside none;
    }

-- the numbers are told by the words that are theirs
pub numbers_same : (a b : ℕ → ℕ) (v : ℕ)
    (numbers : ℕ → Bool) → SameIn Numbers a b → NumbersStand a v numbers → NumbersStand b v numbers
numbers_same a b v numbers same h =
    let count : count_at b v ≡ count_at a v = ap (λ (x : ℕ). log_count x v) (same.at LOG_HEAD_AT owner_head) in
    let most = h.log.most in
    let entry_is : (i : ℕ) → i < count_at a v → entries b i ≡ entries a i =
    λ i lt. same.at (log_entry_at i) (owner_entry i (omega (arith, lt, most))) in
    record {
      log = rw count (record {
        most = most;
        in_range = λ i lt. subst (λ (x : ℕ). number_of x < NUMBERS) (sym (entry_is i lt)) (h.log.in_range i lt);
        rising = λ i j less lt.
            subst (λ (x : ℕ). number_of x < number_of (entries b j)) (sym (entry_is i (omega (arith, less, lt))))
            (subst (λ (y : ℕ). number_of (entries a i) < number_of y) (sym (entry_is j lt)) (h.log.rising i j less lt));
      });
      each = λ n inside. rw count (redone_same (entries a) (entries b) n (base_bit b n) (count_at a v) entry_is
          ∙ ap (λ (x : ℕ). redone (entries a) n (bit_of x n) (count_at a v))
          (same.at (base_at n) (owner_base (n / BASE_BITS) (omega (arith, inside))))
          ∙ h.each n inside);
    }

-- what is read of a memory after a cut shows what its durable words tell
pub numbers_recovered : (w : Work) (f : ℕ → Word) (v : ℕ)
    (saved : ℕ → Bool) → w.stage ≡ Redoing → w.version ≡ v → w.redone ≡ 0
    → (count_at (λ i. (f i).durable) v ≤ NUMBERS → w.entries ≡ count_at (λ i. (f i).durable) v)
    → ((k : ℕ) → k < BASE_WORDS → slice_index w.committed k ≡ (f (OBJECT_BASE_AT + k)).cached)
    → ((i : ℕ) → owner i ≡ Numbers → WordIs 0 Clean (f i) ((f i).durable))
    → NumbersStand (λ i. (f i).durable) v saved → NumbersShow w f v saved
numbers_recovered w f v saved e at none count committed clean stand =
    let words : ℕ → ℕ = λ i. (f i).durable in
    let all : w.entries ≡ count_at words v = count stand.log.most in
    let log : AreEntries (entries words) w.entries = subst (λ (n : ℕ). AreEntries (entries words) n)
    (sym all) stand.log in
    let each : (n : ℕ) → n < NUMBERS → redone (entries words) n (base_bit words n) w.entries ≡ saved n =
    λ n inside. ap (λ (m : ℕ). redone (entries words) n (base_bit words n) m) all ∙ stand.each n inside in
    let none_of : (n : ℕ) → n < NUMBERS → IsUnnamed (entries words) w.redone w.entries n → base_bit words n ≡ saved n =
    λ n inside left. sym (redone_unnamed (entries words) n (base_bit words n) w.entries
    (λ i low high. left i (omega (arith, none)) high)) ∙ each n inside in
    let most = log.most in
    let show : NumbersShow (record w { stage = Redoing }) f v saved = record {
      version_is = at;
      entry = entries words;
      head = words LOG_HEAD_AT;
      base = λ k. words (OBJECT_BASE_AT + k);
      entry_words = λ i lt. clean (log_entry_at i) (owner_entry i (omega (arith, lt, most)));
      head_word = clean LOG_HEAD_AT owner_head;
      base_words = λ k lt. (clean (OBJECT_BASE_AT + k) (owner_base k lt)).0;
      are_entries = log;
      tell = λ i lt. sym (each (number_of (entries words i)) (log.in_range i lt))
          ∙ redone_named (entries words) (number_of (entries words i))
          (base_bit words (number_of (entries words i))) w.entries log i lt refl;
      log_is = tt;
      head_is = ap (log_count (words LOG_HEAD_AT)) at ∙ sym all;
      base_has = none_of;
      committed_has = λ n inside left.
          let k = n / BASE_BITS in
          let lt : k < BASE_WORDS = omega (arith, inside) in
          ap (λ (x : ℕ). bit_of x n) (committed k lt ∙ (clean (OBJECT_BASE_AT + k) (owner_base k lt)).0)
          ∙ none_of n inside left;
      durable_has = λ n inside left. none_of n inside (λ i low high. left i (omega arith) high);
    } in
    subst (λ (s : Stage). NumbersShow (record w { stage = s }) f v saved) (sym e) show

-- CUT

pub cut_clean_word : (f g : ℕ → Word) → IsCut f g → (i : ℕ) → WordIs 0 Clean (g i) ((g i).durable)
cut_clean_word f g cut i = cut_clean f g cut.at 0 i

pub cut_stands : (w : Work) (f g : ℕ → Word) (v : ℕ) (saved : ℕ → Bool) → IsCut f g → NumbersShow w f v saved
    → NumbersStand (λ i. (g i).durable) v saved
cut_stands w f g v saved cut h =
    numbers_stand w f (λ i. (g i).durable) v saved (record { at = λ i own. cut_left f g cut.at i }) h

-- FORMATTING

pub format_calm : (w : Work) (f g : ℕ → Word) → CalmIn Numbers f g → FormatShows w f → FormatShows w g
format_calm w f g calm h = record {
  version_is = h.version_is;
  no_entries = h.no_entries;
  head_word = calm_word 0 Clean (f LOG_HEAD_AT) (g LOG_HEAD_AT) 0 (calm.at LOG_HEAD_AT owner_head) h.head_word;
  base_words = λ k lt. calm_word 0 (first_kind w.stage) (f (OBJECT_BASE_AT + k)) (g (OBJECT_BASE_AT + k))
      (slice_index w.committed k) (calm.at (OBJECT_BASE_AT + k) (owner_base k lt)) (h.base_words k lt);
}

-- a memory that is formatted is at rest, at version 0
pub formatted : (w : Work) (f : ℕ → Word) → w.stage ≡ Rest → FormatShows w f → NumbersShow w f 0 (has w.committed)
formatted w f e all =
    let h = subst (λ (s : Stage). FormatShows (record w { stage = s }) f) e all in
    let none = h.no_entries in
    let show : NumbersShow (record w { stage = Rest }) f 0 (has w.committed) = record {
      version_is = h.version_is;
      entry = λ i. 0;
      head = 0;
      base = slice_index w.committed;
      entry_words = λ i lt. absurd (omega (arith, lt, none));
      head_word = h.head_word;
      base_words = h.base_words;
      are_entries = record {
        most = omega (arith, none);
        in_range = λ i lt. absurd (omega (arith, lt, none));
        rising = λ i j less lt. absurd (omega (arith, lt, none));
      };
      tell = λ i lt. absurd (omega (arith, lt, none));
      log_is = none;
      head_is = tt;
      base_has = λ n inside unnamed. refl;
      committed_has = λ n inside unnamed. refl;
      durable_has = λ n inside unnamed. ap (λ (x : ℕ). bit_of x n)
          ((h.base_words (n / BASE_BITS) (omega (arith, inside))).1);
    } in
    subst (λ (s : Stage). NumbersShow (record w { stage = s }) f 0 (has w.committed)) (sym e) show

-- nothing but what is logged becomes committed
not_logged : (s : Stage) → s ≢ Logged → is_logged s ≡ false
not_logged Unformatted ne = refl
not_logged FirstStored ne = refl
not_logged FirstInFlight ne = refl
not_logged Rest ne = refl
not_logged StoringEntries ne = refl
not_logged EntriesInFlight ne = refl
not_logged EntriesDurable ne = refl
not_logged HeadStored ne = refl
not_logged HeadInFlight ne = refl
not_logged Logged ne = absurd (ne refl)
not_logged Redoing ne = refl
not_logged BaseInFlight ne = refl
not_logged BaseDurable ne = refl
not_logged HeadCleared ne = refl
not_logged ClearInFlight ne = refl

pub once_other : (w : Work) → w.stage ≢ Logged → w ≡ once_committed w
once_other w ne = let off = not_logged w.stage ne in rw off refl
