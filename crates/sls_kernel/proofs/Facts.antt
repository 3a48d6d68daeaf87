-- How the events of a memory keep and change what is known of its words.
use Rattle.std.proofs.Common.{◌≡◌, ◌⊎◌, inl, inr, ℕ, ◌+◌, ◌<◌, ◌≤◌, ◌==◌, ◌++◌, true, false, if◌then◌else◌, ◌∙◌, ap, sym, subst, arith, List, [], slice_index, Option, Some, None, append_assoc, append-nil, ⊎_elim, ◌-◌, nat_lt}
use Rattle.std.proofs.lemmas.Bool.{cases_lt}
use Rattle.std.proofs.lemmas.Bool.Decides.{nat_tests}
use Rattle.sls_base.specs.declared.limits.TheConstants.{TABLE_WORDS, FRAME_WORDS, LAST_VERSION}
use Rattle.pmem_model.specs.Words.{Word}
use Rattle.pmem_model.specs.Memory.{Memory, word_at, count_up}
use Rattle.pmem_model.specs.Events.{Kind, Cached, Clean, WordIs, WordCalm, WordFenced, settled, calm_word, fence_word}
use Rattle.sls_kernel.specs.Plain.{State, World, commit, cut}
use Rattle.sls_kernel.specs.Counts.{SameCounts}
use Rattle.sls_kernel.specs.Areas.{PartsAre, IsOffArea, IsRecordOf, IsStored, StoresPart}
use Rattle.sls_kernel.specs.Words.{record_word, running_place, area_place, area_of, part_words}
use Rattle.sls_kernel.specs.Stages.{kind_after, checkpoint_next, format_next, save_kind}
use Rattle.sls_kernel.specs.Shows.{Shows, WordsAre, WordsShow, AtStage, IsRunning, IsNext, AreState, IsCounted, HasCounts, IsFormatting, MayBeFormatted, IsPrefixOf, put_count}
use Rattle.sls_kernel.specs.declared.thread.RunThread.{RunThread}
use Rattle.sls_kernel.specs.declared.machine.Machine.{Machine}
use Rattle.sls_kernel.specs.declared.record.TheConstants.{RECORD_WORDS}
use Rattle.sls_kernel.specs.declared.stage.Stage.{Stage}
use Rattle.sls_kernel.specs.declared.stage.Stage.TheVariants.{Format, Checkpoint}
use Rattle.sls_kernel.specs.declared.stage.SaveStep.{SaveStep}
use Rattle.sls_kernel.specs.declared.stage.SaveStep.TheVariants.{Copy}
use Rattle.sls_kernel.specs.declared.stage.FormatStep.TheVariants.{Save as FormatSave}
use Rattle.sls_kernel.specs.declared.stage.CheckpointStep.TheVariants.{Save}

-- Calm events and fences keep all that is known.

abbrev pub AllCalm : (ℕ → Word) → (ℕ → Word) → Type 0
AllCalm f g = (i : ℕ) → WordCalm (f i) (g i)

pub parts_calm : (kind : ℕ → Kind) (f g : ℕ → Word) (place words : ℕ → ℕ → ℕ) → ((part i : ℕ) → part < 6 → i < part_words part → WordCalm (f (place part i)) (g (place part i))) → PartsAre kind f place words → PartsAre kind g place words
parts_calm kind f g place words calm known = λ part i p lt. calm_word 0 (kind part) (f (place part i)) (g (place part i)) (words part i) (calm part i p lt) (known part i p lt)

-- the words behind the records
abbrev pub RestCalm : (ℕ → Word) → (ℕ → Word) → Type 0
RestCalm f g = (area i : ℕ) → area < 2 → RECORD_WORDS ≤ i → i < FRAME_WORDS → WordCalm (f (area_place area 5 i)) (g (area_place area 5 i))

abbrev pub IsRestZero : (ℕ → Word) → Type 0
IsRestZero f = (area i : ℕ) → area < 2 → RECORD_WORDS ≤ i → i < FRAME_WORDS → WordIs 0 Clean (f (area_place area 5 i)) 0

pub rest_calm : (f g : ℕ → Word) → RestCalm f g → IsRestZero f → IsRestZero g
rest_calm f g calm zero = λ area i a low high. calm_word 0 Clean (f (area_place area 5 i)) (g (area_place area 5 i)) 0 (calm area i a low high) (zero area i a low high)

pub words_calm : (fk : Kind) (fv : ℕ) (vk : Kind) (vv : ℕ) (sk ok rk : ℕ → Kind) (f g : ℕ → Word) (v : ℕ) (now saved : ℕ → ℕ → ℕ) → AllCalm f g → (g 1).durable ≡ v → WordsAre fk fv vk vv sk ok rk f v now saved → WordsAre fk fv vk vv sk ok rk g v now saved
words_calm fk fv vk vv sk ok rk f g v now saved calm durable known = record {
  format = calm_word 0 fk (f 0) (g 0) fv (calm 0) known.format;
  version = calm_word 0 vk (f 1) (g 1) vv (calm 1) known.version;
  version_durable = durable;
  table = λ i low high. calm_word 0 Clean (f i) (g i) 0 (calm i) (known.table i low high);
  saved_area = parts_calm sk f g (area_place (area_of v)) saved (λ part i p lt. calm (area_place (area_of v) part i)) known.saved_area;
  other_area = parts_calm ok f g (area_place (area_of (v + 1))) now (λ part i p lt. calm (area_place (area_of (v + 1)) part i)) known.other_area;
  running = λ page i p lt. calm_word 0 (rk page) (f (running_place page i)) (g (running_place page i)) (now page i) (calm (running_place page i)) (known.running page i p lt);
  record_rest = rest_calm f g (λ area i a low high. calm (area_place area 5 i)) known.record_rest;
}

abbrev pub AllFenced : (ℕ → Word) → (ℕ → Word) → Type 0
AllFenced f g = (i : ℕ) → WordFenced 0 (f i) (g i)

pub parts_fenced : (kind : ℕ → Kind) (f g : ℕ → Word) (place words : ℕ → ℕ → ℕ) → AllFenced f g → PartsAre kind f place words → PartsAre (λ part. settled (kind part)) g place words
parts_fenced kind f g place words fenced known = λ part i p lt. fence_word 0 (kind part) (f (place part i)) (g (place part i)) (words part i) (fenced (place part i)) (known part i p lt)

pub words_fenced : (fk : Kind) (fv : ℕ) (vk : Kind) (vv : ℕ) (sk ok rk : ℕ → Kind) (f g : ℕ → Word) (v : ℕ) (now saved : ℕ → ℕ → ℕ) → AllFenced f g → (g 1).durable ≡ v → WordsAre fk fv vk vv sk ok rk f v now saved
    → WordsAre (settled fk) fv (settled vk) vv (λ part. settled (sk part)) (λ part. settled (ok part)) (λ page. settled (rk page)) g v now saved
words_fenced fk fv vk vv sk ok rk f g v now saved fenced durable known = record {
  format = fence_word 0 fk (f 0) (g 0) fv (fenced 0) known.format;
  version = fence_word 0 vk (f 1) (g 1) vv (fenced 1) known.version;
  version_durable = durable;
  table = λ i low high. fence_word 0 Clean (f i) (g i) 0 (fenced i) (known.table i low high);
  saved_area = parts_fenced sk f g (area_place (area_of v)) saved fenced known.saved_area;
  other_area = parts_fenced ok f g (area_place (area_of (v + 1))) now fenced known.other_area;
  running = λ page i p lt. fence_word 0 (rk page) (f (running_place page i)) (g (running_place page i)) (now page i) (fenced (running_place page i)) (known.running page i p lt);
  record_rest = rest_calm f g (λ area i a low high. (fenced (area_place area 5 i)).calm) known.record_rest;
}

-- the first two words may have become something else
pub words_above : (fk vk fk' vk' : Kind) (fv vv fv' vv' : ℕ) (sk ok rk : ℕ → Kind) (f g : ℕ → Word) (v : ℕ) (now saved : ℕ → ℕ → ℕ)
    → WordIs 0 fk' (g 0) fv' → WordIs 0 vk' (g 1) vv' → (g 1).durable ≡ v → ((i : ℕ) → 2 ≤ i → WordCalm (f i) (g i))
    → WordsAre fk fv vk vv sk ok rk f v now saved → WordsAre fk' fv' vk' vv' sk ok rk g v now saved
words_above fk vk fk' vk' fv vv fv' vv' sk ok rk f g v now saved format version durable calm known = record {
  format = format;
  version = version;
  version_durable = durable;
  table = λ i low high. calm_word 0 Clean (f i) (g i) 0 (calm i low) (known.table i low high);
  saved_area = parts_calm sk f g (area_place (area_of v)) saved (λ part i p lt. calm (area_place (area_of v) part i) (omega arith)) known.saved_area;
  other_area = parts_calm ok f g (area_place (area_of (v + 1))) now (λ part i p lt. calm (area_place (area_of (v + 1)) part i) (omega arith)) known.other_area;
  running = λ page i p lt. calm_word 0 (rk page) (f (running_place page i)) (g (running_place page i)) (now page i) (calm (running_place page i) (omega arith)) (known.running page i p lt);
  record_rest = rest_calm f g (λ area i a low high. calm (area_place area 5 i) (omega arith)) known.record_rest;
}

-- Places are apart.

pub areas_sum : (v : ℕ) → area_of v + area_of (v + 1) ≡ 1
areas_sum v = omega arith

pub off_area : (a b part i : ℕ) → a + b ≡ 1 → part < 6 → i < part_words part → IsOffArea b (area_place a part i)
off_area a b part i sum p lt = grind (arith)

pub off_area_running : (b page i : ℕ) → page < 5 → i < FRAME_WORDS → IsOffArea b (running_place page i)
off_area_running b page i p lt = inl (omega arith)

pub off_area_table : (b i : ℕ) → i < TABLE_WORDS → IsOffArea b i
off_area_table b i lt = inl (omega arith)

-- what a save stores is not behind a record
not_stored : (a b i : ℕ) (words : ℕ → ℕ → ℕ) (w u : Word) → a < 2 → b < 2 → RECORD_WORDS ≤ i → i < FRAME_WORDS → IsStored a words w u (area_place b 5 i) → ⊥
not_stored a b i words w u low_a low_b low high stored = grind (arith, nat_tests, stored.is_part, stored.inside, stored.at)

pub stores_calm : (area : ℕ) (words : ℕ → ℕ → ℕ) (f g : ℕ → Word) → area < 2 → ((i : ℕ) → StoresPart area words f g i) → RestCalm f g
stores_calm area words f g low_area stores = λ b i low_b low high.
    elim (stores (area_place b 5 i)) [ inl calm ↦ calm | inr stored ↦ absurd (not_stored area b i words _ _ low_area low_b low high stored) ]

-- A checkpoint saves.

pub checkpoint_saved : (o : Option SaveStep) (step : SaveStep) (f g : ℕ → Word) (v : ℕ) (now saved : ℕ → ℕ → ℕ)
    → ((i : ℕ) → IsOffArea (area_of (v + 1)) i → WordCalm (f i) (g i))
    → RestCalm f g
    → PartsAre (kind_after o) g (area_place (area_of (v + 1))) now
    → WordsShow (Checkpoint (Save step)) f v now saved → WordsShow (checkpoint_next o) g v now saved
checkpoint_saved None step f g v now saved calm rest written known =
    let version = calm_word 0 Clean (f 1) (g 1) v (calm 1 (off_area_table (area_of (v + 1)) 1 (omega arith))) known.version in
    record {
      format = calm_word 0 Clean (f 0) (g 0) _ (calm 0 (off_area_table (area_of (v + 1)) 0 (omega arith))) known.format;
      version = version;
      version_durable = version.1;
      table = λ i low high. calm_word 0 Clean (f i) (g i) 0 (calm i (off_area_table (area_of (v + 1)) i high)) (known.table i low high);
      saved_area = parts_calm (λ part. Clean) f g (area_place (area_of v)) saved (λ part i p lt. calm (area_place (area_of v) part i) (off_area (area_of v) (area_of (v + 1)) part i (areas_sum v) p lt)) known.saved_area;
      other_area = written;
      running = λ page i p lt. calm_word 0 Cached (f (running_place page i)) (g (running_place page i)) (now page i) (calm (running_place page i) (off_area_running (area_of (v + 1)) page i p lt)) (known.running page i p lt);
      record_rest = rest_calm f g rest known.record_rest;
    }
checkpoint_saved (Some next) step f g v now saved calm rest written known =
    let version = calm_word 0 Clean (f 1) (g 1) v (calm 1 (off_area_table (area_of (v + 1)) 1 (omega arith))) known.version in
    record {
      format = calm_word 0 Clean (f 0) (g 0) _ (calm 0 (off_area_table (area_of (v + 1)) 0 (omega arith))) known.format;
      version = version;
      version_durable = version.1;
      table = λ i low high. calm_word 0 Clean (f i) (g i) 0 (calm i (off_area_table (area_of (v + 1)) i high)) (known.table i low high);
      saved_area = parts_calm (λ part. Clean) f g (area_place (area_of v)) saved (λ part i p lt. calm (area_place (area_of v) part i) (off_area (area_of v) (area_of (v + 1)) part i (areas_sum v) p lt)) known.saved_area;
      other_area = written;
      running = λ page i p lt. calm_word 0 Cached (f (running_place page i)) (g (running_place page i)) (now page i) (calm (running_place page i) (off_area_running (area_of (v + 1)) page i p lt)) (known.running page i p lt);
      record_rest = rest_calm f g rest known.record_rest;
    }

-- Tests and lists.

same_test : (a b : ℕ) → a ≡ b → (a == b) ≡ true
same_test a b e = grind (arith, nat_tests)

other_test : (a b : ℕ) → a ≡ b + 1 → (a == b) ≡ false
other_test a b e = grind (arith, nat_tests)

pub prefix_all : (xs : List (List ℕ)) → IsPrefixOf xs xs
prefix_all xs = ([], append-nil xs)

pub prefix_of_prefix : (xs ys zs : List (List ℕ)) → IsPrefixOf xs ys → IsPrefixOf ys zs → IsPrefixOf xs zs
prefix_of_prefix xs ys zs (a, p) (b, q) = (a ++ b, sym (append_assoc xs a b) ∙ (ap (λ (l : List (List ℕ)). l ++ b) p ∙ q))

-- of an area into which nothing is saved yet, nothing is known
pub nothing_saved : (f : ℕ → Word) (place words : ℕ → ℕ → ℕ) → PartsAre (save_kind (Copy 0)) f place words
nothing_saved f place words = λ part i p lt. let none : nat_lt part 0 ≡ false = grind (arith, nat_tests) in rw none tt

-- Machines.

-- the same for formatting
pub format_saved : (o : Option SaveStep) (step : SaveStep) (f g : ℕ → Word) (now saved : ℕ → ℕ → ℕ)
    → ((i : ℕ) → IsOffArea 0 i → WordCalm (f i) (g i))
    → RestCalm f g
    → PartsAre (kind_after o) g (area_place 0) saved
    → WordsShow (Format (FormatSave step)) f 0 now saved → WordsShow (format_next o) g 0 now saved
format_saved None step f g now saved calm rest written known =
    let version = calm_word 0 Clean (f 1) (g 1) 0 (calm 1 (off_area_table 0 1 (omega arith))) known.version in
    record {
      format = calm_word 0 Clean (f 0) (g 0) _ (calm 0 (off_area_table 0 0 (omega arith))) known.format;
      version = version;
      version_durable = version.1;
      table = λ i low high. calm_word 0 Clean (f i) (g i) 0 (calm i (off_area_table 0 i high)) (known.table i low high);
      saved_area = written;
      other_area = λ part i p lt. tt;
      running = λ page i p lt. calm_word 0 Cached (f (running_place page i)) (g (running_place page i)) (now page i) (calm (running_place page i) (off_area_running 0 page i p lt)) (known.running page i p lt);
      record_rest = rest_calm f g rest known.record_rest;
    }
format_saved (Some next) step f g now saved calm rest written known =
    let version = calm_word 0 Clean (f 1) (g 1) 0 (calm 1 (off_area_table 0 1 (omega arith))) known.version in
    record {
      format = calm_word 0 Clean (f 0) (g 0) _ (calm 0 (off_area_table 0 0 (omega arith))) known.format;
      version = version;
      version_durable = version.1;
      table = λ i low high. calm_word 0 Clean (f i) (g i) 0 (calm i (off_area_table 0 i high)) (known.table i low high);
      saved_area = written;
      other_area = λ part i p lt. tt;
      running = λ page i p lt. calm_word 0 Cached (f (running_place page i)) (g (running_place page i)) (now page i) (calm (running_place page i) (off_area_running 0 page i p lt)) (known.running page i p lt);
      record_rest = rest_calm f g rest known.record_rest;
    }

-- what the stage says, at the stage that it is
pub words_at : (m : Machine) (w : World) (s : Shows m w) (stage : Stage) → m.stage ≡ stage → WordsShow stage (word_at m.nvm) w.version s.now_words s.saved_words
words_at m w s stage e = subst (λ (t : Stage). WordsShow t (word_at m.nvm) w.version s.now_words s.saved_words) e s.words

pub stage_at : (m : Machine) (w : World) (s : Shows m w) (stage : Stage) → m.stage ≡ stage → AtStage stage m w s.now_words s.saved_words
stage_at m w s stage e = subst (λ (t : Stage). AtStage t m w s.now_words s.saved_words) e s.stage

pub counts_kept : (m n : Memory) (w : World) → SameCounts m n → HasCounts m w → HasCounts n w
counts_kept m n w same has = record { commits = same.commits ∙ has.commits; cuts = same.cuts ∙ has.cuts }

-- a fence counts a commit exactly where it changes the durable version word
pub fence_same : (m n : Memory) → n.commits ≡ (if (word_at n 1).durable == (word_at m 1).durable then m.commits else count_up m.commits) → n.cuts ≡ m.cuts → (word_at n 1).durable ≡ (word_at m 1).durable → SameCounts m n
fence_same m n commits cuts same = record { commits = rw (same_test (word_at n 1).durable (word_at m 1).durable same) at commits; cuts = cuts }

pub fence_more : (m n : Memory) (v : ℕ) → n.commits ≡ (if (word_at n 1).durable == (word_at m 1).durable then m.commits else count_up m.commits) → (word_at m 1).durable ≡ v → (word_at n 1).durable ≡ v + 1 → n.commits ≡ count_up m.commits
fence_more m n v commits before after = rw (other_test (word_at n 1).durable (word_at m 1).durable (omega arith)) at commits

-- the commit of a world
pub counted_commit : (accepted : List ℕ) (w : World) → IsCounted accepted w → w.version + 1 ≤ LAST_VERSION → IsCounted accepted (commit w)
counted_commit accepted w counted fits = record {
  count = counted.count;
  released = λ channel. prefix_of_prefix (w.released channel) (w.saved.out channel) (w.now.out channel) (counted.released channel) (counted.saved channel);
  saved = λ channel. prefix_all (w.now.out channel);
  version = fits;
}

-- Formatting: words that stay, or become what formatting stores there.

pub formatting_on : (program : List ℕ) (f g : ℕ → Word) → ((i : ℕ) → WordCalm (f i) (g i) ⊎ MayBeFormatted program i (g i).cached × ((g i).durable ≡ (f i).durable)) → IsFormatting program f → IsFormatting program g
formatting_on program f g each is = record {
  cached = λ i. elim (each i) [ inl calm ↦ subst (λ (x : ℕ). MayBeFormatted program i x) (sym calm.cached) (is.cached i) | inr stored ↦ stored.0 ];
  durable = λ i. elim (each i) [
    | inl calm ↦ elim calm.durable [ inl same ↦ subst (λ (x : ℕ). MayBeFormatted program i x) (sym same) (is.durable i) | inr now ↦ subst (λ (x : ℕ). MayBeFormatted program i x) (sym now) (is.cached i) ]
    | inr stored ↦ subst (λ (x : ℕ). MayBeFormatted program i x) (sym stored.1) (is.durable i)
  ];
}

-- and its cut
pub counted_cut : (accepted : List ℕ) (w : World) → IsCounted accepted w → IsCounted accepted (cut w)
counted_cut accepted w counted = record {
  count = counted.count;
  released = counted.released;
  saved = λ channel. prefix_all (w.saved.out channel);
  version = counted.version;
}

-- the world stays, and the words are known as the new stage has them
pub shows_on : (m n : Machine) (w : World) (s : Shows m w) → n.accepted ≡ m.accepted → SameCounts m.nvm n.nvm → WordsShow n.stage (word_at n.nvm) w.version s.now_words s.saved_words → AtStage n.stage n w s.now_words s.saved_words → Shows n w
shows_on m n w s accepted counts words stage = record {
  now_words = s.now_words;
  saved_words = s.saved_words;
  now_is = s.now_is;
  saved_is = s.saved_is;
  words = words;
  counted = subst (λ (a : List ℕ). IsCounted a w) (sym accepted) s.counted;
  counts = counts_kept m.nvm n.nvm w counts s.counts;
  stage = stage;
}

-- the record's words depend on the counts of the four channels
pub record_along : (t : RunThread) (put put' : ℕ → ℕ) (i : ℕ) → i < 21 → ((channel : ℕ) → channel < 4 → put channel ≡ put' channel) → record_word t put i ≡ record_word t put' i
record_along t put put' i lt same = ⊎_elim
    (λ (low : i < 17). grind (arith, nat_tests))
    (λ (high : 17 ≤ i). let e = same (i - 17) (omega arith) in grind (arith, nat_tests, e))
    (cases_lt i 17)

-- the record of the machine's thread is that of the running state
pub record_is : (words : ℕ → ℕ → ℕ) (thread : RunThread) (put : List ℕ) (s : State) (accepted : ℕ → ℕ) → IsRunning thread put s → AreState words accepted s → IsRecordOf words thread put
record_is words thread put s accepted runs are = λ i lt.
    are.thread_record i lt ∙ (ap (λ (t : RunThread). record_word t (put_count s) i) (sym runs.thread_is) ∙ record_along thread (put_count s) (slice_index put) i lt (λ channel below. sym (runs.put_is channel below)))

-- a checkpoint that saves leads to the same version
pub lead_on : (n : Machine) (w : World) (now saved : ℕ → ℕ → ℕ) (o : Option SaveStep) → IsRunning n.thread n.put w.now → IsNext w.version n.next → AtStage (checkpoint_next o) n w now saved
lead_on n w now saved None running next = (running, next)
lead_on n w now saved (Some step) running next = (running, next)

-- the world stays while a checkpoint saves
pub shows_saving : (m n : Machine) (w : World) (s : Shows m w) (o : Option SaveStep) → n.stage ≡ checkpoint_next o → n.accepted ≡ m.accepted → SameCounts m.nvm n.nvm
    → WordsShow (checkpoint_next o) (word_at n.nvm) w.version s.now_words s.saved_words → IsRunning n.thread n.put w.now → IsNext w.version n.next → Shows n w
shows_saving m n w s o stage accepted counts words running next =
    shows_on m n w s accepted counts
    (subst (λ (t : Stage). WordsShow t (word_at n.nvm) w.version s.now_words s.saved_words) (sym stage) words)
    (subst (λ (t : Stage). AtStage t n w s.now_words s.saved_words) (sym stage) (lead_on n w s.now_words s.saved_words o running next))
