-- A word is written back at any moment.
use Rattle.std.proofs.Common.{arith, ◌≡◌, ◌≢◌, ◌⊎◌, inl, inr, ℕ, ◌+◌, ◌≤◌, ◌∙◌, ap, sym, subst, List, slice_index, ◌<◌, ◌^◌, ◌==◌, if◌then◌else◌, Some, None, true, false}
use Rattle.std.proofs.lemmas.Bool.Decides.{nat_tests}
use Rattle.sls_base.specs.declared.limits.TheConstants.{LAST_VERSION}
use Rattle.pmem_model.specs.Words.{Word, is_within, writes_back}
use Rattle.pmem_model.specs.Memory.{word_at, count_up}
use Rattle.pmem_model.specs.Events.{Kind, Any, Cached, Ready, Clean, WordIs, calm_word}
use Rattle.sls_kernel.specs.Plain.{State, World, first, commit}
use Rattle.sls_kernel.specs.Words.{Tells, area_of, area_place, running_place}
use Rattle.sls_kernel.specs.Stages.{resumed_of, version_kind, version_value, format_word}
use Rattle.sls_kernel.specs.Shows.{Shows, WordsAre, WordsShow, AtStage, IsFormatting, IsNext, IsRunning, IsCounted, LeadsTo, first_words, put_count}
use Rattle.sls_kernel.specs.Program.{page_bytes}
use Rattle.sls_kernel.specs.declared.machine.Machine.{Machine}
use Rattle.sls_kernel.specs.declared.stage.Stage.{Stage}
use Rattle.sls_kernel.specs.declared.stage.Stage.TheVariants.{Format, Recover, Up, Checkpoint}
use Rattle.sls_kernel.specs.declared.stage.CheckpointStep.TheVariants.{Save, StoreVersion, FlushVersion, FenceVersion, FlushAgain, FenceAgain}
use Rattle.sls_kernel.proofs.Facts.{AllCalm, words_at, stage_at, shows_on, words_calm, parts_calm, rest_calm, formatting_on, counted_commit, fence_same, fence_more}

-- where no version waits, the version word is clean
quiet : (stage : Stage) (u : Word) (v : ℕ) → resumed_of stage ≡ None → WordIs 0 (version_kind stage) u (version_value stage v) → u.durable ≡ v
quiet (Checkpoint FlushVersion) u v e h = cc
quiet (Checkpoint FenceVersion) u v e h = cc
quiet (Checkpoint (Save step)) u v e h = h.1
quiet (Checkpoint StoreVersion) u v e h = h.1
quiet (Checkpoint FlushAgain) u v e h = h.1
quiet (Checkpoint FenceAgain) u v e h = h.1
quiet (Format step) u v e h = h.1
quiet (Recover page) u v e h = h.1
quiet Up u v e h = h.1

pub formatting_calm : (program : List ℕ) (f g : ℕ → Word) → AllCalm f g → IsFormatting program f → IsFormatting program g
formatting_calm program f g calm is = formatting_on program f g (λ i. inl (calm i)) is

-- the durable value of the version word after a write-back
pub same_version : (f g : ℕ → Word) (word : ℕ) → ((i : ℕ) → g i ≡ writes_back (is_within word 1) f i) → word ≢ 1 → (g 1).durable ≡ (f 1).durable
same_version f g word e other =
    let off : is_within word 1 1 ≡ false = grind (arith, nat_tests) in
    ap (λ (u : Word). u.durable) (rw off at (e 1))

-- the thread stays
pub running_on : (m n : Machine) (s : State) → n.thread ≡ m.thread → n.put ≡ m.put → IsRunning m.thread m.put s → IsRunning n.thread n.put s
running_on m n s thread put is = record { thread_is = thread ∙ is.thread_is; put_is = subst (λ (p : List ℕ). Tells p (put_count s)) (sym put) is.put_is }

-- what a stage says stays, where nothing is stored
pub stage_calm : (stage : Stage) (m n : Machine) (w : World) (now saved : ℕ → ℕ → ℕ) → n.thread ≡ m.thread → n.put ≡ m.put → n.program.items ≡ m.program.items → n.next ≡ m.next → AllCalm (word_at m.nvm) (word_at n.nvm) → AtStage stage m w now saved → AtStage stage n w now saved
stage_calm (Format step) m n w now saved thread put program next calm at = record {
  now_is = at.now_is ∙ ap first_words (sym program);
  saved_is = at.saved_is ∙ ap first_words (sym program);
  world = at.world ∙ ap (λ (p : List ℕ). first (page_bytes p) w.commits w.cuts) (sym program);
  in_range = subst (λ (p : List ℕ). (i : ℕ) → slice_index p i < 2 ^ 64) (sym program) at.in_range;
  formatting = subst (λ (p : List ℕ). IsFormatting p (word_at n.nvm)) (sym program) (formatting_calm m.program.items (word_at m.nvm) (word_at n.nvm) calm at.formatting);
  running = running_on m n w.now thread put at.running;
}
stage_calm (Recover page) m n w now saved thread put program next calm at = at
stage_calm Up m n w now saved thread put program next calm at = running_on m n w.now thread put at
stage_calm (Checkpoint step) m n w now saved thread put program next calm at = (running_on m n w.now thread put at.0, subst (λ (x : ℕ). LeadsTo step w.version x) (sym next) at.1)

-- a write-back that commits nothing
pub not_committed : (m n : Machine) (w : World) → n.stage ≡ m.stage → n.accepted ≡ m.accepted → n.thread ≡ m.thread → n.put ≡ m.put → n.program.items ≡ m.program.items → n.next ≡ m.next
    → AllCalm (word_at m.nvm) (word_at n.nvm) → ((word_at n.nvm 1).durable ≡ (word_at m.nvm 1).durable) ⊎ (resumed_of m.stage ≡ None)
    → n.nvm.commits ≡ (if (word_at n.nvm 1).durable == (word_at m.nvm 1).durable then m.nvm.commits else count_up m.nvm.commits) → n.nvm.cuts ≡ m.nvm.cuts → Shows m w → Shows n w
not_committed m n w stage accepted thread put program next calm why commits cuts s =
    let version = calm_word 0 (version_kind m.stage) (word_at m.nvm 1) (word_at n.nvm 1) _ (calm 1) s.words.version in
    let durable : (word_at n.nvm 1).durable ≡ w.version = elim why [ inl same ↦ same ∙ s.words.version_durable | inr none ↦ quiet m.stage (word_at n.nvm 1) w.version none version ] in
    let words = words_calm _ _ _ _ _ _ _ (word_at m.nvm) (word_at n.nvm) w.version s.now_words s.saved_words calm durable s.words in
    shows_on m n w s accepted (fence_same m.nvm n.nvm commits cuts (durable ∙ sym s.words.version_durable))
    (subst (λ (t : Stage). WordsShow t (word_at n.nvm) w.version s.now_words s.saved_words) (sym stage) words)
    (subst (λ (t : Stage). AtStage t n w s.now_words s.saved_words) (sym stage) (stage_calm m.stage m n w s.now_words s.saved_words thread put program next calm s.stage))

-- Where a version waits, its write-back commits it.

pub data Waits : Stage → Stage → Type 0 where
  flush : Waits (Checkpoint FlushVersion) (Checkpoint FlushAgain)
  fence : Waits (Checkpoint FenceVersion) (Checkpoint FenceAgain)

pub waits : (old new : Stage) → resumed_of old ≡ Some new → Waits old new
waits (Checkpoint FlushVersion) new e = let same : Checkpoint FlushAgain ≡ new = cc in subst (λ (x : Stage). Waits (Checkpoint FlushVersion) x) same flush
waits (Checkpoint FenceVersion) new e = let same : Checkpoint FenceAgain ≡ new = cc in subst (λ (x : Stage). Waits (Checkpoint FenceVersion) x) same fence
waits (Checkpoint (Save step)) new e = cc
waits (Checkpoint StoreVersion) new e = cc
waits (Checkpoint FlushAgain) new e = cc
waits (Checkpoint FenceAgain) new e = cc
waits (Format step) new e = cc
waits (Recover page) new e = cc
waits Up new e = cc

-- the words after the commit: the other area is the saved one
commit_words : (vk : Kind) (f g : ℕ → Word) (v : ℕ) (now saved : ℕ → ℕ → ℕ) → AllCalm f g → WordIs 0 Clean (g 1) (v + 1)
    → WordsAre Clean format_word vk (v + 1) (λ part. Clean) (λ part. Clean) (λ page. Cached) f v now saved
    → WordsAre Clean format_word Clean (v + 1) (λ part. Clean) (λ part. Any) (λ page. Cached) g (v + 1) now now
commit_words vk f g v now saved calm version known = record {
  format = calm_word 0 Clean (f 0) (g 0) format_word (calm 0) known.format;
  version = version;
  version_durable = version.1;
  table = λ i low high. calm_word 0 Clean (f i) (g i) 0 (calm i) (known.table i low high);
  saved_area = parts_calm (λ part. Clean) f g (area_place (area_of (v + 1))) now (λ part i p lt. calm (area_place (area_of (v + 1)) part i)) known.other_area;
  other_area = λ part i p lt. tt;
  running = λ page i p lt. calm_word 0 Cached (f (running_place page i)) (g (running_place page i)) (now page i) (calm (running_place page i)) (known.running page i p lt);
  record_rest = rest_calm f g (λ area i a low high. calm (area_place area 5 i)) known.record_rest;
}

commits_waiting : (m n : Machine) (w : World) (s : Shows m w) {old new : Stage} → Waits old new → m.stage ≡ old → AllCalm (word_at m.nvm) (word_at n.nvm) → (word_at n.nvm 1).durable ≡ (word_at m.nvm 1).cached
    → IsNext w.version m.next × (WordsShow new (word_at n.nvm) (w.version + 1) s.now_words s.now_words × IsRunning m.thread m.put w.now)
commits_waiting m n w s flush stage calm here =
    let known = words_at m w s (Checkpoint FlushVersion) stage in
    let at = stage_at m w s (Checkpoint FlushVersion) stage in
    (at.1, (commit_words Cached (word_at m.nvm) (word_at n.nvm) w.version s.now_words s.saved_words calm ((calm 1).cached ∙ known.version, here ∙ known.version) known, at.0))
commits_waiting m n w s fence stage calm here =
    let known = words_at m w s (Checkpoint FenceVersion) stage in
    let at = stage_at m w s (Checkpoint FenceVersion) stage in
    (at.1, (commit_words Ready (word_at m.nvm) (word_at n.nvm) w.version s.now_words s.saved_words calm ((calm 1).cached ∙ known.version.0, here ∙ known.version.0) known, at.0))

after_waiting : (n : Machine) (w : World) (now saved : ℕ → ℕ → ℕ) {old new : Stage} → Waits old new → IsRunning n.thread n.put w.now → AtStage new n (commit w) now saved
after_waiting n w now saved flush running = (running, tt)
after_waiting n w now saved fence running = (running, tt)

pub committed : (m n : Machine) (w : World) (old new : Stage) → Waits old new → m.stage ≡ old → n.stage ≡ new → n.accepted ≡ m.accepted → n.thread ≡ m.thread → n.put ≡ m.put
    → AllCalm (word_at m.nvm) (word_at n.nvm) → (word_at n.nvm 1).durable ≡ (word_at m.nvm 1).cached
    → n.nvm.commits ≡ (if (word_at n.nvm 1).durable == (word_at m.nvm 1).durable then m.nvm.commits else count_up m.nvm.commits) → n.nvm.cuts ≡ m.nvm.cuts → Shows m w
    → ((m.next ≡ w.version + 1) × (m.next ≤ LAST_VERSION)) × Shows n (commit w)
committed m n w old new how stage next accepted thread put calm here commits cuts s =
    let is = commits_waiting m n w s how stage calm here in
    let fits = subst (λ (v : ℕ). v ≤ LAST_VERSION) is.0.next_is is.0.in_range in
    let words = subst (λ (t : Stage). WordsShow t (word_at n.nvm) (w.version + 1) s.now_words s.now_words) (sym next) is.1.0 in (
      (is.0.next_is, is.0.in_range),
      record {
        now_words = s.now_words;
        saved_words = s.now_words;
        now_is = s.now_is;
        saved_is = s.now_is;
        words = words;
        counted = subst (λ (a : List ℕ). IsCounted a (commit w)) (sym accepted) (counted_commit m.accepted w s.counted fits);
        counts = record { commits = fence_more m.nvm n.nvm w.version commits s.words.version_durable words.version_durable ∙ ap count_up s.counts.commits; cuts = cuts ∙ s.counts.cuts };
        stage = subst (λ (t : Stage). AtStage t n (commit w) s.now_words s.now_words) (sym next) (after_waiting n w s.now_words s.now_words how (running_on m n w.now thread put is.1.1));
      },
    )

pub here_version : (f g : ℕ → Word) (word : ℕ) → ((i : ℕ) → g i ≡ writes_back (is_within word 1) f i) → word ≡ 1 → (g 1).durable ≡ (f 1).cached
here_version f g word e is =
    let on : is_within word 1 1 ≡ true = grind (arith, nat_tests) in
    ap (λ (u : Word). u.durable) (rw on at (e 1))
