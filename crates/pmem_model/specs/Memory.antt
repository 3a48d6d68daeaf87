-- What contracts see of a memory, and of a frame that it has lent.
use Rattle.std.specs.Prelude.{◌≡◌, ◌≢◌, ℕ, ◌+◌, ◌-◌, ◌^◌, ◌<◌, Bool, true, ◌||◌, ◌==◌, if◌then◌else◌, nat_lt, min, List, Option, is_some}
pub use Rattle.sls_base.specs.Counts.{one_more as count_up}
use Rattle.sls_base.specs.declared.limits.TheConstants.{TABLE_WORDS, FRAMES, VERSION_AT}
use Rattle.pmem_model.specs.Words.{Word, BankWords}
use Rattle.pmem_model.specs.Places.{bank_of, bank_start, word_among, bank_at}

-- the banks at home (the table, and then the frames), and the counts
pub record Memory : Type 0 where
  pub banks : List (Option BankWords)
  pub ops : ℕ
  pub commits : ℕ
  pub cuts : ℕ

-- a word, zero where its frame is away
abbrev pub word_at : Memory → ℕ → Word
word_at m at = word_among m.banks at

-- the word is in the table, or its frame is at home
abbrev pub is_at_home : Memory → ℕ → Bool
is_at_home m at = nat_lt at TABLE_WORDS || is_some (bank_at m.banks (bank_of at))

-- the frame is at home
abbrev pub is_frame_home : Memory → ℕ → Bool
is_frame_home m frame = is_some (bank_at m.banks (1 + frame))

-- the table and all frames are at home
abbrev pub AllHome : Memory → Type 0
AllHome m = (k : ℕ) → k < 1 + FRAMES → is_some (bank_at m.banks k) ≡ true

-- where a frame begins
abbrev pub frame_begin : ℕ → ℕ
frame_begin frame = bank_start (1 + frame)

-- the same frames are at home
abbrev pub SameHomes : Memory → Memory → Type 0
SameHomes old new = (k : ℕ) → is_some (bank_at new.banks k) ≡ is_some (bank_at old.banks k)

-- the same frames are at home, but perhaps for one
abbrev pub SameHomesBut : ℕ → Memory → Memory → Type 0
SameHomesBut frame old new = (k : ℕ) → k ≢ 1 + frame → is_some (bank_at new.banks k) ≡ is_some (bank_at old.banks k)

-- how many commits there were behind an event: one more where it changed the durable version
abbrev pub commits_behind : Memory → Memory → ℕ
commits_behind old new =
    if (word_at new VERSION_AT).durable == (word_at old VERSION_AT).durable then old.commits else count_up old.commits

-- No power was cut, and a commit was counted if there was one.
pub record KeepsCounts (old new : Memory) : Type 0 where
  pub cuts : new.cuts ≡ old.cuts
  pub commits : new.commits ≡ commits_behind old new

-- a frame that was lent: its words, and how many copies, flushes and fences there were since
pub record LentFrame : Type 0 where
  pub bank : BankWords
  pub ops : ℕ

-- more, up to the greatest number
abbrev pub count_by : ℕ → ℕ → ℕ
count_by n more = min (n + more) (2 ^ 64 - 1)
