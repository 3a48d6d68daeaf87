-- Where a word stands: the table is bank 0, and frame f is bank f + 1.
use Rattle.std.specs.Prelude.{◌≡◌, ℕ, ◌+◌, ◌-◌, ◌*◌, ◌/◌, ◌%◌, nat_lt, ◌==◌, if◌then◌else◌, List, length, slice_index_or, Option, Some, None}
use Rattle.sls_base.specs.declared.limits.TheConstants.{TABLE_WORDS, FRAME_WORDS, FRAMES}
use Rattle.pmem_model.specs.Words.{Word, BankWords, word_in, bank_len}

-- the bank of a word
unfoldable pub bank_of : ℕ → ℕ
bank_of at = (if nat_lt at TABLE_WORDS then 0 else 1 + (at - TABLE_WORDS) / FRAME_WORDS)

-- its place in the bank
unfoldable pub offset_of : ℕ → ℕ
offset_of at = (if nat_lt at TABLE_WORDS then at else (at - TABLE_WORDS) % FRAME_WORDS)

-- how many words a bank has
unfoldable pub bank_size : ℕ → ℕ
bank_size k = (if k == 0 then TABLE_WORDS else FRAME_WORDS)

-- where a bank begins
unfoldable pub bank_start : ℕ → ℕ
bank_start k = (if k == 0 then 0 else TABLE_WORDS + FRAME_WORDS * (k - 1))

-- a word that isn't there
abbrev pub zero_word : Word
zero_word = record { cached = 0; durable = 0; marks = 0 }

-- a word of a bank, if it is at home
abbrev pub word_of : Option BankWords → ℕ → Word
word_of None i = zero_word
word_of (Some b) i = word_in b i

-- the bank at a number, if it is at home
abbrev pub bank_at : List (Option BankWords) → ℕ → Option BankWords
bank_at banks k = slice_index_or banks k None

-- a word among the banks
abbrev pub word_among : List (Option BankWords) → ℕ → Word
word_among banks i = word_of (bank_at banks (bank_of i)) (offset_of i)

-- the bank has its size, if it is at home
abbrev pub HasSize : Option BankWords → ℕ → Type 0
HasSize None n = Unit {0}
HasSize (Some b) n = bank_len b ≡ n

-- each bank at home has its size
pub record AreBanks (banks : List (Option BankWords)) : Type 0 where
  pub count : length banks ≡ 1 + FRAMES
  pub sizes : (k : ℕ) → HasSize (bank_at banks k) (bank_size k)
