-- One word of the memory, and what each event does to it.
use Rattle.std.specs.Prelude.{ℕ, ◌+◌, ◌-◌, ◌^◌, Bool, ◌&&◌, ◌==◌, nat_le, nat_lt, bit_or, List, slice_index, length, if◌then◌else◌}
use Rattle.std.specs.Int.{bit_at}

-- the words from `at` on, `count` of them
abbrev pub is_within : ℕ → ℕ → ℕ → Bool
is_within at count i = nat_le at i && nat_lt i (at + count)

-- the core is in the set
abbrev pub has_core : ℕ → ℕ → Bool
has_core marks core = bit_at marks core == 1

-- the set with the core
abbrev pub with_core : ℕ → ℕ → ℕ
with_core marks core = bit_or marks (2 ^ core)

-- the set without the core, which is in it
abbrev pub without_core : ℕ → ℕ → ℕ
without_core marks core = marks - 2 ^ core

-- what a word holds: its cached value, its durable value, and the set of cores for which it is in flight
pub record Word : Type 0 where
  pub cached : ℕ
  pub durable : ℕ
  pub marks : ℕ

-- a burst stores a value
abbrev pub stored : ℕ → Word → Word
stored value w = record { cached = value; durable = w.durable; marks = 0 }

-- a flush by a core
abbrev pub flushed : ℕ → Word → Word
flushed core w = record { cached = w.cached; durable = w.durable; marks = with_core w.marks core }

-- a fence by a core
abbrev pub fenced : ℕ → Word → Word
fenced core w = (if has_core w.marks core then record {
  cached = w.cached;
  durable = w.cached;
  marks = without_core w.marks core;
} else w)

-- a write-back
abbrev pub written_back : Word → Word
written_back w = record { cached = w.cached; durable = w.cached; marks = w.marks }

-- a power cut
abbrev pub lost : Word → Word
lost w = record { cached = w.durable; durable = w.durable; marks = 0 }

-- the words of the table or of one frame, as three lists of one length
pub record BankWords : Type 0 where
  pub cached : List ℕ
  pub durable : List ℕ
  pub marks : List ℕ

-- how many words the bank has
abbrev pub bank_len : BankWords → ℕ
bank_len b = length b.cached

-- a word of a bank
abbrev pub word_in : BankWords → ℕ → Word
word_in b i = record {
  cached = slice_index b.cached i;
  durable = slice_index b.durable i;
  marks = slice_index b.marks i;
}

-- The events on a whole memory, seen as a function from places to words.

-- a burst of `count` words from `at` on
abbrev pub bursts : ℕ → ℕ → (ℕ → ℕ) → (ℕ → Word) → ℕ → Word
bursts at count value f i = (if is_within at count i then stored (value (i - at)) (f i) else f i)

-- a flush by a core of `count` words from `at` on
abbrev pub flushes : ℕ → ℕ → ℕ → (ℕ → Word) → ℕ → Word
flushes core at count f i = (if is_within at count i then flushed core (f i) else f i)

-- a fence by a core
abbrev pub fences : ℕ → (ℕ → Word) → ℕ → Word
fences core f i = fenced core (f i)

-- write-backs of some words
abbrev pub writes_back : (ℕ → Bool) → (ℕ → Word) → ℕ → Word
writes_back chosen f i = (if chosen i then written_back (f i) else f i)

-- a power cut
abbrev pub cuts : (ℕ → Word) → ℕ → Word
cuts f i = lost (f i)

-- a burst that was stopped when it had stored some of its words
abbrev pub part_bursts : (ℕ → Bool) → ℕ → (ℕ → ℕ) → (ℕ → Word) → ℕ → Word
part_bursts chosen at value f i = (if chosen i then stored (value (i - at)) (f i) else f i)
