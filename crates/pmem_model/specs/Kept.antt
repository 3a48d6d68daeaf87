-- What the private fields keep.
use Rattle.std.specs.Prelude.{◌≡◌, ℕ, ◌<◌, Bool, true, false, ◌&&◌, nat_le, nat_lt, List, length, slice_index, slice_index_or, Option, is_some}
use Rattle.pmem_model.specs.declared.flushes.Flushes.{Flushes}
use Rattle.pmem_model.specs.Words.{BankWords, has_core}
use Rattle.pmem_model.specs.Parts.{part_start, is_touched}
use Rattle.pmem_model.specs.Places.{word_among, bank_at, AreBanks}
use Rattle.pmem_model.specs.Flushes.{may_be_flushed}

-- the places from `first` on and before `past`
abbrev pub is_between : ℕ → ℕ → ℕ → Bool
is_between first past i = nat_le first i && nat_lt i past

-- a bank keeps three lists of one length, in 64 parts, and each word of a part that isn't touched is clean and has no
-- mark
pub record IsKept (cached durable marks : List ℕ) (touched : ℕ) : Type 0 where
  pub parts : part_start (length cached) 64 ≡ length cached
  pub durable_len : length durable ≡ length cached
  pub marks_len : length marks ≡ length cached
  pub clean : (i : ℕ) → is_touched (length cached) touched i ≡ false → slice_index cached i ≡ slice_index durable i
  pub unmarked : (i : ℕ) → is_touched (length cached) touched i ≡ false → slice_index marks i ≡ 0

-- A memory keeps its banks, the table among them, and each word in flight for a core among those that the core has
-- flushed.
pub record IsSound (banks : List (Option BankWords)) (flushes : List Flushes) : Type 0 where
  pub banks_sized : AreBanks banks
  pub table : is_some (bank_at banks 0) ≡ true
  pub cores : length flushes ≡ 8
  pub flushed : (core i : ℕ) (d : Flushes) → core < 8 → has_core (word_among banks i).marks core ≡ true
      → may_be_flushed (slice_index_or flushes core d) i ≡ true
