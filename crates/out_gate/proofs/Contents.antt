-- Some content that a memory has.
use Rattle.std.specs.Prelude.{◌≡◌, ℕ, ◌+◌, ◌/◌, ◌%◌, ◌≤◌, ◌&&◌, nat_lt, true, false, if◌then◌else◌, List, length}
use Rattle.std.proofs.Common.{refl, arith}
use Rattle.std.proofs.lemmas.Bool.Decides.{nat_tests}
use Rattle.sls_base.specs.declared.limits.TheConstants.{ENTRY_BYTES, PAGE_BYTES, PAGES}
use Rattle.pmem_model.specs.Memory.{Memory, word_at}
use Rattle.pmem_layout.specs.Places.{frame_at, runtime_frame}
use Rattle.plain_model.specs.Objects.{page_of_channel}
use Rattle.call_readings.specs.Content.{byte_of, Reads}
use Rattle.out_gate.specs.Entries.{with_entry, EntryStands}
use Rattle.out_gate.proofs.Places.{own_page, stands}

-- the bytes that the cached words have, and zeros elsewhere
content_of : Memory → ℕ → ℕ → ℕ
content_of m page offset =
    if nat_lt page PAGES && nat_lt offset PAGE_BYTES
    then byte_of (word_at m (frame_at (runtime_frame page) + offset / 8)).cached (offset % 8)
    else 0

has_content : (m : Memory) → Reads (content_of m) m
unfolding content_of
has_content m = record {
  home = λ page offset inside fits home. let both : (nat_lt page PAGES && nat_lt offset PAGE_BYTES) ≡ true = grind (arith, nat_tests, inside, fits) in rw both refl;
  end = λ page offset past. let none : (nat_lt page PAGES && nat_lt offset PAGE_BYTES) ≡ false = grind (arith, nat_tests, past) in rw none refl;
  none = λ page offset past. let none : (nat_lt page PAGES && nat_lt offset PAGE_BYTES) ≡ false = grind (arith, nat_tests, past) in rw none refl;
}

-- an entry that was put into its place stands there
pub put_stands : (old new : Memory) (channel number : ℕ) (entry : List ℕ) → 1 ≤ length entry → length entry ≤ ENTRY_BYTES
    → ((content : ℕ → ℕ → ℕ) → Reads content old → Reads (with_entry content channel number entry) new) → EntryStands new channel number entry
put_stands old new channel number entry some most puts = record {
  content = with_entry (content_of old) channel number entry;
  reads = puts (content_of old) (has_content old);
  there = rw (own_page (content_of old) channel number entry) (stands (content_of old (page_of_channel channel)) number entry some most);
}
