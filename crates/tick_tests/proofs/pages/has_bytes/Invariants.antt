use Rattle.std.proofs.Common.{◌≡◌, ◌<◌, ℕ, slice_index}
use Rattle.call_readings.specs.Content.{Reads}
use Rattle.tick_tests.proofs.pages.has_bytes.Given as goal

abbrev pub invariant-loop-offset : goal.invariant-loop-offset
invariant-loop-offset l = (content : ℕ → ℕ → ℕ) → Reads content l.nvm → (k : ℕ) → k < l.offset → content l.page.page k ≡ slice_index l.bytes k
