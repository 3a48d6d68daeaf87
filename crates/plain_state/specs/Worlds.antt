-- Worlds: the running state with its one saved copy, and which numbers are in use.
use Rattle.std.specs.Prelude.{ℕ, ◌+◌, ◌^◌, ◌-◌, ◌==◌, ◌||◌, not, Bool, List, length, filter, is_some}
use Rattle.std.specs.List.{list_any}
use Rattle.sls_base.specs.declared.limits.TheConstants.{RING_ENTRIES}
use Rattle.plain_state.specs.Objects.{page_numbers, every_object, every_page}
use Rattle.plain_state.specs.States.{State}

-- A world: the running state; the saved copy; what the device accepted of each channel since the play began; its counts when
-- the play began; the version; and since the last commit or cut the pages stored to, and the objects made or written.
pub record World : Type 0 where
  pub now : State
  pub saved : State
  pub released : ℕ → List (List ℕ)
  pub base : ℕ → ℕ
  pub version : ℕ
  pub stored : ℕ → Bool
  pub changed : ℕ → Bool

-- Counts of entries.

-- how many entries of a channel the device has accepted
abbrev pub accepted_count : World → ℕ → ℕ
accepted_count w channel = w.base channel + length (w.released channel)

-- how many entries the running state has put on a channel
abbrev pub put_count : World → ℕ → ℕ
put_count w channel = w.base channel + length (w.now.out channel)

-- the ring of a channel has as many entries that wait to be accepted as it can hold, or its count is the greatest
abbrev pub is_ring_full : World → ℕ → Bool
is_ring_full w channel =
    (put_count w channel == accepted_count w channel + RING_ENTRIES) || (put_count w channel == 2 ^ 64 - 1)

-- Numbers in use: those of the running state and those of the saved copy.

-- an object of a state has a page
unfoldable pub has_page : State → ℕ → Bool
has_page s page = list_any (λ i. list_any (λ number. number == page) (page_numbers (s.objects i))) every_object

abbrev pub is_used_object : World → ℕ → Bool
is_used_object w i = is_some (w.now.objects i) || is_some (w.saved.objects i)

abbrev pub is_used_page : World → ℕ → Bool
is_used_page w page = has_page w.now page || has_page w.saved page

-- the numbers that are free, rising: new objects and pages take the first of them
unfoldable pub free_objects : World → List ℕ
free_objects w = filter (λ i. not (is_used_object w i)) every_object

unfoldable pub free_pages : World → List ℕ
free_pages w = filter (λ page. not (is_used_page w page)) every_page
