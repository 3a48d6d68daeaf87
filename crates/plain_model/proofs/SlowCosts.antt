-- What a checkpoint keeps, and how many numbers pass a test.
use Rattle.std.proofs.Common.{◌≡◌, ◌≤◌, ◌==◌, ◌&&◌, ℕ, Bool, true, false, List, Option, Some, None, length, refl, ap, arith, sym}
use Rattle.std.specs.Prelude.{filter, option_map}
use Rattle.std.specs.List.{list_any}
use Rattle.std.proofs.lemmas.List.Sums.{length-filter, count_by-le-length}
use Rattle.std.proofs.lemmas.List.FromFn.{length-range_with_len}
use Rattle.plain_state.specs.Objects.{Object, Group, Thread, Space, Memory, Connection, Notification, OutputRing, InputRing, Scheduler, page_numbers, every_object, every_page}
use Rattle.plain_state.specs.States.{State}
use Rattle.plain_state.specs.Sweep.{is_reached, settled, swept}
use Rattle.plain_state.specs.Worlds.{has_page}
use Rattle.plain_state.specs.declared.sweep.Reached.{Reached}
use Rattle.plain_state.specs.SlowSweep.{has, TellsReached}
use Rattle.plain_state.proofs.SlowSweepSteps.{any_object_alike}

-- whether one of an object's pages has a number
abbrev pub has_number : ℕ → Option Object → Bool
has_number page object = list_any (λ number. number == page) (page_numbers object)

-- the sweep leaves an object's pages as they are
pages_settled : (s : State) (object : Option Object) → page_numbers (option_map (settled s) object) ≡ page_numbers object
pages_settled s None = refl
pages_settled s (Some (Group slots)) = refl
pages_settled s (Some (Thread thread)) = refl
pages_settled s (Some (Space regions)) = refl
pages_settled s (Some (Memory pages)) = refl
pages_settled s (Some (Connection server client clients)) = refl
pages_settled s (Some (Notification count waiters)) = refl
pages_settled s (Some (OutputRing channel)) = refl
pages_settled s (Some InputRing) = refl
pages_settled s (Some Scheduler) = refl

number_swept : (s : State) (page i : ℕ) (b : Bool) → b ≡ is_reached s i → b && has_number page (s.objects i) ≡ has_number page ((swept s).objects i)
number_swept s page i true e = rw (← e) (ap (list_any (λ number. number == page)) (sym (pages_settled s (s.objects i))))
number_swept s page i false e = rw (← e) refl

pub page_kept : (r : Reached) (s : State) (page : ℕ) → TellsReached r s → list_any (λ i. has r i && has_number page (s.objects i)) every_object ≡ has_page (swept s) page
unfolding has_page
page_kept r s page tells =
    any_object_alike (λ i. has r i && has_number page (s.objects i)) (λ i. has_number page ((swept s).objects i))
    (λ i below. number_swept s page i (has r i) (tells i below))

few_of : (test : ℕ → Bool) (numbers : List ℕ) → length (filter test numbers) ≤ length numbers
few_of test numbers = rw length-filter (count_by-le-length test numbers)

pub few_objects : (test : ℕ → Bool) → length (filter test every_object) ≤ 128
unfolding every_object
few_objects test = omega (arith, few_of test every_object, length-range_with_len 0 128)

pub few_pages : (test : ℕ → Bool) → length (filter test every_page) ≤ 512
unfolding every_page
few_pages test = omega (arith, few_of test every_page, length-range_with_len 0 512)
