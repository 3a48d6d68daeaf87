-- What an effect reaches in memory.
use Rattle.std.specs.Prelude.{◌≡◌, ℕ, ◌≤◌, ◌==◌, Bool, List, [], map, Option, Some, None, option_map}
use Rattle.std.specs.List.{list_any}
use Rattle.sls_base.specs.declared.limits.TheConstants.{PAGE_BYTES}
use Rattle.sls_base.specs.declared.rights.TheConstants.{READ, WRITE}
use Rattle.sls_base.specs.declared.thread.Thread.{Thread as ThreadRecord}
use Rattle.plain_state.specs.declared.effect.Place.{Place}
use Rattle.plain_state.specs.declared.reach.Span.{Span}
use Rattle.plain_model.specs.Objects.{Object}
use Rattle.plain_model.specs.States.{State}
use Rattle.plain_model.specs.Memory.{page_at, places_of}
use Rattle.plain_model.specs.Effects.{Effect}
use Rattle.plain_model.specs.Instructions.{seen_by}
use Rattle.call_readings.specs.declared.reach.Reach.{Reach}
use Rattle.call_readings.specs.declared.reach.Reach.TheVariants.{Nothing, Loads, Stores, Puts}

-- one of some places is on a page
abbrev pub is_any_on : (ℕ → Option Object) → List Place → ℕ → Bool
is_any_on objects places page = list_any (λ place. (page_at objects place).number == page) places

-- it loads from these places, stores to these, and puts on this channel
pub record ReachesPlaces (e : Effect) (loaded stored : List Place) (output : Option ℕ) : Type 0 where
  pub loads : e.loads ≡ loaded
  pub stores : map (λ store. store.place) e.stores ≡ stored
  pub channel : option_map (λ entry. entry.channel) e.output ≡ output

-- the places of bytes that a thread reads or writes
abbrev pub places_in : State → ThreadRecord → ℕ → Span → List Place
places_in s thread right span = places_of (seen_by s thread) right span.at span.count

-- It is what an effect of a thread reaches. Its bytes are no more than those of a page.
abbrev pub IsReach : State → ThreadRecord → Reach → Effect → Type 0
IsReach s thread Nothing e = ReachesPlaces e [] [] None
IsReach s thread (Loads span) e = (span.count ≤ PAGE_BYTES) × ReachesPlaces e (places_in s thread READ span) [] None
IsReach s thread (Stores span) e = (span.count ≤ PAGE_BYTES) × ReachesPlaces e [] (places_in s thread WRITE span) None
IsReach s thread (Puts span channel) e =
    (span.count ≤ PAGE_BYTES) × ReachesPlaces e (places_in s thread READ span) [] (Some channel)
