-- What an instruction reaches in memory, as the slow form tells it.
use Rattle.std.specs.Prelude.{◌≡◌, ℕ, ◌==◌, Bool, if◌then◌else◌, List, Option, Some, None, map, option_map}
use Rattle.std.specs.List.{list_any}
use Rattle.sls_base.specs.declared.rights.TheConstants.{READ, WRITE, EXECUTE}
use Rattle.sls_base.specs.declared.thread.Thread.{Thread as ThreadRecord}
use Rattle.plain_state.specs.declared.effect.Place.{Place}
use Rattle.plain_state.specs.declared.reach.Reach.{Reach}
use Rattle.plain_state.specs.States.{State}
use Rattle.plain_state.specs.Memory.{is_covered, page_at, places_of}
use Rattle.sls_base.specs.declared.limits.TheConstants.{INSTRUCTION_BYTES}
use Rattle.plain_state.specs.Effects.{Effect}
use Rattle.plain_state.specs.Instructions.{seen_by, fetched, value_at}

-- the word at a thread's pc, if it can be fetched
abbrev pub word_at_pc : State → ThreadRecord → Option ℕ
word_at_pc s thread =
    if is_covered (seen_by s thread) EXECUTE thread.pc INSTRUCTION_BYTES then Some (value_at s (fetched s thread))
    else None

-- one of some places is on a page
abbrev pub is_any_on : State → ℕ → List Place → Bool
is_any_on s page places = list_any (λ place. (page_at s.objects place).number == page) places

-- it has the bytes that an effect of a thread loads and stores, and the channel on which that puts
pub record IsReach (s : State) (thread : ThreadRecord) (r : Reach) (e : Effect) : Type 0 where
  pub loads : e.loads ≡ places_of (seen_by s thread) READ r.loads.at r.loads.count
  pub stores : map (λ store. store.place) e.stores ≡ places_of (seen_by s thread) WRITE r.stores.at r.stores.count
  pub channel : option_map (λ output. output.channel) e.output ≡ r.channel
