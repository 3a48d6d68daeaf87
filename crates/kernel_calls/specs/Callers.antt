-- The thread that does a call.
use Rattle.std.specs.Prelude.{◌≡◌, ℕ, ◌<◌, Bool, true, false, Option, Some}
use Rattle.sls_base.specs.declared.limits.TheConstants.{OBJECTS}
use Rattle.link_lists.specs.Lists.{IsFree}
use Rattle.sls_base.specs.declared.thread.Thread.{Thread as ThreadRecord}
use Rattle.sls_base.specs.declared.thread.ThreadState.{ThreadState}
use Rattle.sls_base.specs.declared.thread.ThreadState.TheVariants.{Waiting, Calling, Served, Serving}
use Rattle.plain_state.specs.declared.calls.Call.{Call}
use Rattle.plain_state.specs.declared.calls.Call.TheVariants.{Put, Get}
use Rattle.plain_state.specs.declared.effect.Goes.{Goes}
use Rattle.plain_state.specs.declared.effect.Goes.TheVariants.{On, Asleep}
use Rattle.kobj_table.specs.declared.slot.Slot.{Slot}
use Rattle.kobj_table.specs.declared.objects.Objects.{Objects}
use Rattle.kobj_table.specs.Objects.{slot_at}

-- what becomes of a thread that is in a state: it goes on unless it waits for something
abbrev pub goes_in : ThreadState → Goes
goes_in (Waiting id) = Asleep (Waiting id)
goes_in (Calling id) = Asleep (Calling id)
goes_in (Served id) = Asleep (Served id)
goes_in (Serving id) = Asleep (Serving id)
goes_in state = On

-- The thread stands at its number and in no list, and waits for nothing.
pub record IsCaller (o : Objects) (me : ℕ) (thread : ThreadRecord) : Type 0 where
  pub range : me < OBJECTS
  pub there : slot_at o me ≡ Slot.Thread thread
  pub free : IsFree o.links me
  pub awake : goes_in thread.state ≡ On

-- the calls that load from pages or store to them
abbrev pub moves_bytes : Option Call → Bool
moves_bytes (Some Put) = true
moves_bytes (Some Get) = true
moves_bytes call = false
