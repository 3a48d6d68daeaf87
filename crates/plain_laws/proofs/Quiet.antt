-- Which effects reach memory and rings: those of loads and stores, of put and of get.
use Rattle.std.specs.Prelude.{◌≡◌, ℕ, ◌==◌, Bool, true, false, if◌then◌else◌, List, [], ◌∷◌, Option, Some, None}
use Rattle.std.proofs.Common.{refl}
use Rattle.rv_core.specs.declared.registers.Plan.TheVariants.{Load, Store}
use Rattle.rv_core.specs.Effect.{size_of}
use Rattle.sls_base.specs.declared.limits.TheConstants.{INSTRUCTION_BYTES}
use Rattle.sls_base.specs.declared.rights.TheConstants.{READ, WRITE, EXECUTE}
use Rattle.sls_base.specs.declared.thread.Thread.{Thread as ThreadRecord}
use Rattle.plain_state.specs.declared.calls.Call.{Call}
use Rattle.plain_state.specs.declared.calls.Call.TheVariants.{Put, Get, Signal, Wait, ConnCall, Serve}
use Rattle.plain_model.specs.Objects.{Object, Connection, Notification}
use Rattle.plain_model.specs.States.{State, thread_at}
use Rattle.plain_model.specs.Memory.{is_covered}
use Rattle.plain_model.specs.Worlds.{World}
use Rattle.plain_model.specs.Effects.{Effect}
use Rattle.plain_model.specs.Calls.{id_named, named}
use Rattle.plain_model.specs.CallRefusals.{refusal_of}
use Rattle.plain_model.specs.CallEffects.{effect_of_call, put_effect, get_effect, signal_effect, wait_effect, call_effect, is_serving, serve_effect, serve_next}
use Rattle.plain_model.specs.Instructions.{instruction, with_fetch, fetched, seen_by}
use Rattle.plain_laws.proofs.Walk.{Does, loaded, stored, holds_of_instruction}

-- An effect that loads, stores and puts nothing.
pub record IsQuiet (e : Effect) : Type 0 where
  pub loads : e.loads ≡ []
  pub stores : e.stores ≡ []
  pub output : e.output ≡ None

pub quiet_either : (b : Bool) (e f : Effect) → IsQuiet e → IsQuiet f → IsQuiet (if b then e else f)
quiet_either true e f h k = h
quiet_either false e f h k = k

pub quiet_signal : (s : State) (thread : ThreadRecord) (note : ℕ) (o : Option Object) → IsQuiet (signal_effect s thread note o)
quiet_signal s thread note (Some (Notification count [])) = record { loads = refl; stores = refl; output = refl }
quiet_signal s thread note (Some (Notification count (waiter ∷ waiters))) = record { loads = refl; stores = refl; output = refl }
quiet_signal s thread note o = record { loads = refl; stores = refl; output = refl }

pub quiet_wait : (id : ℕ) (thread : ThreadRecord) (note : ℕ) (o : Option Object) → IsQuiet (wait_effect id thread note o)
quiet_wait id thread note (Some (Notification count waiters)) =
    quiet_either (count == 0) _ _ (record { loads = refl; stores = refl; output = refl }) (record { loads = refl; stores = refl; output = refl })
quiet_wait id thread note o = record { loads = refl; stores = refl; output = refl }

pub quiet_call : (s : State) (id : ℕ) (thread : ThreadRecord) (connection : ℕ) (o : Option Object) → IsQuiet (call_effect s id thread connection o)
quiet_call s id thread connection (Some (Connection server client clients)) =
    quiet_either (is_serving (thread_at s server).state connection) _ _ (record { loads = refl; stores = refl; output = refl }) (record { loads = refl; stores = refl; output = refl })
quiet_call s id thread connection o = record { loads = refl; stores = refl; output = refl }

pub quiet_next : (s : State) (thread : ThreadRecord) (connection server : ℕ) (client : Option ℕ) (clients : List ℕ) → IsQuiet (serve_next s thread connection server client clients)
quiet_next s thread connection server client (next ∷ clients) = record { loads = refl; stores = refl; output = refl }
quiet_next s thread connection server (Some client) [] = record { loads = refl; stores = refl; output = refl }
quiet_next s thread connection server None [] = record { loads = refl; stores = refl; output = refl }

pub quiet_serve : (s : State) (thread : ThreadRecord) (connection : ℕ) (o : Option Object) → IsQuiet (serve_effect s thread connection o)
quiet_serve s thread connection (Some (Connection server client clients)) = quiet_next s thread connection server client clients
quiet_serve s thread connection o = record { loads = refl; stores = refl; output = refl }

-- Something holds of each effect that an instruction can have, where it holds of those that are quiet.
pub record HoldsOfReach (P : Effect → Type 0) (w : World) (id : ℕ) (thread : ThreadRecord) : Type 0 where
  pub quiet : (e : Effect) → IsQuiet e → P e
  pub fetches : (e : Effect) → is_covered (seen_by w.now thread) EXECUTE thread.pc INSTRUCTION_BYTES ≡ true → P e → P (with_fetch (fetched w.now thread) e)
  pub loads : (op rd at : ℕ) → Does w thread (Load op rd at) → is_covered (seen_by w.now thread) READ at (size_of op) ≡ true → P (loaded w thread op rd at)
  pub stores : (op at value : ℕ) → Does w thread (Store op at value) → is_covered (seen_by w.now thread) WRITE at (size_of op) ≡ true → P (stored w thread op at value)
  pub puts : refusal_of w id thread Put ≡ None → P (put_effect w.now thread)
  pub gets : refusal_of w id thread Get ≡ None → P (get_effect w.now thread)

call_holds : (P : Effect → Type 0) (w : World) (id : ℕ) (thread : ThreadRecord) → HoldsOfReach P w id thread → (call : Call) → refusal_of w id thread call ≡ None
    → P (effect_of_call w id thread call)
unfolding effect_of_call
call_holds P w id thread h Put e = h.puts e
call_holds P w id thread h Get e = h.gets e
call_holds P w id thread h Signal e = h.quiet (signal_effect w.now thread (id_named w.now thread 0) (named w.now thread 0)) (quiet_signal w.now thread (id_named w.now thread 0) (named w.now thread 0))
call_holds P w id thread h Wait e = h.quiet (wait_effect id thread (id_named w.now thread 0) (named w.now thread 0)) (quiet_wait id thread (id_named w.now thread 0) (named w.now thread 0))
call_holds P w id thread h ConnCall e = h.quiet (call_effect w.now id thread (id_named w.now thread 0) (named w.now thread 0)) (quiet_call w.now id thread (id_named w.now thread 0) (named w.now thread 0))
call_holds P w id thread h Serve e = h.quiet (serve_effect w.now thread (id_named w.now thread 0) (named w.now thread 0)) (quiet_serve w.now thread (id_named w.now thread 0) (named w.now thread 0))
call_holds P w id thread h call e = h.quiet (effect_of_call w id thread call) (record { loads = refl; stores = refl; output = refl })

pub holds_of_reach : (P : Effect → Type 0) (w : World) (id : ℕ) (thread : ThreadRecord) → HoldsOfReach P w id thread → P (instruction w id thread)
holds_of_reach P w id thread h = holds_of_instruction P w id thread (record {
  unfetched = h.quiet _ (record { loads = refl; stores = refl; output = refl });
  fetches = h.fetches;
  illegal = h.quiet _ (record { loads = refl; stores = refl; output = refl });
  sets = λ rd value pc does. h.quiet _ (record { loads = refl; stores = refl; output = refl });
  loads = h.loads;
  stores = h.stores;
  stops_there = λ cause does. h.quiet _ (record { loads = refl; stores = refl; output = refl });
  refuses = λ refusal. h.quiet _ (record { loads = refl; stores = refl; output = refl });
  calls = λ call is unrefused. call_holds P w id thread h call unrefused;
})
