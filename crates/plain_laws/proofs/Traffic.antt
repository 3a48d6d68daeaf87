-- What an instruction stores, puts and takes: nothing, but for a store and for the calls put and get. Said once for all laws of
-- bytes, rings and inputs.
use Rattle.std.specs.Prelude.{◌≡◌, ℕ, ◌==◌, Bool, true, false, if◌then◌else◌, List, [], ◌∷◌, Option, Some, None}
use Rattle.std.proofs.Common.{refl}
use Rattle.rv_core.specs.declared.registers.Plan.TheVariants.{Store}
use Rattle.rv_core.specs.Effect.{size_of}
use Rattle.sls_base.specs.declared.rights.TheConstants.{WRITE}
use Rattle.sls_base.specs.declared.thread.Thread.{Thread as ThreadRecord}
use Rattle.plain_state.specs.declared.calls.Call.{Call}
use Rattle.plain_state.specs.declared.calls.Call.TheVariants.{Put, Get, Signal, Wait, ConnCall, Serve}
use Rattle.plain_state.specs.declared.effect.Place.{Place}
use Rattle.plain_model.specs.Objects.{Object, Connection, Notification}
use Rattle.plain_model.specs.States.{State, thread_at}
use Rattle.plain_model.specs.Memory.{is_covered}
use Rattle.plain_model.specs.Worlds.{World}
use Rattle.plain_model.specs.Effects.{Effect}
use Rattle.plain_model.specs.Calls.{id_named, named}
use Rattle.plain_model.specs.CallRefusals.{refusal_of}
use Rattle.plain_model.specs.CallEffects.{effect_of_call, put_effect, get_effect, signal_effect, wait_effect, call_effect, serve_effect, serve_next, is_serving}
use Rattle.plain_model.specs.Instructions.{instruction, with_fetch, seen_by}
use Rattle.plain_laws.proofs.Walk.{Does, stored, holds_of_instruction}

-- an effect stores nothing, puts nothing and takes nothing
pub record IsQuiet (e : Effect) : Type 0 where
  pub stores : e.stores ≡ []
  pub output : e.output ≡ None
  pub takes : e.takes ≡ false

quiet : (e : Effect) → e.stores ≡ [] → e.output ≡ None → e.takes ≡ false → IsQuiet e
quiet e s o t = record { stores = s; output = o; takes = t }

quiet_either : (b : Bool) (e f : Effect) → IsQuiet e → IsQuiet f → IsQuiet (if b then e else f)
quiet_either true e f first second = first
quiet_either false e f first second = second

quiet_signal : (s : State) (thread : ThreadRecord) (note : ℕ) (o : Option Object) → IsQuiet (signal_effect s thread note o)
quiet_signal s thread note (Some (Notification count [])) = quiet _ refl refl refl
quiet_signal s thread note (Some (Notification count (waiter ∷ waiters))) = quiet _ refl refl refl
quiet_signal s thread note o = quiet _ refl refl refl

quiet_wait : (id : ℕ) (thread : ThreadRecord) (note : ℕ) (o : Option Object) → IsQuiet (wait_effect id thread note o)
quiet_wait id thread note (Some (Notification count waiters)) = quiet_either (count == 0) _ _ (quiet _ refl refl refl) (quiet _ refl refl refl)
quiet_wait id thread note o = quiet _ refl refl refl

quiet_call : (s : State) (id : ℕ) (thread : ThreadRecord) (connection : ℕ) (o : Option Object) → IsQuiet (call_effect s id thread connection o)
quiet_call s id thread connection (Some (Connection server client clients)) =
    quiet_either (is_serving (thread_at s server).state connection) _ _ (quiet _ refl refl refl) (quiet _ refl refl refl)
quiet_call s id thread connection o = quiet _ refl refl refl

quiet_next : (s : State) (thread : ThreadRecord) (connection server : ℕ) (client : Option ℕ) (clients : List ℕ) → IsQuiet (serve_next s thread connection server client clients)
quiet_next s thread connection server client (next ∷ clients) = quiet _ refl refl refl
quiet_next s thread connection server (Some client) [] = quiet _ refl refl refl
quiet_next s thread connection server None [] = quiet _ refl refl refl

quiet_serve : (s : State) (thread : ThreadRecord) (connection : ℕ) (o : Option Object) → IsQuiet (serve_effect s thread connection o)
quiet_serve s thread connection (Some (Connection server client clients)) = quiet_next s thread connection server client clients
quiet_serve s thread connection o = quiet _ refl refl refl

-- Something holds of each effect that the instruction of a thread can have: of those that are quiet, and of the others with what is
-- known of them.
pub record HoldsOfTraffic (P : Effect → Type 0) (w : World) (id : ℕ) (thread : ThreadRecord) : Type 0 where
  pub quiet : (e : Effect) → IsQuiet e → P e
  pub fetches : (places : List Place) (e : Effect) → P e → P (with_fetch places e)
  pub stores : (op at value : ℕ) → Does w thread (Store op at value) → is_covered (seen_by w.now thread) WRITE at (size_of op) ≡ true → P (stored w thread op at value)
  pub puts : refusal_of w id thread Put ≡ None → P (put_effect w.now thread)
  pub gets : refusal_of w id thread Get ≡ None → P (get_effect w.now thread)

of_call : (P : Effect → Type 0) (w : World) (id : ℕ) (thread : ThreadRecord) → HoldsOfTraffic P w id thread → (call : Call) → refusal_of w id thread call ≡ None → P (effect_of_call w id thread call)
unfolding effect_of_call
of_call P w id thread h Put e = h.puts e
of_call P w id thread h Get e = h.gets e
of_call P w id thread h Signal e = h.quiet _ (quiet_signal w.now thread (id_named w.now thread 0) (named w.now thread 0))
of_call P w id thread h Wait e = h.quiet _ (quiet_wait id thread (id_named w.now thread 0) (named w.now thread 0))
of_call P w id thread h ConnCall e = h.quiet _ (quiet_call w.now id thread (id_named w.now thread 0) (named w.now thread 0))
of_call P w id thread h Serve e = h.quiet _ (quiet_serve w.now thread (id_named w.now thread 0) (named w.now thread 0))
of_call P w id thread h call e = h.quiet _ (quiet _ refl refl refl)

pub of_traffic : (P : Effect → Type 0) (w : World) (id : ℕ) (thread : ThreadRecord) → HoldsOfTraffic P w id thread → P (instruction w id thread)
of_traffic P w id thread h = holds_of_instruction P w id thread (record {
  unfetched = h.quiet _ (quiet _ refl refl refl);
  fetches = λ e covered p. h.fetches _ e p;
  illegal = h.quiet _ (quiet _ refl refl refl);
  sets = λ rd value pc does. h.quiet _ (quiet _ refl refl refl);
  loads = λ op rd at does covered. h.quiet _ (quiet _ refl refl refl);
  stores = h.stores;
  stops_there = λ cause does. h.quiet _ (quiet _ refl refl refl);
  refuses = λ refusal. h.quiet _ (quiet _ refl refl refl);
  calls = λ call e none. of_call P w id thread h call none;
})
