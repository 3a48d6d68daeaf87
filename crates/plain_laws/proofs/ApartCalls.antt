-- Pages of objects: what each call and each instruction does to them.
use Rattle.std.specs.Prelude.{ℕ, ◌==◌, Bool, true, false, if◌then◌else◌, List, [], ◌∷◌, take, Option, Some, None}
use Rattle.std.proofs.Common.{refl}
use Rattle.rv_core.specs.Effect.{with_register}
use Rattle.sls_base.specs.declared.rights.TheConstants.{ALL_RIGHTS}
use Rattle.sls_base.specs.declared.causes.TheConstants.{ILLEGAL_WORD, NO_ACCESS}
use Rattle.sls_base.specs.declared.thread.Thread.{Thread as ThreadRecord}
use Rattle.plain_state.specs.declared.calls.Call.{Call}
use Rattle.plain_state.specs.declared.calls.Call.TheVariants.{Yield, Halt, Put, Get, MemNew, Map, Unmap, SpaceNew, GroupNew, CapCopy, CapDrop, ThreadNew, NoteNew, Signal, Wait, ConnNew, ConnCall, Serve, Checkpoint}
use Rattle.plain_model.specs.Objects.{Object, Connection, Notification, new_memory}
use Rattle.plain_model.specs.States.{State, with_object, thread_at}
use Rattle.plain_model.specs.Memory.{with_stores}
use Rattle.plain_model.specs.Worlds.{World, free_pages}
use Rattle.plain_model.specs.Effects.{Effect, answers, stops, goes_on}
use Rattle.plain_model.specs.Ticks.{with_changes}
use Rattle.plain_model.specs.Calls.{arg, id_named, named}
use Rattle.plain_model.specs.Refusals.{refusal_number}
use Rattle.plain_model.specs.CallRefusals.{pages_wanted}
use Rattle.plain_model.specs.CallEffects.{effect_of_call, signal_effect, wait_effect, call_effect, serve_effect, serve_next, client_done, is_serving, makes, change, with_cap, own_slots, new_id}
use Rattle.plain_model.specs.Instructions.{instruction}
use Rattle.plain_laws.proofs.Apart.{AreGood, AreBare, good_from, good_new, have_more, have_stored, have_changed, bare_append}
use Rattle.plain_laws.proofs.Walk.{loaded, stored, holds_of_instruction}

-- an effect keeps pages apart
abbrev pub Keeps : World → Effect → Type 0
Keeps w e = AreGood w.now.objects → AreGood (with_changes (with_stores w.now.objects e.stores) e.changes)

-- an effect that makes no memory object
pub keeps_bare : (w : World) (e : Effect) → AreBare e.changes → Keeps w e
keeps_bare w e bare good =
    good_from w.now.objects (with_changes (with_stores w.now.objects e.stores) e.changes)
    (have_more w.now.objects (with_stores w.now.objects e.stores) (with_changes (with_stores w.now.objects e.stores) e.changes)
    (have_stored e.stores w.now.objects) (have_changed e.changes (with_stores w.now.objects e.stores) bare))
    good

-- Calls.

pub keeps_new_memory : (w : World) (thread : ThreadRecord) (n : ℕ) → Keeps w (makes w thread (new_memory (take n (free_pages w))))
keeps_new_memory w thread n good =
    let objects = with_object w.now.objects (new_id w) (new_memory (take n (free_pages w))) in
    let more = change thread.group (with_cap (own_slots w thread) (record { object = new_id w; rights = ALL_RIGHTS })) ∷ [] in
    good_from objects (with_changes objects more) (have_changed more objects (refl, tt)) (good_new w n good)

pub bare_signal : (s : State) (thread : ThreadRecord) (note : ℕ) (o : Option Object) → AreBare (signal_effect s thread note o).changes
bare_signal s thread note (Some (Notification count [])) = (refl, tt)
bare_signal s thread note (Some (Notification count (waiter ∷ waiters))) = (refl, (refl, tt))
bare_signal s thread note o = tt

pub bare_either : (b : Bool) (e f : Effect) → AreBare e.changes → AreBare f.changes → AreBare (if b then e else f).changes
bare_either true e f h k = h
bare_either false e f h k = k

pub bare_wait : (id : ℕ) (thread : ThreadRecord) (note : ℕ) (o : Option Object) → AreBare (wait_effect id thread note o).changes
bare_wait id thread note (Some (Notification count waiters)) = bare_either (count == 0) _ _ (refl, tt) (refl, tt)
bare_wait id thread note o = tt

pub bare_call : (s : State) (id : ℕ) (thread : ThreadRecord) (connection : ℕ) (o : Option Object) → AreBare (call_effect s id thread connection o).changes
bare_call s id thread connection (Some (Connection server client clients)) =
    bare_either (is_serving (thread_at s server).state connection) _ _ (refl, (refl, tt)) (refl, tt)
bare_call s id thread connection o = tt

pub bare_done : (s : State) (thread : ThreadRecord) (client : Option ℕ) → AreBare (client_done s thread client)
bare_done s thread None = tt
bare_done s thread (Some client) = (refl, tt)

pub bare_next : (s : State) (thread : ThreadRecord) (connection server : ℕ) (client : Option ℕ) (clients : List ℕ) → AreBare (serve_next s thread connection server client clients).changes
bare_next s thread connection server client (next ∷ clients) = bare_append (client_done s thread client) _ (bare_done s thread client) (refl, (refl, tt))
bare_next s thread connection server (Some client) [] = (refl, (refl, tt))
bare_next s thread connection server None [] = tt

pub bare_serve : (s : State) (thread : ThreadRecord) (connection : ℕ) (o : Option Object) → AreBare (serve_effect s thread connection o).changes
bare_serve s thread connection (Some (Connection server client clients)) = bare_next s thread connection server client clients
bare_serve s thread connection o = tt

pub keeps_call_of : (w : World) (id : ℕ) (thread : ThreadRecord) (call : Call) → Keeps w (effect_of_call w id thread call)
unfolding effect_of_call
keeps_call_of w id thread Yield = keeps_bare w (effect_of_call w id thread Yield) tt
keeps_call_of w id thread Halt = keeps_bare w (effect_of_call w id thread Halt) tt
keeps_call_of w id thread Put = keeps_bare w (effect_of_call w id thread Put) tt
keeps_call_of w id thread Get = keeps_bare w (effect_of_call w id thread Get) tt
keeps_call_of w id thread MemNew = keeps_new_memory w thread (pages_wanted (arg thread 0))
keeps_call_of w id thread Map = keeps_bare w (effect_of_call w id thread Map) (refl, tt)
keeps_call_of w id thread Unmap = keeps_bare w (effect_of_call w id thread Unmap) (refl, tt)
keeps_call_of w id thread SpaceNew = keeps_bare w (effect_of_call w id thread SpaceNew) (refl, (refl, tt))
keeps_call_of w id thread GroupNew = keeps_bare w (effect_of_call w id thread GroupNew) (refl, (refl, tt))
keeps_call_of w id thread CapCopy = keeps_bare w (effect_of_call w id thread CapCopy) (refl, tt)
keeps_call_of w id thread CapDrop = keeps_bare w (effect_of_call w id thread CapDrop) (refl, tt)
keeps_call_of w id thread ThreadNew = keeps_bare w (effect_of_call w id thread ThreadNew) (refl, (refl, tt))
keeps_call_of w id thread NoteNew = keeps_bare w (effect_of_call w id thread NoteNew) (refl, (refl, tt))
keeps_call_of w id thread Signal = keeps_bare w (effect_of_call w id thread Signal) (bare_signal w.now thread (id_named w.now thread 0) (named w.now thread 0))
keeps_call_of w id thread Wait = keeps_bare w (effect_of_call w id thread Wait) (bare_wait id thread (id_named w.now thread 0) (named w.now thread 0))
keeps_call_of w id thread ConnNew = keeps_bare w (effect_of_call w id thread ConnNew) (refl, (refl, tt))
keeps_call_of w id thread ConnCall = keeps_bare w (effect_of_call w id thread ConnCall) (bare_call w.now id thread (id_named w.now thread 0) (named w.now thread 0))
keeps_call_of w id thread Serve = keeps_bare w (effect_of_call w id thread Serve) (bare_serve w.now thread (id_named w.now thread 0) (named w.now thread 0))
keeps_call_of w id thread Checkpoint = keeps_bare w (effect_of_call w id thread Checkpoint) tt

-- Instructions.

pub keeps_instruction : (w : World) (id : ℕ) (thread : ThreadRecord) → Keeps w (instruction w id thread)
keeps_instruction w id thread = holds_of_instruction (λ e. Keeps w e) w id thread (record {
  unfetched = keeps_bare w (stops thread NO_ACCESS) tt;
  fetches = λ e covered keeps. keeps;
  illegal = keeps_bare w (stops thread ILLEGAL_WORD) tt;
  sets = λ rd value pc does. keeps_bare w (goes_on (record { pc = pc; x = with_register thread.x rd value })) tt;
  loads = λ op rd at does covered. keeps_bare w (loaded w thread op rd at) tt;
  stores = λ op at value does covered. keeps_bare w (stored w thread op at value) tt;
  stops_there = λ cause does. keeps_bare w (stops thread cause) tt;
  refuses = λ refusal. keeps_bare w (answers thread (refusal_number refusal)) tt;
  calls = λ call named free. keeps_call_of w id thread call;
})
