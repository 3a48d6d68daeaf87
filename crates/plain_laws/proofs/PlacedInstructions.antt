-- Places of threads: what each call and each instruction does to them.
use Rattle.std.specs.Prelude.{◌≡◌, ℕ, ◌||◌, not, false, [], take, Some, None}
use Rattle.std.specs.List.{list_any}
use Rattle.std.proofs.Common.{refl, sym, ◌∙◌}
use Rattle.std.proofs.lemmas.Bool.{not-false}
use Rattle.rv_core.specs.Effect.{with_register}
use Rattle.sls_base.proofs.ListTests.{or_false}
use Rattle.sls_base.specs.declared.causes.TheConstants.{ILLEGAL_WORD, NO_ACCESS}
use Rattle.sls_base.specs.declared.thread.Thread.{Thread as ThreadRecord}
use Rattle.plain_state.specs.declared.calls.Refusal.TheVariants.{WrongKind, NoSlot, NoObjects}
use Rattle.plain_state.specs.declared.calls.Call.{Call}
use Rattle.plain_state.specs.declared.calls.Call.TheVariants.{Yield, Halt, Put, Get, MemNew, Map, Unmap, SpaceNew, GroupNew, CapCopy, CapDrop, ThreadNew, NoteNew, Signal, Wait, ConnNew, ConnCall, Serve, Checkpoint}
use Rattle.plain_state.specs.declared.objects.Kind.TheVariants.{SpaceKind, MemoryKind, GroupKind}
use Rattle.plain_model.specs.Objects.{Object, Group, Space, Connection, Notification, is_kind, new_memory, new_group}
use Rattle.plain_model.specs.Worlds.{World, free_pages}
use Rattle.plain_model.specs.Effects.{answers, stops, goes_on}
use Rattle.plain_model.specs.Calls.{arg, id_named, named, needs}
use Rattle.plain_model.specs.Refusals.{refusal_number}
use Rattle.plain_model.specs.CallRefusals.{is_refused_besides, is_unmet, no_room, pages_wanted}
use Rattle.plain_model.specs.CallEffects.{effect_of_call, put_effect, get_effect}
use Rattle.plain_model.specs.Instructions.{instruction}
use Rattle.plain_model.specs.Ticks.{Chosen}
use Rattle.plain_laws.specs.Places.{state_of, waiters_of, clients_of, served_of}
use Rattle.plain_laws.proofs.PlacedTicks.{IsTaken, Keeps, acts_alone}
use Rattle.plain_laws.proofs.PlacedCalls.{IsAllowed, allowed, IsBare, group_is_bare, keeps_changed, keeps_made, keeps_new_thread, HasRoom, room, space_is_no_thread, group_is_no_thread}
use Rattle.plain_laws.proofs.PlacedNotifications.{keeps_signal, keeps_wait}
use Rattle.plain_laws.proofs.PlacedConnections.{keeps_call, keeps_serve}
use Rattle.plain_laws.proofs.Walk.{loaded, stored, holds_of_instruction}

-- Calls.

pub bare : (object : Object) → state_of (Some object) ≡ None → waiters_of (Some object) ≡ [] → clients_of (Some object) ≡ [] → served_of (Some object) ≡ [] → IsBare object
bare object d w c s = record { none_does = d; none_waits = w; none_calls = c; none_served = s }

pub room_for : (w : World) (id : ℕ) (thread : ThreadRecord) (call : Call) → is_refused_besides w id thread call NoSlot ≡ no_room w thread NoSlot → is_refused_besides w id thread call NoObjects ≡ no_room w thread NoObjects
    → IsAllowed w id thread call → HasRoom w thread
room_for w id thread call slot number a =
    let s = or_false (list_any (is_unmet w.now thread NoSlot) (needs thread call)) (is_refused_besides w id thread call NoSlot) a.slot in
    let n = or_false (list_any (is_unmet w.now thread NoObjects) (needs thread call)) (is_refused_besides w id thread call NoObjects) a.number in
    room w thread (sym slot ∙ s.1) (sym number ∙ n.1)

pub wants : (w : World) (id : ℕ) (thread : ThreadRecord) (call : Call) → IsAllowed w id thread call → list_any (is_unmet w.now thread WrongKind) (needs thread call) ≡ false
wants w id thread call a = (or_false (list_any (is_unmet w.now thread WrongKind) (needs thread call)) (is_refused_besides w id thread call WrongKind) a.kind).0

pub keeps_call_of : (w : World) (core : ℕ) (c : Chosen) (thread : ThreadRecord) (call : Call) → IsTaken w.now core c → IsAllowed w c.occupant.thread thread call
    → Keeps w.now core c (effect_of_call w c.occupant.thread thread call)
unfolding effect_of_call
keeps_call_of w core c thread Yield t a = acts_alone w.now core c (effect_of_call w c.occupant.thread thread Yield) refl refl t
keeps_call_of w core c thread Halt t a = acts_alone w.now core c (effect_of_call w c.occupant.thread thread Halt) refl refl t
keeps_call_of w core c thread Put t a = acts_alone w.now core c (put_effect w.now thread) refl refl t
keeps_call_of w core c thread Get t a = acts_alone w.now core c (get_effect w.now thread) refl refl t
keeps_call_of w core c thread MemNew t a =
    keeps_made w core c thread (new_memory (take (pages_wanted (arg thread 0)) (free_pages w))) (bare _ refl refl refl refl)
    (room_for w c.occupant.thread thread MemNew refl refl a) t
keeps_call_of w core c thread Map t a =
    let unmet = or_false (not (is_kind SpaceKind (named w.now thread 0))) (not (is_kind MemoryKind (named w.now thread 1)) || false) (wants w c.occupant.thread thread Map a) in
    keeps_changed w.now core c thread 0 (id_named w.now thread 0) (Space _) (bare _ refl refl refl refl)
    (space_is_no_thread (named w.now thread 0) (not-false (is_kind SpaceKind (named w.now thread 0)) unmet.0)) t
keeps_call_of w core c thread Unmap t a =
    let unmet = or_false (not (is_kind SpaceKind (named w.now thread 0))) false (wants w c.occupant.thread thread Unmap a) in
    keeps_changed w.now core c thread 0 (id_named w.now thread 0) (Space _) (bare _ refl refl refl refl)
    (space_is_no_thread (named w.now thread 0) (not-false (is_kind SpaceKind (named w.now thread 0)) unmet.0)) t
keeps_call_of w core c thread SpaceNew t a =
    keeps_made w core c thread (Space []) (bare _ refl refl refl refl) (room_for w c.occupant.thread thread SpaceNew refl refl a) t
keeps_call_of w core c thread GroupNew t a = keeps_made w core c thread new_group (group_is_bare _) (room_for w c.occupant.thread thread GroupNew refl refl a) t
keeps_call_of w core c thread CapCopy t a =
    let unmet = or_false (not (is_kind GroupKind (named w.now thread 1))) false (wants w c.occupant.thread thread CapCopy a) in
    keeps_changed w.now core c thread _ (id_named w.now thread 1) (Group _) (group_is_bare _)
    (group_is_no_thread (named w.now thread 1) (not-false (is_kind GroupKind (named w.now thread 1)) unmet.0)) t
keeps_call_of w core c thread CapDrop t a =
    let unmet = or_false (not (is_kind GroupKind (named w.now thread 0))) false (wants w c.occupant.thread thread CapDrop a) in
    keeps_changed w.now core c thread 0 (id_named w.now thread 0) (Group _) (group_is_bare _)
    (group_is_no_thread (named w.now thread 0) (not-false (is_kind GroupKind (named w.now thread 0)) unmet.0)) t
keeps_call_of w core c thread ThreadNew t a = keeps_new_thread w core c thread (room_for w c.occupant.thread thread ThreadNew refl refl a) t
keeps_call_of w core c thread NoteNew t a =
    keeps_made w core c thread (Notification 0 []) (bare _ refl refl refl refl) (room_for w c.occupant.thread thread NoteNew refl refl a) t
keeps_call_of w core c thread Signal t a = keeps_signal w.now core c thread (id_named w.now thread 0) (named w.now thread 0) refl t
keeps_call_of w core c thread Wait t a = keeps_wait w.now core c thread (id_named w.now thread 0) (named w.now thread 0) refl t
keeps_call_of w core c thread ConnNew t a =
    keeps_made w core c thread (Connection c.occupant.thread None []) (bare _ refl refl refl refl)
    (room_for w c.occupant.thread thread ConnNew refl refl a) t
keeps_call_of w core c thread ConnCall t a = keeps_call w.now core c thread (id_named w.now thread 0) (named w.now thread 0) refl t
keeps_call_of w core c thread Serve t a = keeps_serve w.now core c thread (id_named w.now thread 0) (named w.now thread 0) refl t
keeps_call_of w core c thread Checkpoint t a = acts_alone w.now core c (effect_of_call w c.occupant.thread thread Checkpoint) refl refl t

-- Instructions.

pub keeps_instruction : (w : World) (core : ℕ) (c : Chosen) (thread : ThreadRecord) → IsTaken w.now core c → Keeps w.now core c (instruction w c.occupant.thread thread)
keeps_instruction w core c thread t = holds_of_instruction (λ e. Keeps w.now core c e) w c.occupant.thread thread (record {
  unfetched = acts_alone w.now core c (stops thread NO_ACCESS) refl refl t;
  fetches = λ e covered kept. kept;
  illegal = acts_alone w.now core c (stops thread ILLEGAL_WORD) refl refl t;
  sets = λ rd value pc does. acts_alone w.now core c (goes_on (record { pc = pc; x = with_register thread.x rd value })) refl refl t;
  loads = λ op rd at does covered. acts_alone w.now core c (loaded w thread op rd at) refl refl t;
  stores = λ op at value does covered. acts_alone w.now core c (stored w thread op at value) refl refl t;
  stops_there = λ cause does. acts_alone w.now core c (stops thread cause) refl refl t;
  refuses = λ refusal. acts_alone w.now core c (answers thread (refusal_number refusal)) refl refl t;
  calls = λ call named free. keeps_call_of w core c thread call t (allowed w c.occupant.thread thread call free);
})
