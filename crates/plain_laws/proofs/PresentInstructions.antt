-- Threads that stand where their states say: what each call and each instruction does to them.
use Rattle.std.specs.Prelude.{◌≡◌, ℕ, ◌||◌, not, true, false, [], take, Option, Some, None}
use Rattle.std.specs.List.{list_any}
use Rattle.std.proofs.Common.{refl, sym, ◌∙◌}
use Rattle.std.proofs.lemmas.Bool.{not-false}
use Rattle.rv_core.specs.Effect.{with_register}
use Rattle.sls_base.proofs.ListTests.{or_false}
use Rattle.sls_base.specs.declared.causes.TheConstants.{ILLEGAL_WORD, NO_ACCESS}
use Rattle.sls_base.specs.declared.thread.Thread.{Thread as ThreadRecord}
use Rattle.plain_state.specs.declared.calls.Refusal.TheVariants.{NoSlot, Taken}
use Rattle.plain_state.specs.declared.calls.Call.{Call}
use Rattle.plain_state.specs.declared.calls.Call.TheVariants.{Yield, Halt, Put, Get, MemNew, Map, Unmap, SpaceNew, GroupNew, CapCopy, CapDrop, ThreadNew, NoteNew, Signal, Wait, ConnNew, ConnCall, Serve, Checkpoint}
use Rattle.plain_state.specs.declared.objects.Kind.TheVariants.{SpaceKind, MemoryKind, GroupKind}
use Rattle.plain_model.specs.Objects.{Object, Group, Space, Connection, Notification, is_kind, new_memory, new_group}
use Rattle.plain_model.specs.Worlds.{World, free_pages}
use Rattle.plain_model.specs.Effects.{answers, stops, goes_on}
use Rattle.plain_model.specs.Calls.{arg, id_named, named, needs}
use Rattle.plain_model.specs.Refusals.{refusal_number, refusal_order}
use Rattle.plain_model.specs.CallRefusals.{is_refused_by, is_refused_besides, is_unmet, is_server, refusal_of, no_room, no_slot, pages_wanted}
use Rattle.plain_model.specs.CallEffects.{effect_of_call, put_effect, get_effect}
use Rattle.plain_model.specs.Instructions.{instruction}
use Rattle.plain_model.specs.Ticks.{Chosen}
use Rattle.plain_laws.proofs.PlacedTicks.{IsTaken}
use Rattle.plain_laws.proofs.PlacedCalls.{IsAllowed, allowed, passed_over, group_is_bare, space_is_no_thread, group_is_no_thread}
use Rattle.plain_laws.proofs.PlacedInstructions.{bare, room_for, wants}
use Rattle.plain_laws.proofs.Present.{HoldsNone}
use Rattle.plain_laws.proofs.PresentTicks.{IsReady, Stays, stays_alone}
use Rattle.plain_laws.proofs.PresentCalls.{stays_changed, stays_made, stays_new_thread}
use Rattle.plain_laws.proofs.PresentNotifications.{stays_signal, stays_wait}
use Rattle.plain_laws.proofs.PresentConnections.{stays_call, stays_serve}
use Rattle.plain_laws.proofs.Walk.{loaded, stored, holds_of_instruction}

-- Groups and spaces hold no threads.

pub slotted_holds_none : (o : Option Object) → no_slot o ≡ false → HoldsNone o
slotted_holds_none (Some (Group slots)) e = record { waiters = refl; clients = refl; served = refl; no_connection = λ server f. cc }
slotted_holds_none o e = absurd (cc)

pub space_holds_none : (o : Option Object) → is_kind SpaceKind o ≡ true → HoldsNone o
space_holds_none (Some (Space regions)) e = record { waiters = refl; clients = refl; served = refl; no_connection = λ server f. cc }
space_holds_none o e = absurd (cc)

pub group_holds_none : (o : Option Object) → is_kind GroupKind o ≡ true → HoldsNone o
group_holds_none (Some (Group slots)) e = record { waiters = refl; clients = refl; served = refl; no_connection = λ server f. cc }
group_holds_none o e = absurd (cc)

-- a call that makes an object has a slot for it in the caller's own group
pub own_holds_none : (w : World) (id : ℕ) (thread : ThreadRecord) (call : Call) → is_refused_besides w id thread call NoSlot ≡ no_room w thread NoSlot → IsAllowed w id thread call → HoldsNone (w.now.objects thread.group)
own_holds_none w id thread call slot a =
    let s = or_false (list_any (is_unmet w.now thread NoSlot) (needs thread call)) (is_refused_besides w id thread call NoSlot) a.slot in
    slotted_holds_none (w.now.objects thread.group) (sym slot ∙ s.1)

-- Calls.

-- a fourth refusal that does not hold: who serves a connection is its server
pub untaken : (w : World) (id : ℕ) (thread : ThreadRecord) (call : Call) → refusal_of w id thread call ≡ None → is_refused_by w id thread call Taken ≡ false
unfolding refusal_of
untaken w id thread call h = passed_over (is_refused_by w id thread call) refusal_order 12 Taken h refl

pub is_its_server : (w : World) (id : ℕ) (thread : ThreadRecord) → is_refused_by w id thread Serve Taken ≡ false → is_server id (named w.now thread 0) ≡ true
is_its_server w id thread h =
    not-false (is_server id (named w.now thread 0)) (or_false (list_any (is_unmet w.now thread Taken) (needs thread Serve)) (is_refused_besides w id thread Serve Taken) h).1

pub stays_call_of : (w : World) (core : ℕ) (c : Chosen) (thread : ThreadRecord) (call : Call) → IsAllowed w c.occupant.thread thread call → is_refused_by w c.occupant.thread thread call Taken ≡ false
    → IsTaken w.now core c → IsReady w.now core c → Stays w.now core c (effect_of_call w c.occupant.thread thread call)
unfolding effect_of_call
stays_call_of w core c thread Yield a u t r = stays_alone w.now core c (effect_of_call w c.occupant.thread thread Yield) refl refl tt r
stays_call_of w core c thread Halt a u t r = stays_alone w.now core c (effect_of_call w c.occupant.thread thread Halt) refl refl tt r
stays_call_of w core c thread Put a u t r = stays_alone w.now core c (put_effect w.now thread) refl refl tt r
stays_call_of w core c thread Get a u t r = stays_alone w.now core c (get_effect w.now thread) refl refl tt r
stays_call_of w core c thread MemNew a u t r =
    stays_made w core c thread (new_memory (take (pages_wanted (arg thread 0)) (free_pages w))) (bare _ refl refl refl refl)
    (room_for w c.occupant.thread thread MemNew refl refl a) (own_holds_none w c.occupant.thread thread MemNew refl a) t r
stays_call_of w core c thread Map a u t r =
    let unmet = or_false (not (is_kind SpaceKind (named w.now thread 0))) (not (is_kind MemoryKind (named w.now thread 1)) || false) (wants w c.occupant.thread thread Map a) in
    let space = not-false (is_kind SpaceKind (named w.now thread 0)) unmet.0 in
    stays_changed w.now core c thread 0 (id_named w.now thread 0) (Space _) (bare _ refl refl refl refl)
    (space_is_no_thread (named w.now thread 0) space) (space_holds_none (named w.now thread 0) space) t r
stays_call_of w core c thread Unmap a u t r =
    let unmet = or_false (not (is_kind SpaceKind (named w.now thread 0))) false (wants w c.occupant.thread thread Unmap a) in
    let space = not-false (is_kind SpaceKind (named w.now thread 0)) unmet.0 in
    stays_changed w.now core c thread 0 (id_named w.now thread 0) (Space _) (bare _ refl refl refl refl)
    (space_is_no_thread (named w.now thread 0) space) (space_holds_none (named w.now thread 0) space) t r
stays_call_of w core c thread SpaceNew a u t r =
    stays_made w core c thread (Space []) (bare _ refl refl refl refl) (room_for w c.occupant.thread thread SpaceNew refl refl a)
    (own_holds_none w c.occupant.thread thread SpaceNew refl a) t r
stays_call_of w core c thread GroupNew a u t r =
    stays_made w core c thread new_group (group_is_bare _) (room_for w c.occupant.thread thread GroupNew refl refl a)
    (own_holds_none w c.occupant.thread thread GroupNew refl a) t r
stays_call_of w core c thread CapCopy a u t r =
    let unmet = or_false (not (is_kind GroupKind (named w.now thread 1))) false (wants w c.occupant.thread thread CapCopy a) in
    let group = not-false (is_kind GroupKind (named w.now thread 1)) unmet.0 in
    stays_changed w.now core c thread _ (id_named w.now thread 1) (Group _) (group_is_bare _)
    (group_is_no_thread (named w.now thread 1) group) (group_holds_none (named w.now thread 1) group) t r
stays_call_of w core c thread CapDrop a u t r =
    let unmet = or_false (not (is_kind GroupKind (named w.now thread 0))) false (wants w c.occupant.thread thread CapDrop a) in
    let group = not-false (is_kind GroupKind (named w.now thread 0)) unmet.0 in
    stays_changed w.now core c thread 0 (id_named w.now thread 0) (Group _) (group_is_bare _)
    (group_is_no_thread (named w.now thread 0) group) (group_holds_none (named w.now thread 0) group) t r
stays_call_of w core c thread ThreadNew a u t r =
    stays_new_thread w core c thread (room_for w c.occupant.thread thread ThreadNew refl refl a) (own_holds_none w c.occupant.thread thread ThreadNew refl a) t r
stays_call_of w core c thread NoteNew a u t r =
    stays_made w core c thread (Notification 0 []) (bare _ refl refl refl refl) (room_for w c.occupant.thread thread NoteNew refl refl a)
    (own_holds_none w c.occupant.thread thread NoteNew refl a) t r
stays_call_of w core c thread Signal a u t r = stays_signal w.now core c thread (id_named w.now thread 0) (named w.now thread 0) refl t r
stays_call_of w core c thread Wait a u t r = stays_wait w.now core c thread (id_named w.now thread 0) (named w.now thread 0) refl t r
stays_call_of w core c thread ConnNew a u t r =
    stays_made w core c thread (Connection c.occupant.thread None []) (bare _ refl refl refl refl) (room_for w c.occupant.thread thread ConnNew refl refl a)
    (own_holds_none w c.occupant.thread thread ConnNew refl a) t r
stays_call_of w core c thread ConnCall a u t r = stays_call w.now core c thread (id_named w.now thread 0) (named w.now thread 0) refl t r
stays_call_of w core c thread Serve a u t r =
    stays_serve w.now core c thread (id_named w.now thread 0) (named w.now thread 0) refl (is_its_server w c.occupant.thread thread u) t r
stays_call_of w core c thread Checkpoint a u t r = stays_alone w.now core c (effect_of_call w c.occupant.thread thread Checkpoint) refl refl tt r

-- Instructions.

pub stays_instruction : (w : World) (core : ℕ) (c : Chosen) (thread : ThreadRecord) → IsTaken w.now core c → IsReady w.now core c → Stays w.now core c (instruction w c.occupant.thread thread)
stays_instruction w core c thread t r = holds_of_instruction (λ e. Stays w.now core c e) w c.occupant.thread thread (record {
  unfetched = stays_alone w.now core c (stops thread NO_ACCESS) refl refl tt r;
  fetches = λ e covered kept. kept;
  illegal = stays_alone w.now core c (stops thread ILLEGAL_WORD) refl refl tt r;
  sets = λ rd value pc does. stays_alone w.now core c (goes_on (record { pc = pc; x = with_register thread.x rd value })) refl refl tt r;
  loads = λ op rd at does covered. stays_alone w.now core c (loaded w thread op rd at) refl refl tt r;
  stores = λ op at value does covered. stays_alone w.now core c (stored w thread op at value) refl refl tt r;
  stops_there = λ cause does. stays_alone w.now core c (stops thread cause) refl refl tt r;
  refuses = λ refusal. stays_alone w.now core c (answers thread (refusal_number refusal)) refl refl tt r;
  calls = λ call named free. stays_call_of w core c thread call (allowed w c.occupant.thread thread call free) (untaken w c.occupant.thread thread call free) t r;
})
