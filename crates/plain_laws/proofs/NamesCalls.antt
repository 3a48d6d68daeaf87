-- What objects name is there: what each call and each instruction does to that.
use Rattle.std.specs.Prelude.{◌≡◌, ℕ, ◌+◌, ◌-◌, ◌/◌, ◌≤◌, ◌==◌, ◌||◌, not, nat_lt, Bool, true, false, if◌then◌else◌, List, [], ◌∷◌, ◌++◌, length, filter, take, All, Option, Some, None, is_none, unwrap_or, slice_set}
use Rattle.std.specs.List.{list_any}
use Rattle.std.proofs.Common.{refl, sym, ◌∙◌, inl, inr}
use Rattle.std.proofs.lemmas.Bool.{not-false, ltb-false, cases_lt}
use Rattle.std.proofs.lemmas.List.{get_or_past}
use Rattle.std.proofs.lemmas.List.Elements.{All-nil, All-cons, All-head, All-tail, All-set, All-filter, All-replicate}
use Rattle.sls_base.proofs.ListTests.{or_false}
use Rattle.sls_base.specs.declared.limits.TheConstants.{PAGE_BYTES, GROUP_SLOTS}
use Rattle.sls_base.specs.declared.rights.TheConstants.{ALL_RIGHTS, REGION_RIGHTS}
use Rattle.sls_base.specs.declared.thread.Thread.{Thread as ThreadRecord}
use Rattle.sls_base.specs.declared.thread.ThreadState.{ThreadState}
use Rattle.sls_base.specs.declared.thread.ThreadState.TheVariants.{Ready, Waiting, Calling, Served}
use Rattle.plain_state.specs.declared.objects.Capability.{Capability}
use Rattle.plain_state.specs.declared.objects.Region.{Region}
use Rattle.plain_state.specs.declared.objects.Kind.TheVariants.{GroupKind, SpaceKind, MemoryKind, ConnectionKind}
use Rattle.plain_state.specs.declared.calls.TheConstants.{ANSWER}
use Rattle.plain_state.specs.declared.calls.Refusal.TheVariants.{NoCap, BadSize, NoSlot, NoObjects}
use Rattle.plain_state.specs.declared.calls.Call.{Call}
use Rattle.plain_state.specs.declared.calls.Call.TheVariants.{Yield, Halt, Put, Get, MemNew, Map, Unmap, SpaceNew, GroupNew, CapCopy, CapDrop, ThreadNew, NoteNew, Signal, Wait, ConnNew, ConnCall, Serve, Checkpoint}
use Rattle.plain_model.specs.Objects.{Object, Group, Thread, Space, Connection, Notification, slots_of, regions_of, pages_of, is_kind, is_thread, inserted, new_memory, new_group, empty_slots}
use Rattle.plain_model.specs.States.{State, thread_at, with_object}
use Rattle.plain_model.specs.Worlds.{World, free_objects, free_pages}
use Rattle.plain_model.specs.Effects.{waits}
use Rattle.plain_model.specs.Calls.{arg, cap_in, cap_named, object_of_cap, id_named, named, free_slot, needs}
use Rattle.plain_model.specs.Refusals.{refusal_order}
use Rattle.plain_model.specs.CallRefusals.{is_refused_by, is_refused_besides, is_unmet, is_bad_part, refusal_of, no_slot, pages_wanted}
use Rattle.plain_model.specs.CallEffects.{change, answers_with, handed, new_id, own_slots, with_cap, makes, get_effect, new_region, map_effect, unmap_effect, new_cap, copy_effect, drop_effect, new_thread, thread_effect, signal_effect, wait_effect, is_serving, call_effect, serve_next, serve_effect, effect_of_call}
use Rattle.plain_model.specs.Instructions.{instruction}
use Rattle.plain_laws.specs.Places.{state_of, StandsIn, IsPlaced}
use Rattle.plain_laws.specs.Sound.{NamesObject, NamesPages, NamesWhatIs, NameWhatIs}
use Rattle.plain_laws.proofs.PlacedObjects.{with_objects, there_now}
use Rattle.plain_laws.proofs.PlacedCalls.{passed_over, IsAllowed, allowed, HasRoom}
use Rattle.plain_laws.proofs.PlacedNotifications.{altered, first_is_there}
use Rattle.plain_laws.proofs.PlacedInstructions.{room_for, wants}
use Rattle.plain_laws.proofs.Names.{lasts_new, lasts_group, lasts_space, lasts_connection, lasts_notification, names_kept, follows_itself, follows_on, follows_one, follows_changes, IsFit, AreFit, fit_thread, thread_names, Sound, sound_stores, sound_changes}
use Rattle.plain_laws.proofs.Walk.{stored, holds_of_instruction}

-- Capabilities and regions of a group and a space.

pub slots_names : (s : State) (o : Option Object) → NamesWhatIs s o → All (NamesObject s) (slots_of o)
slots_names s (Some (Group slots)) h = h
slots_names s o h = All-nil (NamesObject s)

pub regions_names : (s : State) (o : Option Object) → NamesWhatIs s o → All (NamesPages s) (regions_of o)
regions_names s (Some (Space regions)) h = h
regions_names s o h = All-nil (NamesPages s)

pub slot_names : (s : State) (slots : List (Option Capability)) → All (NamesObject s) slots → (k : ℕ) → NamesObject s (cap_in slots k)
slot_names s slots h k = elim (cases_lt k (length slots)) [
  | inl l ↦ h k None l
  | inr l ↦ rw (get_or_past slots k None l) tt
]

pub inserted_either : (s : State) (region r : Region) (regions : List Region) (b : Bool) → NamesPages s region → NamesPages s r → All (NamesPages s) regions → All (NamesPages s) (inserted region regions)
    → All (NamesPages s) (if b then region ∷ r ∷ regions else r ∷ inserted region regions)
inserted_either s region r regions true here first rest longer = All-cons (NamesPages s) region (r ∷ regions) here (All-cons (NamesPages s) r regions first rest)
inserted_either s region r regions false here first rest longer = All-cons (NamesPages s) r (inserted region regions) first longer

pub inserted_names : (s : State) (region : Region) (regions : List Region) → NamesPages s region → All (NamesPages s) regions → All (NamesPages s) (inserted region regions)
inserted_names s region [] here h = All-cons (NamesPages s) region [] here h
inserted_names s region (r ∷ regions) here h =
    let first = All-head (NamesPages s) r regions h in
    let rest = All-tail (NamesPages s) r regions h in
    inserted_either s region r regions (nat_lt region.base r.base) here first rest (inserted_names s region regions here rest)

-- Changes that fit.

pub fit_group : (s : State) (id : ℕ) (slots : List (Option Capability)) → is_kind GroupKind (s.objects id) ≡ true → All (NamesObject s) slots → IsFit s (change id (Group slots))
fit_group s id slots is names t f = (lasts_group (t.objects id) slots ((f.last id).group is), names_kept s t f.last (Some (Group slots)) names)

pub fit_space : (s : State) (id : ℕ) (regions : List Region) → is_kind SpaceKind (s.objects id) ≡ true → All (NamesPages s) regions → IsFit s (change id (Space regions))
fit_space s id regions is names t f = (lasts_space (t.objects id) regions ((f.last id).space is), names_kept s t f.last (Some (Space regions)) names)

pub fit_connection : (s : State) (id server : ℕ) (client : Option ℕ) (clients : List ℕ) → is_kind ConnectionKind (s.objects id) ≡ true → is_thread (s.objects server) ≡ true
    → IsFit s (change id (Connection server client clients))
fit_connection s id server client clients is names t f =
    (lasts_connection (t.objects id) server client clients ((f.last id).connection is), names_kept s t f.last (Some (Connection server client clients)) names)

-- a thread in another state and with other registers
pub fit_altered : (s : State) (id : ℕ) (state : ThreadState) (x : List ℕ) → is_thread (s.objects id) ≡ true → NameWhatIs s → IsFit s (change id (Thread (altered (thread_at s id) state x)))
fit_altered s id state x is h = fit_thread s id (altered (thread_at s id) state x) is (thread_names s (s.objects id) is (h id))

pub is_thread_there : (o : Option Object) (place : ThreadState) → state_of o ≡ Some place → is_thread o ≡ true
is_thread_there (Some (Thread thread)) place e = refl
is_thread_there o place e = absurd (cc)

-- one object changes
pub sound_fit : (s : State) (thread : ThreadRecord) (answer id : ℕ) (object : Object) → IsFit s (change id object) → NameWhatIs s → Sound s (answers_with thread answer (change id object ∷ []))
sound_fit s thread answer id object fit h = sound_changes s (answers_with thread answer (change id object ∷ [])) refl (fit, tt) h

-- Calls that make an object.

pub slot_of_group : (o : Option Object) → no_slot o ≡ false → is_kind GroupKind o ≡ true
slot_of_group (Some (Group slots)) e = refl
slot_of_group o e = absurd (cc)

pub sound_made : (w : World) (thread : ThreadRecord) (object : Object) → HasRoom w thread → is_kind GroupKind (w.now.objects thread.group) ≡ true → NamesWhatIs w.now (Some object) → NameWhatIs w.now
    → Sound w.now (makes w thread object)
sound_made w thread object room group names h =
    let s = w.now in
    let id = new_id w in
    let t = with_objects s (with_object s.objects id object) in
    let first = follows_one s id object (lasts_new (s.objects id) object room.free) names h in
    let cap : Capability = record { object = id; rights = ALL_RIGHTS } in
    let here : NamesObject t (Some cap) = λ none. (let e : Some object ≡ None = sym (there_now s.objects id object) ∙ none in absurd (cc)) in
    let old : All (NamesObject t) (own_slots w thread) = slots_names t (s.objects thread.group) (names_kept s t first.last (s.objects thread.group) (h thread.group)) in
    let slots = slice_set (own_slots w thread) (unwrap_or (free_slot (own_slots w thread)) 0) (Some cap) in
    let all : All (NamesObject t) slots = All-set (NamesObject t) (own_slots w thread) (unwrap_or (free_slot (own_slots w thread)) 0) (Some cap) here old in
    let second = follows_one t thread.group (Group slots) (lasts_group (t.objects thread.group) slots ((first.last thread.group).group group)) all first.names in
    follows_on s t (with_objects t (with_object t.objects thread.group (Group slots))) first second

-- Signal and wait.

pub sound_signal : (s : State) (thread : ThreadRecord) (note : ℕ) (o : Option Object) → s.objects note ≡ o → IsPlaced s → NameWhatIs s → Sound s (signal_effect s thread note o)
sound_signal s thread note (Some (Notification count [])) e p h =
    follows_one s note (Notification (count + 1) []) (lasts_notification (s.objects note) (count + 1) count [] [] e) tt h
sound_signal s thread note (Some (Notification count (waiter ∷ waiters))) e p h =
    let stood : StandsIn s waiter (Waiting note) = rw e (first_is_there waiter waiters) in
    let is = is_thread_there (s.objects waiter) (Waiting note) (p.does (Waiting note) waiter stood) in
    let t = with_objects s (with_object s.objects note (Notification count waiters)) in
    let first = follows_one s note (Notification count waiters) (lasts_notification (s.objects note) count count waiters (waiter ∷ waiters) e) tt h in
    let x = slice_set (thread_at s waiter).x ANSWER 0 in
    follows_changes (change waiter (Thread (altered (thread_at s waiter) Ready x)) ∷ []) s t first (fit_altered s waiter Ready x is h, tt)
sound_signal s thread note o e p h = follows_itself s h

pub sound_wait_if : (s : State) (id : ℕ) (thread : ThreadRecord) (note count : ℕ) (waiters : List ℕ) (b : Bool) → s.objects note ≡ Some (Notification count waiters) → NameWhatIs s
    → Sound s (if b then record (waits thread (Waiting note)) { changes = change note (Notification 0 (waiters ++ id ∷ [])) ∷ [] } else answers_with thread 0 (change note (Notification (count - 1) waiters) ∷ []))
sound_wait_if s id thread note count waiters true e h =
    follows_one s note (Notification 0 (waiters ++ id ∷ [])) (lasts_notification (s.objects note) 0 count (waiters ++ id ∷ []) waiters e) tt h
sound_wait_if s id thread note count waiters false e h =
    follows_one s note (Notification (count - 1) waiters) (lasts_notification (s.objects note) (count - 1) count waiters waiters e) tt h

pub sound_wait : (s : State) (id : ℕ) (thread : ThreadRecord) (note : ℕ) (o : Option Object) → s.objects note ≡ o → NameWhatIs s → Sound s (wait_effect id thread note o)
sound_wait s id thread note (Some (Notification count waiters)) e h = sound_wait_if s id thread note count waiters (count == 0) e h
sound_wait s id thread note o e h = follows_itself s h

-- Call and serve.

pub server_is_thread : (s : State) (connection server : ℕ) (client : Option ℕ) (clients : List ℕ) → s.objects connection ≡ Some (Connection server client clients) → NameWhatIs s → is_thread (s.objects server) ≡ true
server_is_thread s connection server client clients e h = rw e at (h connection)

pub is_connection : (s : State) (connection server : ℕ) (client : Option ℕ) (clients : List ℕ) → s.objects connection ≡ Some (Connection server client clients) → is_kind ConnectionKind (s.objects connection) ≡ true
is_connection s connection server client clients e = rw e refl

pub sound_call_if : (s : State) (id : ℕ) (thread : ThreadRecord) (connection server : ℕ) (client : Option ℕ) (clients : List ℕ) (b : Bool) → is_serving (thread_at s server).state connection ≡ b
    → s.objects connection ≡ Some (Connection server client clients) → NameWhatIs s → Sound s (call_effect s id thread connection (Some (Connection server client clients)))
sound_call_if s id thread connection server client clients true b e h =
    let is = server_is_thread s connection server client clients e h in
    let kind = is_connection s connection server client clients e in
    let x = handed (thread_at s server).x (arg thread 1) (arg thread 2) in
    rw b (follows_changes (change connection (Connection server (Some id) clients) ∷ change server (Thread (altered (thread_at s server) Ready x)) ∷ []) s s (follows_itself s h)
    (fit_connection s connection server (Some id) clients kind is, (fit_altered s server Ready x is h, tt)))
sound_call_if s id thread connection server client clients false b e h =
    let is = server_is_thread s connection server client clients e h in
    let kind = is_connection s connection server client clients e in
    rw b (follows_changes (change connection (Connection server client (clients ++ id ∷ [])) ∷ []) s s (follows_itself s h) (fit_connection s connection server client (clients ++ id ∷ []) kind is, tt))

pub sound_call : (s : State) (id : ℕ) (thread : ThreadRecord) (connection : ℕ) (o : Option Object) → s.objects connection ≡ o → NameWhatIs s → Sound s (call_effect s id thread connection o)
sound_call s id thread connection (Some (Connection server client clients)) e h =
    sound_call_if s id thread connection server client clients (is_serving (thread_at s server).state connection) refl e h
sound_call s id thread connection o e h = follows_itself s h

pub stands_is_thread : (s : State) (id : ℕ) (place : ThreadState) → StandsIn s id place → IsPlaced s → is_thread (s.objects id) ≡ true
stands_is_thread s id place stood p = is_thread_there (s.objects id) place (p.does place id stood)

pub fit_done : (s : State) (thread : ThreadRecord) (client : ℕ) → is_thread (s.objects client) ≡ true → NameWhatIs s
    → IsFit s (change client (Thread (altered (thread_at s client) Ready (handed (thread_at s client).x (arg thread 1) (arg thread 2)))))
fit_done s thread client is h = fit_altered s client Ready (handed (thread_at s client).x (arg thread 1) (arg thread 2)) is h

pub fit_next : (s : State) (connection server next : ℕ) (client : Option ℕ) (rest : List ℕ) → s.objects connection ≡ Some (Connection server client (next ∷ rest)) → IsPlaced s → NameWhatIs s
    → AreFit s (change connection (Connection server (Some next) rest) ∷ change next (Thread (altered (thread_at s next) (Served connection) (thread_at s next).x)) ∷ [])
fit_next s connection server next client rest e p h =
    let stood : StandsIn s next (Calling connection) = rw e (first_is_there next rest) in
    let is = stands_is_thread s next (Calling connection) stood p in (
      fit_connection s connection server (Some next) rest (is_connection s connection server client (next ∷ rest) e) (server_is_thread s connection server client (next ∷ rest) e h),
      (fit_altered s next (Served connection) (thread_at s next).x is h, tt),
    )

pub client_is_thread : (s : State) (connection server client : ℕ) (clients : List ℕ) → s.objects connection ≡ Some (Connection server (Some client) clients) → IsPlaced s → is_thread (s.objects client) ≡ true
client_is_thread s connection server client clients e p =
    let stood : StandsIn s client (Served connection) = rw e (first_is_there client []) in
    stands_is_thread s client (Served connection) stood p

pub sound_serve_next : (s : State) (thread : ThreadRecord) (connection server : ℕ) (client : Option ℕ) (clients : List ℕ) → s.objects connection ≡ Some (Connection server client clients) → IsPlaced s → NameWhatIs s
    → Sound s (serve_next s thread connection server client clients)
sound_serve_next s thread connection server None (next ∷ rest) e p h =
    sound_changes s (serve_next s thread connection server None (next ∷ rest)) refl (fit_next s connection server next None rest e p h) h
sound_serve_next s thread connection server (Some client) (next ∷ rest) e p h =
    sound_changes s (serve_next s thread connection server (Some client) (next ∷ rest)) refl
    (fit_done s thread client (client_is_thread s connection server client (next ∷ rest) e p) h, fit_next s connection server next (Some client) rest e p h) h
sound_serve_next s thread connection server (Some client) [] e p h =
    sound_changes s (serve_next s thread connection server (Some client) []) refl (
      fit_done s thread client (client_is_thread s connection server client [] e p) h,
      (fit_connection s connection server None [] (is_connection s connection server (Some client) [] e) (server_is_thread s connection server (Some client) [] e h), tt),
    ) h
sound_serve_next s thread connection server None [] e p h = follows_itself s h

pub sound_serve : (s : State) (thread : ThreadRecord) (connection : ℕ) (o : Option Object) → s.objects connection ≡ o → IsPlaced s → NameWhatIs s → Sound s (serve_effect s thread connection o)
sound_serve s thread connection (Some (Connection server client clients)) e p h = sound_serve_next s thread connection server client clients e p h
sound_serve s thread connection o e p h = follows_itself s h

-- Why a call that isn't refused names what is there.

-- refusals that do not hold
pub record IsGranted (w : World) (id : ℕ) (thread : ThreadRecord) (call : Call) : Type 0 where
  pub is_allowed : IsAllowed w id thread call
  pub cap : is_refused_by w id thread call NoCap ≡ false
  pub size : is_refused_by w id thread call BadSize ≡ false

pub granted : (w : World) (id : ℕ) (thread : ThreadRecord) (call : Call) → refusal_of w id thread call ≡ None → IsGranted w id thread call
unfolding refusal_of
granted w id thread call h = record {
  is_allowed = allowed w id thread call h;
  cap = passed_over (is_refused_by w id thread call) refusal_order 0 NoCap h refl;
  size = passed_over (is_refused_by w id thread call) refusal_order 4 BadSize h refl;
}

-- the caller's group has a slot
pub group_for : (w : World) (id : ℕ) (thread : ThreadRecord) (call : Call) → is_refused_besides w id thread call NoSlot ≡ no_slot (w.now.objects thread.group) → IsAllowed w id thread call
    → is_kind GroupKind (w.now.objects thread.group) ≡ true
group_for w id thread call slot a =
    let s = or_false (list_any (is_unmet w.now thread NoSlot) (needs thread call)) (is_refused_besides w id thread call NoSlot) a.slot in
    slot_of_group (w.now.objects thread.group) (sym slot ∙ s.1)

pub sound_make : (w : World) (id : ℕ) (thread : ThreadRecord) (call : Call) (object : Object) → is_refused_besides w id thread call NoSlot ≡ no_slot (w.now.objects thread.group)
    → is_refused_besides w id thread call NoObjects ≡ (length (free_objects w) == 0) → IsAllowed w id thread call → NamesWhatIs w.now (Some object) → NameWhatIs w.now → Sound w.now (makes w thread object)
sound_make w id thread call object slot number a names h = sound_made w thread object (room_for w id thread call slot number a) (group_for w id thread call slot a) names h

pub is_wanted : (a rest : Bool) → (not a || rest) ≡ false → (a ≡ true) × (rest ≡ false)
is_wanted a rest e = let r = or_false (not a) rest e in (not-false a r.0, r.1)

pub named_slot : (s : State) (thread : ThreadRecord) (i : ℕ) → NameWhatIs s → NamesObject s (cap_named s thread i)
named_slot s thread i h = slot_names s (slots_of (s.objects thread.group)) (slots_names s (s.objects thread.group) (h thread.group)) (arg thread i)

pub there_named : (s : State) (cap : Option Capability) (rights : ℕ) → is_none cap ≡ false → NamesObject s cap → NamesObject s (Some (record { object = object_of_cap cap; rights = rights }))
there_named s None rights e h = absurd (cc)
there_named s (Some cap) rights e h = h

pub part_is_there : (pages first count rights : ℕ) → is_bad_part pages first count rights ≡ false → first + count ≤ pages
part_is_there pages first count rights e =
    let a = or_false (count == 0) (nat_lt pages (first + count) || ((rights == 0) || nat_lt REGION_RIGHTS rights)) e in
    let b = or_false (nat_lt pages (first + count)) ((rights == 0) || nat_lt REGION_RIGHTS rights) a.1 in
    ltb-false pages (first + count) b.0

pub sound_map : (w : World) (id : ℕ) (thread : ThreadRecord) → IsGranted w id thread Map → NameWhatIs w.now → Sound w.now (map_effect w.now thread)
sound_map w id thread g h =
    let s = w.now in
    let first = is_wanted (is_kind SpaceKind (named s thread 0)) (not (is_kind MemoryKind (named s thread 1)) || false) (wants w id thread Map g.is_allowed) in
    let second = is_wanted (is_kind MemoryKind (named s thread 1)) false first.1 in
    let size = or_false (list_any (is_unmet s thread BadSize) (needs thread Map)) (is_refused_besides w id thread Map BadSize) g.size in
    let part = part_is_there (length (pages_of (named s thread 1))) (arg thread 3) (arg thread 4) (arg thread 5) size.1 in
    let all = inserted_names s (new_region s thread) (regions_of (named s thread 0)) (second.0, part) (regions_names s (named s thread 0) (h (id_named s thread 0))) in
    sound_fit s thread 0 (id_named s thread 0) (Space (inserted (new_region s thread) (regions_of (named s thread 0))))
    (fit_space s (id_named s thread 0) (inserted (new_region s thread) (regions_of (named s thread 0))) first.0 all) h

pub sound_unmap : (w : World) (id : ℕ) (thread : ThreadRecord) → IsGranted w id thread Unmap → NameWhatIs w.now → Sound w.now (unmap_effect w.now thread)
sound_unmap w id thread g h =
    let s = w.now in
    let first = is_wanted (is_kind SpaceKind (named s thread 0)) false (wants w id thread Unmap g.is_allowed) in
    let left = filter (λ region. not (region.base == arg thread 1 / PAGE_BYTES)) (regions_of (named s thread 0)) in
    let all = All-filter (λ region. not (region.base == arg thread 1 / PAGE_BYTES)) (NamesPages s) (regions_of (named s thread 0)) (regions_names s (named s thread 0) (h (id_named s thread 0))) in
    sound_fit s thread 0 (id_named s thread 0) (Space left) (fit_space s (id_named s thread 0) left first.0 all) h

pub sound_copy : (w : World) (id : ℕ) (thread : ThreadRecord) → IsGranted w id thread CapCopy → NameWhatIs w.now → Sound w.now (copy_effect w.now thread)
sound_copy w id thread g h =
    let s = w.now in
    let kind = is_wanted (is_kind GroupKind (named s thread 1)) false (wants w id thread CapCopy g.is_allowed) in
    let unmet = or_false (list_any (is_unmet s thread NoCap) (needs thread CapCopy)) (is_refused_besides w id thread CapCopy NoCap) g.cap in
    let some = or_false (is_none (cap_named s thread 0)) (is_none (cap_named s thread 0) || (is_none (cap_named s thread 1) || false)) unmet.0 in
    let here = there_named s (cap_named s thread 0) (arg thread 2) some.0 (named_slot s thread 0 h) in
    let slots = slots_of (named s thread 1) in
    let at = unwrap_or (free_slot slots) 0 in
    let all = All-set (NamesObject s) slots at (Some (new_cap s thread)) here (slots_names s (named s thread 1) (h (id_named s thread 1))) in
    sound_fit s thread at (id_named s thread 1) (with_cap slots (new_cap s thread)) (fit_group s (id_named s thread 1) (slice_set slots at (Some (new_cap s thread))) kind.0 all) h

pub sound_drop : (w : World) (id : ℕ) (thread : ThreadRecord) → IsGranted w id thread CapDrop → NameWhatIs w.now → Sound w.now (drop_effect w.now thread)
sound_drop w id thread g h =
    let s = w.now in
    let kind = is_wanted (is_kind GroupKind (named s thread 0)) false (wants w id thread CapDrop g.is_allowed) in
    let slots = slots_of (named s thread 0) in
    let all = All-set (NamesObject s) slots (arg thread 1) None tt (slots_names s (named s thread 0) (h (id_named s thread 0))) in
    sound_fit s thread 0 (id_named s thread 0) (Group (slice_set slots (arg thread 1) None)) (fit_group s (id_named s thread 0) (slice_set slots (arg thread 1) None) kind.0 all) h

pub sound_new_thread : (w : World) (id : ℕ) (thread : ThreadRecord) → IsGranted w id thread ThreadNew → NameWhatIs w.now → Sound w.now (thread_effect w thread)
sound_new_thread w id thread g h =
    let s = w.now in
    let first = is_wanted (is_kind GroupKind (named s thread 0)) (not (is_kind SpaceKind (named s thread 1)) || false) (wants w id thread ThreadNew g.is_allowed) in
    let second = is_wanted (is_kind SpaceKind (named s thread 1)) false first.1 in
    sound_make w id thread ThreadNew (Thread (new_thread s thread)) refl refl g.is_allowed (first.0, second.0) h

pub new_group_names : (s : State) → NamesWhatIs s (Some new_group)
unfolding empty_slots
new_group_names s = All-replicate (NamesObject s) GROUP_SLOTS None tt

pub sound_call_of : (w : World) (id : ℕ) (thread : ThreadRecord) (call : Call) → is_thread (w.now.objects id) ≡ true → IsGranted w id thread call → IsPlaced w.now → NameWhatIs w.now
    → Sound w.now (effect_of_call w id thread call)
unfolding effect_of_call
sound_call_of w id thread Yield is g p h = follows_itself w.now h
sound_call_of w id thread Halt is g p h = follows_itself w.now h
sound_call_of w id thread Put is g p h = follows_itself w.now h
sound_call_of w id thread Get is g p h = sound_stores w.now (get_effect w.now thread) refl h
sound_call_of w id thread MemNew is g p h = sound_make w id thread MemNew (new_memory (take (pages_wanted (arg thread 0)) (free_pages w))) refl refl g.is_allowed tt h
sound_call_of w id thread Map is g p h = sound_map w id thread g h
sound_call_of w id thread Unmap is g p h = sound_unmap w id thread g h
sound_call_of w id thread SpaceNew is g p h = sound_make w id thread SpaceNew (Space []) refl refl g.is_allowed (All-nil (NamesPages w.now)) h
sound_call_of w id thread GroupNew is g p h = sound_make w id thread GroupNew new_group refl refl g.is_allowed (new_group_names w.now) h
sound_call_of w id thread CapCopy is g p h = sound_copy w id thread g h
sound_call_of w id thread CapDrop is g p h = sound_drop w id thread g h
sound_call_of w id thread ThreadNew is g p h = sound_new_thread w id thread g h
sound_call_of w id thread NoteNew is g p h = sound_make w id thread NoteNew (Notification 0 []) refl refl g.is_allowed tt h
sound_call_of w id thread Signal is g p h = sound_signal w.now thread (id_named w.now thread 0) (named w.now thread 0) refl p h
sound_call_of w id thread Wait is g p h = sound_wait w.now id thread (id_named w.now thread 0) (named w.now thread 0) refl h
sound_call_of w id thread ConnNew is g p h = sound_make w id thread ConnNew (Connection id None []) refl refl g.is_allowed is h
sound_call_of w id thread ConnCall is g p h = sound_call w.now id thread (id_named w.now thread 0) (named w.now thread 0) refl h
sound_call_of w id thread Serve is g p h = sound_serve w.now thread (id_named w.now thread 0) (named w.now thread 0) refl p h
sound_call_of w id thread Checkpoint is g p h = follows_itself w.now h

-- Instructions.

pub sound_instruction : (w : World) (id : ℕ) (thread : ThreadRecord) → is_thread (w.now.objects id) ≡ true → IsPlaced w.now → NameWhatIs w.now → Sound w.now (instruction w id thread)
sound_instruction w id thread is p h = holds_of_instruction (λ e. Sound w.now e) w id thread (record {
  unfetched = follows_itself w.now h;
  fetches = λ e covered sound. sound;
  illegal = follows_itself w.now h;
  sets = λ rd value pc does. follows_itself w.now h;
  loads = λ op rd at does covered. follows_itself w.now h;
  stores = λ op at value does covered. sound_stores w.now (stored w thread op at value) refl h;
  stops_there = λ cause does. follows_itself w.now h;
  refuses = λ refusal. follows_itself w.now h;
  calls = λ call named free. sound_call_of w id thread call is (granted w id thread call free) p h;
})
