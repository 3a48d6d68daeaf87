-- Forms of objects: the calls that aren't refused keep them.
use Rattle.std.specs.Prelude.{◌≡◌, ℕ, ◌+◌, ◌-◌, ◌*◌, ◌%◌, ◌^◌, ◌<◌, ◌≤◌, ◌==◌, ◌&&◌, ◌||◌, not, nat_lt, nat_le, Bool, true, false, if◌then◌else◌, List, [], ◌∷◌, ◌++◌, length, take, filter, All, Option, Some, None, unwrap_or, slice_get, slice_index_or, slice_set}
use Rattle.std.specs.List.{list_any}
use Rattle.std.proofs.Common.{refl, sym, ◌∙◌, arith, inl, inr}
use Rattle.std.proofs.lemmas.Bool.{cases_lt, not-false, eqb-true, eqb-false, ltb-false, leb-true, leb-false}
use Rattle.std.proofs.lemmas.List.{length-set, length-take, length-map, get_or_past}
use Rattle.std.proofs.lemmas.List.Elements.{All-nil, All-cons, All-set, All-replicate, All-filter}
use Rattle.std.proofs.lemmas.List.Kept.{AllPairs-filter}
use Rattle.std.proofs.lemmas.Nat.{and_le_l}
use Rattle.std.specs.Int.Bits.{bit_and}
use Rattle.sls_base.specs.declared.limits.TheConstants.{GROUP_SLOTS, SPACE_REGIONS, MEMORY_PAGES, PAGE_BYTES}
use Rattle.sls_base.specs.declared.rights.TheConstants.{ALL_RIGHTS, REGION_RIGHTS, GRANT}
use Rattle.sls_base.specs.declared.thread.Thread.{Thread as ThreadRecord}
use Rattle.plain_state.specs.declared.objects.Capability.{Capability}
use Rattle.plain_state.specs.declared.objects.Region.{Region}
use Rattle.plain_state.specs.declared.objects.Kind.TheVariants.{GroupKind}
use Rattle.plain_state.specs.declared.calls.Refusal.{Refusal}
use Rattle.plain_state.specs.declared.calls.Refusal.TheVariants.{WrongKind, NoRight, BadAddress, BadSize, Overlap, NoSlot, NoPages, NoRegions, Full}
use Rattle.plain_state.specs.declared.calls.Call.{Call}
use Rattle.plain_state.specs.declared.calls.Call.TheVariants.{Yield, Halt, Put, Get, MemNew, Map, Unmap, SpaceNew, GroupNew, CapCopy, CapDrop, ThreadNew, NoteNew, Signal, Wait, ConnNew, ConnCall, Serve, Checkpoint}
use Rattle.plain_model.specs.Objects.{Object, Group, Thread, Space, Connection, Notification, slots_of, regions_of, pages_of, is_kind, includes, new_memory, new_page, new_group, empty_slots, inserted}
use Rattle.plain_model.specs.States.{State, thread_at}
use Rattle.plain_model.specs.Worlds.{World, free_pages}
use Rattle.plain_model.specs.Effects.{Effect, Change}
use Rattle.plain_model.specs.Calls.{arg, cap_in, cap_named, named, id_named, rights_of_cap, free_slot, needs}
use Rattle.plain_model.specs.Refusals.{refusal_order}
use Rattle.plain_model.specs.CallRefusals.{is_unmet, is_refused_besides, is_refused_by, is_full_count, is_memory_size, is_bad_range, is_bad_part, meets, no_slot, pages_wanted, refusal_of}
use Rattle.plain_model.specs.CallEffects.{effect_of_call, makes, with_cap, new_id, new_cap, new_region, new_thread, signal_effect, wait_effect, call_effect, serve_effect, serve_next, client_done, is_serving, change}
use Rattle.plain_laws.specs.Sound.{IsSlot, IsMapped, IsBefore, HasForm, HaveForms}
use Rattle.sls_base.proofs.ListTests.{and_left, and_right, or_false}
use Rattle.plain_laws.proofs.PlacedCalls.{passed_over}
use Rattle.plain_laws.proofs.FormsRegions.{IsClear, fewer_left, pairs_none, length_inserted, all_inserted, pairs_inserted}

-- each object that a change gives has its form
abbrev pub ChangesFit : List Change → Type 0
ChangesFit [] = Unit {0}
ChangesFit (change ∷ changes) = HasForm (Some change.object) × ChangesFit changes

pub fit_both : (changes more : List Change) → ChangesFit changes → ChangesFit more → ChangesFit (changes ++ more)
fit_both [] more h k = k
fit_both (change ∷ changes) more h k = (h.0, fit_both changes more h.1 k)

-- a refusal that doesn't hold of a call that isn't refused, by its place in the order
pub not_refused : (w : World) (id : ℕ) (thread : ThreadRecord) (call : Call) (k : ℕ) (refusal : Refusal) → refusal_of w id thread call ≡ None → slice_get refusal_order k ≡ Some refusal
    → (list_any (is_unmet w.now thread refusal) (needs thread call) ≡ false) × (is_refused_besides w id thread call refusal ≡ false)
unfolding refusal_of
not_refused w id thread call k refusal h e =
    or_false (list_any (is_unmet w.now thread refusal) (needs thread call)) (is_refused_besides w id thread call refusal)
    (passed_over (is_refused_by w id thread call) refusal_order k refusal h e)

-- Groups.

pub with_cap_form : (o : Option Object) (cap : Capability) → HasForm o → cap.rights ≤ ALL_RIGHTS → no_slot o ≡ false → HasForm (Some (with_cap (slots_of o) cap))
with_cap_form (Some (Group slots)) cap h l e =
    let place = unwrap_or (free_slot slots) 0 in
    (length-set slots place (Some cap) ∙ h.0, All-set IsSlot slots place (Some cap) l h.1)
with_cap_form o cap h l e = absurd (cc)

without_cap_form : (o : Option Object) (k : ℕ) → HasForm o → is_kind GroupKind o ≡ true → HasForm (Some (Group (slice_set (slots_of o) k None)))
without_cap_form (Some (Group slots)) k h e = (length-set slots k None ∙ h.0, All-set IsSlot slots k None tt h.1)
without_cap_form o k h e = absurd (cc)

rights_of_slot : (cap : Option Capability) → IsSlot cap → rights_of_cap cap ≤ ALL_RIGHTS
rights_of_slot None h = omega arith
rights_of_slot (Some cap) h = h

rights_in : (slots : List (Option Capability)) (k : ℕ) → All IsSlot slots → rights_of_cap (cap_in slots k) ≤ ALL_RIGHTS
rights_in slots k h = elim (cases_lt k (length slots)) [
  | inl l ↦ rights_of_slot (slice_index_or slots k None) (h k None l)
  | inr l ↦ rw (get_or_past slots k None l) (omega arith)
]

slots_form : (o : Option Object) → HasForm o → All IsSlot (slots_of o)
slots_form (Some (Group slots)) h = h.1
slots_form o h = All-nil IsSlot

-- what is among rights is no greater
pub among : (had wanted : ℕ) → includes had wanted ≡ true → wanted ≤ had
among had wanted e = (let same = eqb-true (bit_and had wanted) wanted e in let l = and_le_l had wanted in omega arith)

copied_rights : (w : World) (id : ℕ) (thread : ThreadRecord) → HaveForms w.now → refusal_of w id thread CapCopy ≡ None → arg thread 2 ≤ ALL_RIGHTS
copied_rights w id thread h e =
    let had = rights_of_cap (cap_named w.now thread 0) in
    let own = rights_in (slots_of (w.now.objects thread.group)) (arg thread 0) (slots_form (w.now.objects thread.group) (h thread.group)) in
    let met = or_false (not (includes had GRANT)) (not (includes had (arg thread 2)) || (not (includes (rights_of_cap (cap_named w.now thread 1)) _) || false)) (not_refused w id thread CapCopy 2 NoRight e refl).0 in
    let next = or_false (not (includes had (arg thread 2))) (not (includes (rights_of_cap (cap_named w.now thread 1)) _) || false) met.1 in
    let l = among had (arg thread 2) (not-false (includes had (arg thread 2)) next.0) in
    omega arith

made_fit : (w : World) (thread : ThreadRecord) (object : Object) → HaveForms w.now → no_slot (w.now.objects thread.group) ≡ false → HasForm (Some object) → ChangesFit (makes w thread object).changes
made_fit w thread object h slot form =
    (form, (with_cap_form (w.now.objects thread.group) (record { object = new_id w; rights = ALL_RIGHTS }) (h thread.group) (omega arith) slot, tt))

new_group_form : HasForm (Some new_group)
unfolding empty_slots
new_group_form = (refl, All-replicate IsSlot GROUP_SLOTS None tt)

-- Memory objects.

new_memory_form : (n : ℕ) (free : List ℕ) → is_memory_size n ≡ true → nat_lt (length free) n ≡ false → HasForm (Some (new_memory (take n free)))
new_memory_form n free size enough =
    let low = leb-true 1 n (and_left (nat_le 1 n) (nat_le n MEMORY_PAGES) size) in
    let high = leb-true n MEMORY_PAGES (and_right (nat_le 1 n) (nat_le n MEMORY_PAGES) size) in
    let there = ltb-false (length free) n enough in
    let count = length-map (take n free) new_page in
    let taken = length-take n free in
    (omega arith, omega arith)

-- Spaces.

new_region_form : (s : State) (thread : ThreadRecord) → is_bad_range (arg thread 2) (arg thread 4) ≡ false
    → is_bad_part (length (pages_of (named s thread 1))) (arg thread 3) (arg thread 4) (arg thread 5) ≡ false → IsMapped (new_region s thread)
new_region_form s thread range part =
    let pages = length (pages_of (named s thread 1)) in
    let r = or_false (not (arg thread 2 % PAGE_BYTES == 0)) (nat_lt (2 ^ 32) (arg thread 2 + PAGE_BYTES * arg thread 4)) range in
    let whole = eqb-true (arg thread 2 % PAGE_BYTES) 0 (not-false (arg thread 2 % PAGE_BYTES == 0) r.0) in
    let within = ltb-false (2 ^ 32) (arg thread 2 + PAGE_BYTES * arg thread 4) r.1 in
    let a = or_false (arg thread 4 == 0) (nat_lt pages (arg thread 3 + arg thread 4) || ((arg thread 5 == 0) || nat_lt REGION_RIGHTS (arg thread 5))) part in
    let b = or_false (nat_lt pages (arg thread 3 + arg thread 4)) ((arg thread 5 == 0) || nat_lt REGION_RIGHTS (arg thread 5)) a.1 in
    let d = or_false (arg thread 5 == 0) (nat_lt REGION_RIGHTS (arg thread 5)) b.1 in
    let some = eqb-false (arg thread 4) 0 a.0 in
    let right = eqb-false (arg thread 5) 0 d.0 in
    let among = ltb-false REGION_RIGHTS (arg thread 5) d.1 in
    record { some_page = omega arith; end = omega arith; some_right = omega arith; rights = omega arith }

clear_of_one : (region r : Region) (a b : Bool) → nat_lt region.base (r.base + r.count) ≡ a → nat_lt r.base (region.base + region.count) ≡ b → (a && b) ≡ false → IsClear region r
clear_of_one region r true true e f h = absurd (cc)
clear_of_one region r true false e f h = inl (ltb-false r.base (region.base + region.count) f)
clear_of_one region r false b e f h = inr (ltb-false region.base (r.base + r.count) e)

clear_of : (region : Region) (regions : List Region) → list_any (meets region.base region.count) regions ≡ false → All (IsClear region) regions
clear_of region [] h = All-nil (IsClear region)
clear_of region (r ∷ regions) h =
    let parts = or_false (meets region.base region.count r) (list_any (meets region.base region.count) regions) h in
    All-cons (IsClear region) r regions (clear_of_one region r (nat_lt region.base (r.base + r.count)) (nat_lt r.base (region.base + region.count)) refl refl parts.0) (clear_of region regions parts.1)

pub inserted_form : (o : Option Object) (region : Region) → HasForm o → IsMapped region → list_any (meets region.base region.count) (regions_of o) ≡ false
    → nat_le SPACE_REGIONS (length (regions_of o)) ≡ false → HasForm (Some (Space (inserted region (regions_of o))))
inserted_form (Some (Space regions)) region h m apart room =
    let l = leb-false SPACE_REGIONS (length regions) room in
    let count = length_inserted region regions in
    (omega arith, all_inserted IsMapped region regions m h.1, pairs_inserted region regions m h.1 (clear_of region regions apart) h.2)
inserted_form o region h m apart room =
    (omega arith, All-cons IsMapped region [] m (All-nil IsMapped), pairs_inserted region [] m (All-nil IsMapped) (All-nil (IsClear region)) (pairs_none IsBefore))

left_form : (o : Option Object) (p : Region → Bool) → HasForm o → HasForm (Some (Space (filter p (regions_of o))))
left_form (Some (Space regions)) p h =
    let l = fewer_left p regions in
    let few = h.0 in
    (omega arith, All-filter p IsMapped regions h.1, AllPairs-filter IsBefore p regions h.2)
left_form o p h = (omega arith, All-nil IsMapped, pairs_none IsBefore)

-- Notifications.

signal_fits : (s : State) (thread : ThreadRecord) (note : ℕ) (o : Option Object) → HasForm o → is_full_count o ≡ false → ChangesFit (signal_effect s thread note o).changes
signal_fits s thread note (Some (Notification count [])) h e =
    let below : count < 2 ^ 32 = h.0 in
    let ne = eqb-false count (2 ^ 32 - 1) e in
    ((omega arith, λ some. absurd (some refl)), tt)
signal_fits s thread note (Some (Notification count (waiter ∷ waiters))) h e = ((h.0, λ some. h.1 (λ none. absurd (cc))), (tt, tt))
signal_fits s thread note o h e = tt

wait_fits_if : (id : ℕ) (thread : ThreadRecord) (note count : ℕ) (waiters : List ℕ) (b : Bool) → (count == 0) ≡ b → HasForm (Some (Notification count waiters)) → ChangesFit (wait_effect id thread note (Some (Notification count waiters))).changes
wait_fits_if id thread note count waiters true e h = rw e ((omega arith, λ some. refl), tt)
wait_fits_if id thread note count waiters false e h = rw e ((let below = h.0 in omega arith, λ some. (let none = h.1 some in omega arith)), tt)

wait_fits : (id : ℕ) (thread : ThreadRecord) (note : ℕ) (o : Option Object) → HasForm o → ChangesFit (wait_effect id thread note o).changes
wait_fits id thread note (Some (Notification count waiters)) h = wait_fits_if id thread note count waiters (count == 0) refl h
wait_fits id thread note o h = tt

-- Connections.

pub either_fits : (b : Bool) (e f : Effect) → ChangesFit e.changes → ChangesFit f.changes → ChangesFit (if b then e else f).changes
either_fits true e f first second = first
either_fits false e f first second = second

call_fits_if : (s : State) (id : ℕ) (thread : ThreadRecord) (connection server : ℕ) (client : Option ℕ) (clients : List ℕ) (b : Bool) → is_serving (thread_at s server).state connection ≡ b
    → ChangesFit (call_effect s id thread connection (Some (Connection server client clients))).changes
call_fits_if s id thread connection server client clients true e = rw e (tt, (tt, tt))
call_fits_if s id thread connection server client clients false e = rw e (tt, tt)

call_fits : (s : State) (id : ℕ) (thread : ThreadRecord) (connection : ℕ) (o : Option Object) → ChangesFit (call_effect s id thread connection o).changes
call_fits s id thread connection (Some (Connection server client clients)) =
    call_fits_if s id thread connection server client clients (is_serving (thread_at s server).state connection) refl
call_fits s id thread connection o = tt

done_fits : (s : State) (thread : ThreadRecord) (client : Option ℕ) → ChangesFit (client_done s thread client)
done_fits s thread None = tt
done_fits s thread (Some client) = (tt, tt)

serve_next_fits : (s : State) (thread : ThreadRecord) (connection server : ℕ) (client : Option ℕ) (clients : List ℕ) → ChangesFit (serve_next s thread connection server client clients).changes
serve_next_fits s thread connection server client (next ∷ clients) = fit_both (client_done s thread client) _ (done_fits s thread client) (tt, (tt, tt))
serve_next_fits s thread connection server (Some client) [] = (tt, (tt, tt))
serve_next_fits s thread connection server None [] = tt

serve_fits : (s : State) (thread : ThreadRecord) (connection : ℕ) (o : Option Object) → ChangesFit (serve_effect s thread connection o).changes
serve_fits s thread connection (Some (Connection server client clients)) = serve_next_fits s thread connection server client clients
serve_fits s thread connection o = tt

-- Each call that isn't refused.

slot_there : (w : World) (id : ℕ) (thread : ThreadRecord) (call : Call) → refusal_of w id thread call ≡ None → is_refused_besides w id thread call NoSlot ≡ no_slot (w.now.objects thread.group)
    → no_slot (w.now.objects thread.group) ≡ false
slot_there w id thread call e same = sym same ∙ (not_refused w id thread call 6 NoSlot e refl).1

pub call_fit : (w : World) (id : ℕ) (thread : ThreadRecord) (call : Call) → HaveForms w.now → refusal_of w id thread call ≡ None → ChangesFit (effect_of_call w id thread call).changes
unfolding effect_of_call
call_fit w id thread Yield h e = tt
call_fit w id thread Halt h e = tt
call_fit w id thread Put h e = tt
call_fit w id thread Get h e = tt
call_fit w id thread MemNew h e =
    made_fit w thread (new_memory (take (pages_wanted (arg thread 0)) (free_pages w))) h (slot_there w id thread MemNew e refl)
    (new_memory_form (arg thread 0) (free_pages w) (not-false (is_memory_size (arg thread 0)) (not_refused w id thread MemNew 4 BadSize e refl).1) (not_refused w id thread MemNew 8 NoPages e refl).1)
call_fit w id thread Map h e =
    let region = new_region_form w.now thread (not_refused w id thread Map 3 BadAddress e refl).1 (not_refused w id thread Map 4 BadSize e refl).1 in
    (inserted_form (named w.now thread 0) (new_region w.now thread) (h (id_named w.now thread 0)) region (not_refused w id thread Map 5 Overlap e refl).1 (not_refused w id thread Map 9 NoRegions e refl).1, tt)
call_fit w id thread Unmap h e = (left_form (named w.now thread 0) _ (h (id_named w.now thread 0)), tt)
call_fit w id thread SpaceNew h e = made_fit w thread (Space []) h (slot_there w id thread SpaceNew e refl) (omega arith, All-nil IsMapped, pairs_none IsBefore)
call_fit w id thread GroupNew h e = made_fit w thread new_group h (slot_there w id thread GroupNew e refl) new_group_form
call_fit w id thread CapCopy h e =
    (with_cap_form (named w.now thread 1) (new_cap w.now thread) (h (id_named w.now thread 1)) (copied_rights w id thread h e) (not_refused w id thread CapCopy 6 NoSlot e refl).1, tt)
call_fit w id thread CapDrop h e =
    let unmet = or_false (not (is_kind GroupKind (named w.now thread 0))) false (not_refused w id thread CapDrop 1 WrongKind e refl).0 in
    (without_cap_form (named w.now thread 0) (arg thread 1) (h (id_named w.now thread 0)) (not-false (is_kind GroupKind (named w.now thread 0)) unmet.0), tt)
call_fit w id thread ThreadNew h e = made_fit w thread (Thread (new_thread w.now thread)) h (slot_there w id thread ThreadNew e refl) tt
call_fit w id thread NoteNew h e = made_fit w thread (Notification 0 []) h (slot_there w id thread NoteNew e refl) (omega arith, λ some. refl)
call_fit w id thread Signal h e = signal_fits w.now thread (id_named w.now thread 0) (named w.now thread 0) (h (id_named w.now thread 0)) (not_refused w id thread Signal 10 Full e refl).1
call_fit w id thread Wait h e = wait_fits id thread (id_named w.now thread 0) (named w.now thread 0) (h (id_named w.now thread 0))
call_fit w id thread ConnNew h e = made_fit w thread (Connection id None []) h (slot_there w id thread ConnNew e refl) tt
call_fit w id thread ConnCall h e = call_fits w.now id thread (id_named w.now thread 0) (named w.now thread 0)
call_fit w id thread Serve h e = serve_fits w.now thread (id_named w.now thread 0) (named w.now thread 0)
call_fit w id thread Checkpoint h e = tt
