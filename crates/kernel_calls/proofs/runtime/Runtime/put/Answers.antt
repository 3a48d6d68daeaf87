use Rattle.std.proofs.Common.{refl, ◌≡◌, ◌<◌, ◌+◌, true, sym, ap, subst, ℕ, List, length, Some, None, arith}
use Rattle.std.specs.Prelude.{Option}
use Rattle.sls_base.specs.declared.rights.TheConstants.{READ}
use Rattle.plain_state.specs.Objects.{Object, page_of_channel, regions_of}
use Rattle.plain_state.specs.Calls.{arg}
use Rattle.plain_state.specs.CallEffects.{channel_of, effect_of_call, put_effect}
use Rattle.plain_state.specs.Ticks.{stores_to}
use Rattle.kobj_table.specs.Objects.{object_at, state_of}
use Rattle.call_readings.specs.Content.{is_page_home, Reads}
use Rattle.call_readings.specs.Kernel.{world_of}
use Rattle.call_readings.specs.Need.{page_seen, IsAtHome}
use Rattle.out_gate.specs.Entries.{with_entry}
use Rattle.kernel_calls.specs.declared.runtime.Runtime.{Runtime}
use Rattle.kernel_calls.proofs.Storing.{apart_always}
use Rattle.kernel_calls.proofs.StoredPages.{burst_stored}
use Rattle.kernel_calls.proofs.Putting.{can_put, given, left, nothing_seen, one_more_kept, place_within, put_leaves, put_obeys, put_on, ring_strays, seen_by_args, seen_length, some_ring, still_waiting, with_one_more}
use Rattle.kernel_calls.proofs.Untold.{leaves_same}
use Rattle.kernel_calls.proofs.runtime.Runtime.put.Goals as goal

-- The ring is there.

pub returns-in_default-clause-obeys : goal.returns-in_default-clause-obeys
returns-in_default-clause-obeys c input w rest devices finds unrefused =
    absurd (some_ring c.unrefused_call_meets_all.ensures.needs c.unrefused_call_meets_all.ensures.besides c.args.self.now.objects rest w c.args.me c.args.thread.now unrefused
    c.id_named-id.result (c.id_named-id.ensures rest) (c.in_default.ensures.no_output rest.content))

-- Its bytes are.

pub bytes_at-requires-clause-count : goal.bytes_at-requires-clause-count
bytes_at-requires-clause-count c =
    let may = c.requires.may.1 in
    let held = may.over.held in
    let can = can_put c.unrefused_call_meets_all.ensures.needs c.unrefused_call_meets_all.ensures.besides c.args.self.now.objects held.rest held.world c.args.me c.args.thread.now may.unrefused
    c.id_named-id.result c.in-Some.ring (c.id_named-id.ensures held.rest) c.in-Some.ensures.some (may.over.found.found.attached.rings c.id_named-id.result) in
    let most = can.most in
    let count = c.arg-length.ensures in
    omega (arith, most, count)

pub bytes_at-requires-clause-home : goal.bytes_at-requires-clause-home
bytes_at-requires-clause-home c =
    let may = c.requires.may.1 in
    let o = c.args.self.now.objects in
    let count = c.arg-length.ensures in
    subst (λ (at : ℕ). (content : ℕ → ℕ → ℕ) (k : ℕ) → k < c.arg-length.result →
    IsAtHome c.args.nvm.now (page_seen (object_at content o) (regions_of (object_at content o c.args.thread.now.space)) READ (at + k))) (sym c.arg-at.ensures)
    (λ content k below. may.pages.entry k (omega (arith, below, count)) content)

pub returns-in_default-bytes_at-clause-obeys : goal.returns-in_default-bytes_at-clause-obeys
unfolding state_of
returns-in_default-bytes_at-clause-obeys c input w rest devices finds unrefused =
    let o = c.args.self.now.objects in
    let thread = c.args.thread.now in
    let can = can_put c.unrefused_call_meets_all.ensures.needs c.unrefused_call_meets_all.ensures.besides o rest w c.args.me thread unrefused
    c.id_named-id.result c.in-Some.ring (c.id_named-id.ensures rest) c.in-Some.ensures.some (finds.found.attached.rings c.id_named-id.result) in
    absurd (nothing_seen (state_of o rest) thread can.covered
    (seen_by_args None (object_at rest.content o) (regions_of (object_at rest.content o thread.space)) READ _ _ _ _ c.arg-at.ensures c.arg-length.ensures (c.in_default-bytes_at.ensures rest.content finds.found.content)))

-- The entry has its place.

pub place-requires-clause-channel : goal.place-requires-clause-channel
place-requires-clause-channel c =
    let may = c.requires.may.1 in
    let held = may.over.held in
    (can_put c.unrefused_call_meets_all.ensures.needs c.unrefused_call_meets_all.ensures.besides c.args.self.now.objects held.rest held.world c.args.me c.args.thread.now may.unrefused
    c.id_named-id.result c.in-Some.ring (c.id_named-id.ensures held.rest) c.in-Some.ensures.some (may.over.found.found.attached.rings c.id_named-id.result)).output

pub place-requires-clause-home : goal.place-requires-clause-home
place-requires-clause-home c =
    let may = c.requires.may.1 in
    let held = may.over.held in
    let can = can_put c.unrefused_call_meets_all.ensures.needs c.unrefused_call_meets_all.ensures.besides c.args.self.now.objects held.rest held.world c.args.me c.args.thread.now may.unrefused
    c.id_named-id.result c.in-Some.ring (c.id_named-id.ensures held.rest) c.in-Some.ensures.some (may.over.found.found.attached.rings c.id_named-id.result) in
    subst (λ (object : Option Object). is_page_home c.args.nvm.now (page_of_channel (channel_of object)) ≡ true) can.named_is may.pages.ring

pub place-requires-clause-some : goal.place-requires-clause-some
place-requires-clause-some c =
    let may = c.requires.may.1 in
    let held = may.over.held in
    let o = c.args.self.now.objects in
    let thread = c.args.thread.now in
    let objects = object_at held.rest.content o in
    let regions = regions_of (objects thread.space) in
    let can = can_put c.unrefused_call_meets_all.ensures.needs c.unrefused_call_meets_all.ensures.besides o held.rest held.world c.args.me thread may.unrefused
    c.id_named-id.result c.in-Some.ring (c.id_named-id.ensures held.rest) c.in-Some.ensures.some (may.over.found.found.attached.rings c.id_named-id.result) in
    let bytes = c.in-Some-bytes_at.bytes.items in
    let seen = seen_by_args (Some bytes) objects regions READ _ _ _ _ c.arg-at.ensures c.arg-length.ensures (c.in-Some-bytes_at.ensures held.rest.content may.over.found.found.content) in
    let size = seen_length objects regions READ (arg thread 1) (arg thread 2) bytes can.covered seen in
    let some = can.some in
    let same = ap length c.as_slice.ensures.value in
    omega (arith, size, some, same)

pub overflow_add-count : goal.overflow_add-count
unfolding state_of
overflow_add-count c =
    let may = c.requires.may.1 in
    let held = may.over.held in
    let can = can_put c.unrefused_call_meets_all.ensures.needs c.unrefused_call_meets_all.ensures.besides c.args.self.now.objects held.rest held.world c.args.me c.args.thread.now may.unrefused
    c.id_named-id.result c.in-Some.ring (c.id_named-id.ensures held.rest) c.in-Some.ensures.some (may.over.found.found.attached.rings c.id_named-id.result) in
    let count = can.count in
    let more = can.more in
    let most = may.over.found.room.count c.in-Some.ring.channel in
    omega (arith, count, more, most)

-- What it comes to.

pub returns-clause-obeys : goal.returns-clause-obeys
unfolding world_of state_of effect_of_call
returns-clause-obeys c input w rest devices finds unrefused =
    let k = c.args.self.now in
    let n : Runtime = record k { objects = c.put.new.self } in
    let o = k.objects in
    let me = c.args.me in
    let thread = c.args.thread.now in
    let id = c.id_named-id.result in
    let ring = c.in-Some.ring in
    let there = c.in-Some.ensures.some in
    let objects = object_at rest.content o in
    let regions = regions_of (objects thread.space) in
    let bytes = c.in-Some-bytes_at.bytes.items in
    let new = c.place.new.nvm in
    let can = can_put c.unrefused_call_meets_all.ensures.needs c.unrefused_call_meets_all.ensures.besides o rest w me thread unrefused id ring (c.id_named-id.ensures rest) there (finds.found.attached.rings id) in
    let seen = seen_by_args (Some bytes) objects regions READ _ _ _ _ c.arg-at.ensures c.arg-length.ensures (c.in-Some-bytes_at.ensures rest.content finds.found.content) in
    let size = seen_length objects regions READ (arg thread 1) (arg thread 2) bytes can.covered seen in
    let reads : Reads (given rest ring bytes) new = subst (λ (l : List ℕ). Reads (with_entry rest.content ring.channel ring.count l) new) c.as_slice.ensures.value (c.place.ensures.content rest.content finds.found.content) in
    let stand = still_waiting c.waiting_entries_stand.ensures.put o rest w thread id ring bytes can size finds.room finds.entries in
    let may = c.requires.may.1 in
    let apart = apart_always c.stores_in_parts.ensures.apart o may.over.held.rest may.over.apart rest in (
      left rest ring bytes (given rest ring bytes),
      put_obeys c.other_pages_are_not_seen.ensures.rings k n rest w new thread id ring bytes c.answers-2.result can there c.put.ensures.puts apart may.over.held.scheduler refl seen finds.found.counted
          finds.found.attached.rings reads stand c.answers-2.ensures,
    )

pub returns-clause-words : goal.returns-clause-words
unfolding world_of state_of effect_of_call
returns-clause-words c input w rest devices finds unrefused =
    let o = c.args.self.now.objects in
    let thread = c.args.thread.now in
    let id = c.id_named-id.result in
    let ring = c.in-Some.ring in
    let can = can_put c.unrefused_call_meets_all.ensures.needs c.unrefused_call_meets_all.ensures.besides o rest w c.args.me thread unrefused id ring (c.id_named-id.ensures rest) c.in-Some.ensures.some
    (finds.found.attached.rings id) in
    let below = can.output in
    burst_stored (stores_to (state_of o rest) (put_effect (state_of o rest) thread)) (page_of_channel ring.channel) _ 8 (put_on (state_of o rest) thread ring.channel can.named_is) (omega (arith, below)) (omega arith) (place_within ring.count)
    c.args.nvm.now c.place.new.nvm c.place.ensures.stores

pub returns-clause-leaves : goal.returns-clause-leaves
unfolding state_of
returns-clause-leaves c =
    let may = c.requires.may.1 in
    let k = c.args.self.now in
    let id = c.id_named-id.result in
    let ring = c.in-Some.ring in
    let there = c.in-Some.ensures.some in
    let held = may.over.held in
    let can = can_put c.unrefused_call_meets_all.ensures.needs c.unrefused_call_meets_all.ensures.besides k.objects held.rest held.world c.args.me c.args.thread.now may.unrefused
    id ring (c.id_named-id.ensures held.rest) there (may.over.found.found.attached.rings id) in
    let count = can.count in
    let more = can.more in
    let most = may.over.found.room.count ring.channel in
    put_leaves k (record k { objects = c.put.new.self }) c.args.me id c.args.thread.now ring _ c.answers-2.result may.caller there c.put.ensures.puts
    (c.put.ensures.strays may.over.held.strays (ring_strays k.objects id ring (with_one_more ring) there may.over.held.strays))
    (ring, there, one_more_kept ring can.output (omega (arith, count, more, most)))

pub returns-in_default-clause-leaves : goal.returns-in_default-clause-leaves
returns-in_default-clause-leaves c =
    let may = c.requires.may.1 in
    leaves_same c.args.self.now c.args.me _ may.over.held.strays may.caller.free

pub returns-in_default-bytes_at-clause-leaves : goal.returns-in_default-bytes_at-clause-leaves
returns-in_default-bytes_at-clause-leaves c =
    let may = c.requires.may.1 in
    leaves_same c.args.self.now c.args.me _ may.over.held.strays may.caller.free
