use Rattle.std.proofs.Common.{◌≡◌, sym, refl, true, [], ◌∷◌, arith}
use Rattle.std.specs.Prelude.{◌/◌, map}
use Rattle.sls_base.specs.declared.limits.TheConstants.{PAGE_BYTES}
use Rattle.mem_space.specs.declared.region.Region.{Region}
use Rattle.kobj_table.specs.declared.slot.Slot.{Slot}
use Rattle.kobj_table.specs.Slots.{region_of, space_in}
use Rattle.kobj_table.specs.Objects.{slot_at, object_at, state_of}
use Rattle.plain_state.specs.declared.calls.Call.TheVariants.{Map}
use Rattle.plain_state.specs.declared.objects.Kind.TheVariants.{SpaceKind}
use Rattle.plain_state.specs.Objects.{Space, is_kind}
use Rattle.plain_state.specs.CallEffects.{effect_of_call, answers_with, change}
use Rattle.call_readings.specs.Kernel.{world_of}
use Rattle.kernel_calls.proofs.Unrefused.{met_by}
use Rattle.kernel_calls.proofs.Frames.{changed, one_put, answered}
use Rattle.kernel_calls.proofs.Spaces.{map_known, map_is, not_overlapping}
use Rattle.kernel_calls.proofs.Threads.{apart}
use Rattle.kernel_calls.proofs.Kept.{rings_put}
use Rattle.kernel_calls.proofs.Untold.{keeps_same, put_kept}
use Rattle.kernel_calls.proofs.runtime.Runtime.map.Goals as goal

pub returns-in_default-clause-does : goal.returns-in_default-clause-does
unfolding world_of state_of
returns-in_default-clause-does c w rest h e a =
    let o = c.args.self.now.objects in
    let met = met_by c.unrefused_call_meets_all.ensures.needs (world_of o rest w) c.args.me c.args.thread.now Map e in
    absurd (let none = c.in_default.ensures.none rest.content in let kind : is_kind SpaceKind (object_at rest.content o c.id_named-id.result) ≡ true = rw (c.id_named-id.ensures rest) met.0.kind in cc)

pub overflow_cast-region-2 : goal.overflow_cast-region-2
overflow_cast-region-2 c =
    let k = map_known c.unrefused_call_meets_all.ensures.needs c.unrefused_call_meets_all.ensures.besides c.args.self.now.objects c.requires.held.rest c.requires.held.world c.args.me c.id_named-id.result c.args.thread.now (space_in (slot_at c.args.self.now.objects c.id_named-id.result)) c.requires.held.sound (sym (c.id_named-id.ensures c.requires.held.rest)) (rw c.in-Some.ensures.some refl) c.requires.unrefused in
    let part = k.part.part in let pages = k.pages in omega (arith, part, pages, c.arg-2.ensures)

pub overflow_cast-region-3 : goal.overflow_cast-region-3
overflow_cast-region-3 c =
    let k = map_known c.unrefused_call_meets_all.ensures.needs c.unrefused_call_meets_all.ensures.besides c.args.self.now.objects c.requires.held.rest c.requires.held.world c.args.me c.id_named-id.result c.args.thread.now (space_in (slot_at c.args.self.now.objects c.id_named-id.result)) c.requires.held.sound (sym (c.id_named-id.ensures c.requires.held.rest)) (rw c.in-Some.ensures.some refl) c.requires.unrefused in
    let part = k.part.part in let pages = k.pages in omega (arith, part, pages, c.arg-3.ensures)

pub overflow_cast-region-4 : goal.overflow_cast-region-4
overflow_cast-region-4 c =
    let k = map_known c.unrefused_call_meets_all.ensures.needs c.unrefused_call_meets_all.ensures.besides c.args.self.now.objects c.requires.held.rest c.requires.held.world c.args.me c.id_named-id.result c.args.thread.now (space_in (slot_at c.args.self.now.objects c.id_named-id.result)) c.requires.held.sound (sym (c.id_named-id.ensures c.requires.held.rest)) (rw c.in-Some.ensures.some refl) c.requires.unrefused in
    let rights = k.part.known_rights in omega (arith, rights, c.arg-4.ensures)

pub map_region-requires-clause-there : goal.map_region-requires-clause-there
map_region-requires-clause-there c = rw c.in-Some.ensures.some refl

pub map_region-requires-clause-space : goal.map_region-requires-clause-space
map_region-requires-clause-space c =
    let k = map_known c.unrefused_call_meets_all.ensures.needs c.unrefused_call_meets_all.ensures.besides c.args.self.now.objects c.requires.held.rest c.requires.held.world c.args.me c.id_named-id.result c.args.thread.now (space_in (slot_at c.args.self.now.objects c.id_named-id.result)) c.requires.held.sound (sym (c.id_named-id.ensures c.requires.held.rest)) (rw c.in-Some.ensures.some refl) c.requires.unrefused in
    k.form

pub map_region-requires-clause-region : goal.map_region-requires-clause-region
map_region-requires-clause-region c =
    let k = map_known c.unrefused_call_meets_all.ensures.needs c.unrefused_call_meets_all.ensures.besides c.args.self.now.objects c.requires.held.rest c.requires.held.world c.args.me c.id_named-id.result c.args.thread.now (space_in (slot_at c.args.self.now.objects c.id_named-id.result)) c.requires.held.sound (sym (c.id_named-id.ensures c.requires.held.rest)) (rw c.in-Some.ensures.some refl) c.requires.unrefused in
    let part = k.part in
    let pages = k.pages in
    record {
      some_page = rw c.arg-2.ensures part.some_page;
      within_addresses = rw (c.arg.ensures, c.arg-2.ensures) part.end;
      within_memory = let p = part.part in omega (arith, p, pages, c.arg-2.ensures, c.arg-3.ensures);
      known_memory = rw (c.id_named.ensures c.requires.held.rest) k.memory;
      some_right = rw c.arg-4.ensures part.some_right;
      known_rights = rw c.arg-4.ensures part.known_rights;
    }

pub map_region-requires-clause-apart : goal.map_region-requires-clause-apart
map_region-requires-clause-apart c =
    let k = map_known c.unrefused_call_meets_all.ensures.needs c.unrefused_call_meets_all.ensures.besides c.args.self.now.objects c.requires.held.rest c.requires.held.world c.args.me c.id_named-id.result c.args.thread.now (space_in (slot_at c.args.self.now.objects c.id_named-id.result)) c.requires.held.sound (sym (c.id_named-id.ensures c.requires.held.rest)) (rw c.in-Some.ensures.some refl) c.requires.unrefused in
    not_overlapping c.region_tests.ensures.shares c.region_tests.ensures.by_ends (space_in (slot_at c.args.self.now.objects c.id_named-id.result)) _ _ k.form (rw c.arg-2.ensures k.part.some_page) (rw (c.arg.ensures, c.arg-2.ensures) k.apart)

pub map_region-requires-clause-room : goal.map_region-requires-clause-room
map_region-requires-clause-room c =
    let k = map_known c.unrefused_call_meets_all.ensures.needs c.unrefused_call_meets_all.ensures.besides c.args.self.now.objects c.requires.held.rest c.requires.held.world c.args.me c.id_named-id.result c.args.thread.now (space_in (slot_at c.args.self.now.objects c.id_named-id.result)) c.requires.held.sound (sym (c.id_named-id.ensures c.requires.held.rest)) (rw c.in-Some.ensures.some refl) c.requires.unrefused in
    k.room

pub returns-clause-does : goal.returns-clause-does
unfolding world_of state_of effect_of_call
returns-clause-does c w rest h e a =
    let o = c.args.self.now.objects in
    let id = c.id_named-id.result in
    let thread = c.args.thread.now in
    let slot_is = c.in-Some.ensures.some in
    let n = c.map_region.new.self in
    let region : Region = record { base = c.arg.result / PAGE_BYTES; count = c.arg-2.result; first = c.arg-3.result; memory = c.id_named.result; rights = c.arg-4.result } in
    let effect_is = map_is (state_of o rest) thread id region (space_in (slot_at o id)).regions.items (space_in (slot_at n id)).regions.items (sym (c.id_named-id.ensures rest)) (rw slot_is refl)
    (rw (c.arg.ensures, c.arg-2.ensures, c.arg-3.ensures, c.arg-4.ensures, c.id_named.ensures rest) refl) c.map_region.ensures.regions in
    changed (answers_with thread 0 (change id (Space (map region_of (space_in (slot_at n id)).regions.items)) ∷ [])) effect_is
    (one_put rest.content o n id (Slot.Space (space_in (slot_at n id))) (Space (map region_of (space_in (slot_at n id)).regions.items)) c.map_region.ensures.puts refl (rw slot_is refl, tt) c.requires.held.scheduler (rw slot_is refl))
    refl (answered thread 0 0 _ [] c.answers-2.ensures refl) h (record { stores = refl; output = refl; takes = refl })

pub returns-clause-keeps : goal.returns-clause-keeps
returns-clause-keeps c = record {
  caller = c.map_region.ensures.puts.others c.args.me (apart c.args.self.now.objects c.args.me c.id_named-id.result (rw c.requires.caller.there refl) (rw c.in-Some.ensures.some refl));
  strays = c.map_region.ensures.strays c.requires.held.strays;
  free = λ left back. rw c.map_region.ensures.puts.links c.requires.caller.free;
  untold = put_kept c.map_region.ensures.puts refl tt;
  rings = rings_put c.map_region.ensures.puts (λ ring same. cc);
}

pub returns-in_default-clause-keeps : goal.returns-in_default-clause-keeps
returns-in_default-clause-keeps c = keeps_same c.args.self.now _ c.args.me _ refl c.requires.held.strays c.requires.caller.free
