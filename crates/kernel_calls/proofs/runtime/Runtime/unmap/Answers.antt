use Rattle.std.proofs.Common.{◌≡◌, sym, ap, refl, true, ℕ, [], ◌∷◌}
use Rattle.std.specs.Prelude.{◌/◌, map}
use Rattle.sls_base.specs.declared.limits.TheConstants.{PAGE_BYTES}
use Rattle.kobj_table.specs.declared.slot.Slot.{Slot}
use Rattle.kobj_table.specs.Slots.{region_of, space_in}
use Rattle.kobj_table.specs.Objects.{slot_at, object_at, state_of}
use Rattle.plain_state.specs.declared.calls.Call.TheVariants.{Unmap}
use Rattle.plain_state.specs.declared.objects.Kind.TheVariants.{SpaceKind}
use Rattle.plain_state.specs.Objects.{Space, is_kind}
use Rattle.plain_state.specs.CallEffects.{effect_of_call, answers_with, change}
use Rattle.call_readings.specs.Kernel.{world_of}
use Rattle.kernel_calls.proofs.Unrefused.{met_by}
use Rattle.kernel_calls.proofs.Frames.{changed, one_put, answered}
use Rattle.kernel_calls.proofs.Spaces.{unmap_is}
use Rattle.kernel_calls.proofs.Threads.{apart}
use Rattle.kernel_calls.proofs.Kept.{rings_put}
use Rattle.kernel_calls.proofs.Untold.{keeps_same, put_kept}
use Rattle.kernel_calls.proofs.runtime.Runtime.unmap.Goals as goal

pub returns-in_default-clause-does : goal.returns-in_default-clause-does
unfolding world_of state_of
returns-in_default-clause-does c w rest h e a =
    let o = c.args.self.now.objects in
    let met = met_by c.unrefused_call_meets_all.ensures.needs (world_of o rest w) c.args.me c.args.thread.now Unmap e in
    absurd (let none = c.in_default.ensures.none rest.content in let kind : is_kind SpaceKind (object_at rest.content o c.id_named-id.result) ≡ true = rw (c.id_named-id.ensures rest) met.0.kind in cc)

pub unmap_region-requires-clause-there : goal.unmap_region-requires-clause-there
unmap_region-requires-clause-there c = rw c.in-Some.ensures.some refl

pub returns-clause-does : goal.returns-clause-does
unfolding world_of state_of effect_of_call
returns-clause-does c w rest h e a =
    let o = c.args.self.now.objects in
    let id = c.id_named-id.result in
    let thread = c.args.thread.now in
    let slot_is = c.in-Some.ensures.some in
    let n = c.unmap_region.new.self in
    let effect_is = unmap_is (state_of o rest) thread id (c.arg.result / PAGE_BYTES) (space_in (slot_at o id)).regions.items (space_in (slot_at n id)).regions.items (sym (c.id_named-id.ensures rest)) (rw slot_is refl)
    (ap (λ (a : ℕ). a / PAGE_BYTES) c.arg.ensures) c.unmap_region.ensures.regions in
    changed (answers_with thread 0 (change id (Space (map region_of (space_in (slot_at n id)).regions.items)) ∷ [])) effect_is
    (one_put rest.content o n id (Slot.Space (space_in (slot_at n id))) (Space (map region_of (space_in (slot_at n id)).regions.items)) c.unmap_region.ensures.puts refl (rw slot_is refl, tt) c.requires.held.scheduler (rw slot_is refl))
    refl (answered thread 0 0 _ [] c.answers-2.ensures refl) h (record { stores = refl; output = refl; takes = refl })

pub returns-clause-keeps : goal.returns-clause-keeps
returns-clause-keeps c = record {
  caller = c.unmap_region.ensures.puts.others c.args.me (apart c.args.self.now.objects c.args.me c.id_named-id.result (rw c.requires.caller.there refl) (rw c.in-Some.ensures.some refl));
  strays = c.unmap_region.ensures.strays c.requires.held.strays;
  free = λ left back. rw c.unmap_region.ensures.puts.links c.requires.caller.free;
  untold = put_kept c.unmap_region.ensures.puts refl tt;
  rings = rings_put c.unmap_region.ensures.puts (λ ring same. cc);
}

pub returns-in_default-clause-keeps : goal.returns-in_default-clause-keeps
returns-in_default-clause-keeps c = keeps_same c.args.self.now _ c.args.me _ refl c.requires.held.strays c.requires.caller.free
