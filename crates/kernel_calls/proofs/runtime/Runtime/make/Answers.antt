use Rattle.std.proofs.Common.{◌≡◌, ◌≢◌, ◌∙◌, sym, ap, refl, subst, ℕ, []}
use Rattle.std.specs.Prelude.{Some, None, is_some}
use Rattle.sls_base.specs.declared.fixed.TheConstants.{SCHEDULER}
use Rattle.sls_base.specs.declared.rights.TheConstants.{ALL_RIGHTS}
use Rattle.link_lists.specs.Lists.{list_at, IsFree}
use Rattle.cap_group.specs.declared.cap.Cap.{Cap}
use Rattle.kobj_table.specs.declared.slot.Slot.{Slot}
use Rattle.kobj_table.specs.Slots.{capability_of, object_of}
use Rattle.kobj_table.specs.Objects.{slot_at, object_at, state_of}
use Rattle.plain_state.specs.Objects.{Object}
use Rattle.plain_state.specs.Worlds.{free_objects}
use Rattle.plain_state.specs.CallEffects.{with_cap, new_id}
use Rattle.call_readings.specs.Kernel.{world_of}
use Rattle.kernel_calls.specs.Kernel.{Held}
use Rattle.object_records.specs.Untold.{IsUntoldKept}
use Rattle.kernel_calls.proofs.Unrefused.{or_false}
use Rattle.kernel_calls.proofs.Objects.{put_gives, both_given}
use Rattle.kernel_calls.proofs.Frames.{not_scheduler, answered}
use Rattle.kernel_calls.proofs.Caps.{caps_of, not_full, lowest, with_cap_is}
use Rattle.kernel_calls.proofs.Places.{free_unlisted, none_listed}
use Rattle.kernel_calls.proofs.Made.{none_there, not_there, no_group, none_first, first_is}
use Rattle.kernel_calls.proofs.Threads.{apart}
use Rattle.kernel_calls.proofs.Kept.{rings_put}
use Rattle.kernel_calls.proofs.Untold.{keeps_same, put_kept, put_next}
use Rattle.kernel_calls.proofs.runtime.Runtime.make.Goals.{in_default-via-in-Some+in_default, in_default-via-in_default}
use Rattle.kernel_calls.proofs.runtime.Runtime.make.Goals as goal

pub returns-in_default-clause-makes : goal.returns-in_default-clause-makes
unfolding world_of state_of
returns-in_default-clause-makes c w rest object h slot number is held =
    let o = c.args.self.now.objects in
    elim c.in_default.branch [
      | in_default-via-in-Some+in_default b ↦ absurd (let full = no_group (object_at rest.content o c.args.thread.now.group) (b.in_default.ensures'.none rest.content) in cc)
      | in_default-via-in_default b ↦ absurd (let e = none_first (free_objects (world_of o rest w)) (sym b.in_default.is-0 ∙ c.least_free_object.ensures.least (world_of o rest w) h) in cc)
    ]

pub returns-in_default-lowest_free-clause-makes : goal.returns-in_default-lowest_free-clause-makes
unfolding world_of state_of
returns-in_default-lowest_free-clause-makes c w rest object h slot number is held =
    let slot_is = c.in-Some-Some.ensures'.some in
    absurd (not_full c.in-Some-Some.group.slots c.lowest_free.result c.lowest_free.ensures.first_free (rw slot_is at slot) c.in_default-lowest_free.is)

-- no object has the number
unused : (c : goal.After-answers-2) (held : Held c.args.self.now) → (object_at held.rest.content c.args.self.now.objects c.in-Some-Some.id ≡ None) × (slot_at c.args.self.now.objects c.in-Some-Some.id ≡ Slot.Empty)
unfolding world_of state_of
unused c held =
    let o = c.args.self.now.objects in
    let rest = held.rest in
    let id = c.in-Some-Some.id in
    let none = not_there (object_at rest.content o id) (or_false (is_some (object_at rest.content o id)) (is_some (held.world.saved.objects id)) (sym (held.counted.objects id) ∙ c.in-Some-Some.ensures.free)).0 in
    (none, none_there rest.content (slot_at o id) (list_at o.links id) none)

-- nor is it the scheduler's, or that of a group
elsewhere : (c : goal.After-answers-2) (held : Held c.args.self.now) → (SCHEDULER ≢ c.in-Some-Some.id) × (c.in-Some-Some.id ≢ c.args.thread.now.group)
elsewhere c held =
    let o = c.args.self.now.objects in
    let empty = (unused c held).1 in (
      not_scheduler o c.in-Some-Some.id held.scheduler (rw empty refl),
      λ same. let group = c.in-Some-Some.ensures'.some in let empty' : slot_at o c.args.thread.now.group ≡ Slot.Empty = ap (λ (i : ℕ). slot_at o i) (sym same) ∙ empty in cc,
    )

pub returns-clause-makes : goal.returns-clause-makes
unfolding world_of state_of
returns-clause-makes c w rest object h slot number is held =
    let o = c.args.self.now.objects in
    let id = c.in-Some-Some.id in
    let own = c.args.thread.now.group in
    let group = c.in-Some-Some.group in
    let slot_is = c.in-Some-Some.ensures'.some in
    let places = elsewhere c held in
    let empty = (unused c held).1 in
    let first : new_id (world_of o rest w) ≡ id = first_is (free_objects (world_of o rest w)) id (c.in-Some-Some.ensures.least (world_of o rest w) h) in
    let none : list_at o.links id ≡ [] = held.strays id (λ same. places.0 (sym same)) (rw empty refl) in
    let cap : Cap = record { object = id; rights = ALL_RIGHTS } in
    let puts = c.put.ensures.puts in
    let puts' = c.put-2.ensures.puts in
    let new_is : object_of rest.content c.args.slot (list_at o.links id) ≡ Some object = rw none is in
    let gives = both_given _ (object_at rest.content c.put.new.self) (object_at rest.content c.put-2.new.self) id own object _
    (put_gives rest.content o c.put.new.self id c.args.slot object puts new_is)
    (put_gives rest.content c.put.new.self c.put-2.new.self own (Slot.Group c.set.new.self) (with_cap (caps_of group.slots) (capability_of cap)) puts'
    (ap (λ (x : Object). Some x) (with_cap_is group.slots c.set.new.self.slots c.lowest_free.result c.in-Some.free cap c.lowest_free.ensures.first_free c.in-Some.is c.set.ensures.slots))) in
    record {
      objects = rw first (rw slot_is gives);
      links = puts'.links ∙ puts.links;
      scheduler = puts'.others SCHEDULER (not_scheduler o own held.scheduler (rw slot_is refl)) ∙ puts.others SCHEDULER places.0;
      unused = rw first (rw empty refl);
      own = rw slot_is refl;
      taken = rw first c.take_object.ensures.objects;
      pages = c.take_object.ensures.pages;
      made = rw first refl;
      caller = rw (first, slot_is) (answered c.args.thread.now c.from.result _ _ [] c.answers-2.ensures (c.from.ensures ∙ sym (lowest group.slots c.lowest_free.result c.in-Some.free c.lowest_free.ensures.first_free c.in-Some.is)));
    }

pub returns-clause-keeps : goal.returns-clause-keeps
returns-clause-keeps c held caller =
    let o = c.args.self.now.objects in
    let places = elsewhere c held in
    let empty = (unused c held).1 in
    let strays = c.put.ensures.strays held.strays (λ other no_list. held.strays c.in-Some-Some.id other (rw empty refl)) in
    let group_is : slot_at c.put.new.self c.args.thread.now.group ≡ Slot.Group c.in-Some-Some.group = c.put.ensures.puts.others c.args.thread.now.group (λ same. places.1 (sym same)) ∙ c.in-Some-Some.ensures'.some in
    record {
      caller = c.put-2.ensures.puts.others c.args.me (apart o c.args.me c.args.thread.now.group (rw caller.there refl) (rw c.in-Some-Some.ensures'.some refl))
          ∙ c.put.ensures.puts.others c.args.me (apart o c.args.me c.in-Some-Some.id (rw caller.there refl) (rw empty refl));
      strays = c.put-2.ensures.strays strays (λ other no_list. strays c.args.thread.now.group other (rw group_is refl));
      free = λ left back. rw (c.put-2.ensures.puts.links ∙ c.put.ensures.puts.links) caller.free;
      untold = put_next (put_kept c.put.ensures.puts refl (subst (λ (s : Slot). IsUntoldKept s c.args.slot) (sym empty) c.requires.untold)) c.put-2.ensures.puts tt;
      rings = λ i ring is. rings_put c.put.ensures.puts c.requires.ring i ring (rings_put c.put-2.ensures.puts (λ other same. cc) i ring is);
    }

pub returns-clause-fresh : goal.returns-clause-fresh
unfolding state_of
returns-clause-fresh c held caller =
    let o = c.args.self.now.objects in
    let free : IsFree o.links c.in-Some-Some.id = free_unlisted o held.rest held.sound.placed held.strays c.in-Some-Some.id (none_listed (object_at held.rest.content o) c.in-Some-Some.id (unused c held).0) in
    let other : c.in-Some-Some.id ≢ c.args.me = λ same. (let there = caller.there in let empty : slot_at o c.args.me ≡ Slot.Empty = ap (λ (i : ℕ). slot_at o i) (sym same) ∙ (unused c held).1 in cc) in
    (c.in-Some-Some.ensures.range, other, rw (c.put-2.ensures.puts.links ∙ c.put.ensures.puts.links) free)

pub returns-in_default-clause-keeps : goal.returns-in_default-clause-keeps
returns-in_default-clause-keeps c held caller = keeps_same c.args.self.now _ c.args.me _ refl held.strays caller.free

pub returns-in_default-lowest_free-clause-keeps : goal.returns-in_default-lowest_free-clause-keeps
returns-in_default-lowest_free-clause-keeps c held caller = keeps_same c.args.self.now _ c.args.me _ refl held.strays caller.free
