use Rattle.std.proofs.Common.{◌≡◌, ◌∙◌, sym, ap, refl, subst, ℕ, List}
use Rattle.std.specs.Prelude.{Some, None, Option, option_map, slice_index_or}
use Rattle.sls_base.specs.declared.fixed.TheConstants.{SCHEDULER}
use Rattle.sls_base.specs.declared.thread.ThreadState.TheVariants.{Ready, Running}
use Rattle.link_lists.specs.Lists.{list_at}
use Rattle.ipc_note.specs.declared.lists.TheConstants.{RUN_QUEUE}
use Rattle.kobj_table.specs.Slots.{occupant_of, cores_of}
use Rattle.kobj_table.specs.Objects.{slot_at, object_at, state_of, state_with_queue, ListsAlone}
use Rattle.plain_state.specs.States.{State}
use Rattle.kernel_calls.specs.Callers.{goes_in}
use Rattle.kernel_calls.specs.Kernel.{IsSound}
use Rattle.kernel_calls.proofs.Objects.{told}
use Rattle.kernel_calls.proofs.Numbers.{counted_kept}
use Rattle.kernel_calls.proofs.Places.{free_unlisted, asleep_unlisted}
use Rattle.kernel_calls.proofs.Queues.{queue_alone, not_the_queue}
use Rattle.kernel_calls.proofs.Threads.{is_thread_slot}
use Rattle.kernel_calls.proofs.Connections.{in_range}
use Rattle.kernel_calls.proofs.Ticks.{held_again, sound_left, own_chosen, front_chosen, none_chosen, front_ready, own_running}
use Rattle.kernel_calls.proofs.runtime.Runtime.take_next.Goals as goal

pub returns-in-Some-clause-some : goal.returns-in-Some-clause-some
unfolding state_of
returns-in-Some-clause-some c = record {
  chosen_is = λ rest. own_chosen _ (occupant_of c.in-Some.own) (list_at c.args.self.now.objects.links RUN_QUEUE)
      (sym (c.running.ensures.state rest c.requires.core) ∙ ap (λ (o : Option (ℕ × ℕ)). option_map occupant_of o) c.in-Some.is);
  slots = refl;
  lists = λ i other. refl;
}

pub returns-in-Some-clause-caller : goal.returns-in-Some-clause-caller
unfolding state_of
returns-in-Some-clause-caller c =
    let o = c.args.self.now.objects in
    let held = c.requires.held in
    let id = c.in-Some.own.0 in
    let on_core : slice_index_or (cores_of (slot_at o SCHEDULER)) c.args.core None ≡ Some (occupant_of c.in-Some.own) =
    sym (c.running.ensures.state held.rest c.requires.core) ∙ ap (λ (o : Option (ℕ × ℕ)). option_map occupant_of o) c.in-Some.is in
    let runs = own_running (state_of o held.rest) c.args.core (occupant_of c.in-Some.own) held.sound.placed on_core in
    let slot = is_thread_slot held.rest.content (slot_at o id) (list_at o.links id) (Running c.args.core) runs in (
      slot.0,
      record {
        range = in_range o held.rest id (Running c.args.core) held.sound.range runs;
        there = slot.1;
        free = free_unlisted o held.rest held.sound.placed held.strays id (asleep_unlisted (object_at held.rest.content o) id (Running c.args.core) runs (λ none. none));
        awake = ap goes_in slot.2;
      },
    )

none_own : (own : Option (ℕ × ℕ)) → own ≡ None → option_map occupant_of own ≡ None
none_own own is = ap (λ (o : Option (ℕ × ℕ)). option_map occupant_of o) is

pub returns-in-Some-dequeue-clause-some : goal.returns-in-Some-dequeue-clause-some
unfolding state_of
returns-in-Some-dequeue-clause-some c = record {
  chosen_is = λ rest. rw c.dequeue.ensures.left (front_chosen _ c.in-Some-dequeue.front (list_at c.args.self.now.objects.links RUN_QUEUE)
      (sym (c.running.ensures.state rest c.requires.core) ∙ none_own c.running.result c.in_default.is) (sym c.in-Some-dequeue.ensures.front));
  slots = c.dequeue.ensures.slots;
  lists = c.dequeue.ensures.others;
}

pub returns-in-Some-dequeue-clause-caller : goal.returns-in-Some-dequeue-clause-caller
unfolding state_of
returns-in-Some-dequeue-clause-caller c =
    let o = c.args.self.now.objects in
    let held = c.requires.held in
    let id = c.in-Some-dequeue.front in
    let ready = front_ready (state_of o held.rest) id held.sound.placed (sym c.in-Some-dequeue.ensures.front) in
    let slot = is_thread_slot held.rest.content (slot_at o id) (list_at o.links id) Ready ready in (
      slot.0,
      record {
        range = in_range o held.rest id Ready held.sound.range ready;
        there = rw c.dequeue.ensures.slots slot.1;
        free = c.in-Some-dequeue.ensures.freed;
        awake = ap goes_in slot.2;
      },
    )

pub returns-in-Some-dequeue-clause-held : goal.returns-in-Some-dequeue-clause-held
unfolding state_of
returns-in-Some-dequeue-clause-held c =
    let o = c.args.self.now.objects in
    let n = c.dequeue.new.self in
    let held = c.requires.held in
    let alone : ListsAlone o n = record {
      slots = λ i. rw c.dequeue.ensures.slots refl;
      lists = λ i has. c.dequeue.ensures.others i (not_the_queue o i held.scheduler has);
    } in
    let same = c.lists_alone.ensures.state o n held.rest alone ∙ ap (λ (q : List ℕ). state_with_queue (state_of o held.rest) q) c.dequeue.ensures.left in
    record {
      world = held.world;
      rest = held.rest;
      counted = counted_kept c.args.self.now.numbers o n held.rest held.world
          (λ i. ap told (queue_alone c.lists_alone.ensures.object o n held.rest.content c.dequeue.ensures.slots c.dequeue.ensures.others held.scheduler i)) held.counted;
      sound = subst (λ (s : State). IsSound s) (sym same) (sound_left (state_of o held.rest) held.sound);
      scheduler = rw c.dequeue.ensures.slots held.scheduler;
      strays = c.dequeue.ensures.strays held.strays;
    }

pub returns-in-None-clause-none : goal.returns-in-None-clause-none
unfolding state_of
returns-in-None-clause-none c = λ rest. none_chosen _ (list_at c.args.self.now.objects.links RUN_QUEUE)
    (sym (c.running.ensures.state rest c.requires.core) ∙ none_own c.running.result c.in_default.is) (sym c.dequeue.ensures.front ∙ c.in-None.is)

pub returns-in-None-clause-idle : goal.returns-in-None-clause-idle
returns-in-None-clause-idle c = c.in-None.ensures.same

pub returns-in-None-clause-held : goal.returns-in-None-clause-held
returns-in-None-clause-held c = rw c.in-None.ensures.same (held_again c.args.self.now None c.requires.held)

pub returns-in-Some-clause-held : goal.returns-in-Some-clause-held
returns-in-Some-clause-held c = held_again c.args.self.now None c.requires.held
