use Rattle.std.proofs.Common.{◌≡◌, sym, ap, refl, subst, ℕ}
use Rattle.std.specs.Prelude.{Some, Option}
use Rattle.sls_base.specs.declared.thread.Thread.{Thread as ThreadRecord}
use Rattle.ipc_note.specs.declared.lists.TheConstants.{RUN_QUEUE}
use Rattle.ipc_note.specs.Lists.{Appends}
use Rattle.kobj_table.specs.Objects.{state_of}
use Rattle.plain_state.specs.declared.calls.Call.TheVariants.{ThreadNew}
use Rattle.plain_state.specs.declared.calls.Refusal.TheVariants.{NoSlot, NoObjects}
use Rattle.plain_state.specs.Objects.{Thread}
use Rattle.plain_state.specs.CallEffects.{effect_of_call, makes, new_id, new_thread}
use Rattle.call_readings.specs.Kernel.{world_of}
use Rattle.kernel_calls.proofs.Made.{made}
use Rattle.kernel_calls.proofs.Queues.{queued, still_free}
use Rattle.kernel_calls.proofs.Kept.{rings_same}
use Rattle.kernel_calls.proofs.Untold.{slots_next}
use Rattle.kernel_calls.proofs.runtime.Runtime.thread_new.Goals as goal

some_id : (x : Option ℕ) (a b : ℕ) → x ≡ Some a → x ≡ Some b → a ≡ b
some_id x a b e f = cc

pub returns-in-Some-clause-does : goal.returns-in-Some-clause-does
unfolding world_of state_of effect_of_call
returns-in-Some-clause-does c w rest h e a =
    let o = c.args.self.now.objects in
    let world = world_of o rest w in
    let law = c.unrefused_call_meets_all.ensures.besides in
    let object = Thread (new_thread (state_of o rest) c.args.thread.now) in
    let makes_it = c.make-done.ensures.makes w rest object h (law world c.args.me c.args.thread.now ThreadNew NoSlot (λ same. cc) e) (law world c.args.me c.args.thread.now ThreadNew NoObjects (λ same. cc) e)
    (ap (λ (t : ThreadRecord). Some (Thread t)) (c.new_thread-new.ensures rest)) c.requires.held in
    let does = made c.args.self.now c.make-done.new.self rest w c.args.thread.now object c.make-done.result makes_it refl h in
    let id : new_id world ≡ c.in-Some.id = some_id c.make-done.new.self.made _ _ makes_it.made c.in-Some.is in
    queued c.lists_alone.ensures.object c.args.self.now c.make-done.new.self _ rest w (makes world c.args.thread.now object) c.make-done.result (new_id world) does refl
    c.enqueue.ensures.slots (subst (λ (n : ℕ). Appends c.make-done.new.self.objects.links c.enqueue.new.self.links RUN_QUEUE n) (sym id) c.enqueue.ensures.last) refl (rw makes_it.scheduler c.requires.held.scheduler)

pub returns-in-Some-clause-keeps : goal.returns-in-Some-clause-keeps
returns-in-Some-clause-keeps c =
    let fresh = rw c.in-Some.is at (c.make-done.ensures.fresh c.requires.held c.requires.caller) in
    record {
      caller = rw c.enqueue.ensures.slots (c.make-done.ensures.keeps c.requires.held c.requires.caller).caller;
      strays = c.enqueue.ensures.strays (c.make-done.ensures.keeps c.requires.held c.requires.caller).strays;
      free = λ left back. still_free _ _ _ c.in-Some.id c.args.me c.enqueue.ensures.last ((c.make-done.ensures.keeps c.requires.held c.requires.caller).free left back) (λ same. fresh.1 (sym same));
      untold = slots_next (c.make-done.ensures.keeps c.requires.held c.requires.caller).untold c.enqueue.ensures.slots;
      rings = λ i ring is. (c.make-done.ensures.keeps c.requires.held c.requires.caller).rings i ring (rings_same c.make-done.new.self.objects c.enqueue.new.self c.enqueue.ensures.slots i ring is);
    }

pub returns-in_default-clause-does : goal.returns-in_default-clause-does
returns-in_default-clause-does c w rest h e a =
    let o = c.args.self.now.objects in
    let world = world_of o rest w in
    let law = c.unrefused_call_meets_all.ensures.besides in
    let makes_it = c.make-done.ensures.makes w rest (Thread (new_thread (state_of o rest) c.args.thread.now)) h (law world c.args.me c.args.thread.now ThreadNew NoSlot (λ same. cc) e) (law world c.args.me c.args.thread.now ThreadNew NoObjects (λ same. cc) e)
    (ap (λ (t : ThreadRecord). Some (Thread t)) (c.new_thread-new.ensures rest)) c.requires.held in
    absurd (let is = makes_it.made in let none = c.in_default.is in cc)

pub enqueue-requires-clause-free : goal.enqueue-requires-clause-free
enqueue-requires-clause-free c = (rw c.in-Some.is at (c.make-done.ensures.fresh c.requires.held c.requires.caller)).2

pub returns-in_default-clause-keeps : goal.returns-in_default-clause-keeps
returns-in_default-clause-keeps c = c.make-done.ensures.keeps c.requires.held c.requires.caller
