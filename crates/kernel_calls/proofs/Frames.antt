-- A call that changes objects which are there, and makes threads Ready.
use Rattle.std.specs.Prelude.{◌≡◌, ◌≢◌, ℕ, true, false, List, [], ◌∷◌, ◌++◌, Some}
use Rattle.std.proofs.Common.{refl, ap, sym, ◌∙◌, subst}
use Rattle.sls_base.specs.declared.fixed.TheConstants.{SCHEDULER}
use Rattle.link_lists.specs.Lists.{list_at}
use Rattle.ipc_note.specs.declared.lists.TheConstants.{RUN_QUEUE}
use Rattle.plain_state.specs.Worlds.{World}
use Rattle.sls_base.specs.declared.thread.Thread.{Thread as ThreadRecord}
use Rattle.plain_state.specs.Effects.{Effect, Change, answers}
use Rattle.plain_state.specs.Objects.{Object}
use Rattle.plain_state.specs.Ticks.{with_changes}
use Rattle.plain_state.specs.CallEffects.{change}
use Rattle.kobj_table.specs.declared.objects.Objects.{Objects}
use Rattle.kobj_table.specs.declared.slot.Slot.{Slot}
use Rattle.kobj_table.specs.Slots.{is_scheduler, object_of}
use Rattle.kobj_table.specs.Objects.{Rest, slot_at, object_at, Puts}
use Rattle.call_readings.specs.Kernel.{world_of, IsCounted}
use Rattle.kernel_calls.specs.declared.runtime.Runtime.{Runtime}
use Rattle.kernel_calls.specs.declared.done.Done.{Done}
use Rattle.kernel_calls.specs.Does.{Does, Tells, IsQuiet}
use Rattle.kernel_calls.proofs.Objects.{AllTold, all_told, told, put_gives}
use Rattle.kernel_calls.proofs.Numbers.{counted_kept}

-- what became of the objects, the queue and the scheduler
pub record Changes (content : ℕ → ℕ → ℕ) (o n : Objects) (changes : List Change) (wakes : List ℕ) : Type 0 where
  pub objects : (i : ℕ) → object_at content n i ≡ with_changes (object_at content o) changes i
  pub told : AllTold (object_at content o) changes
  pub queue : list_at n.links RUN_QUEUE ≡ list_at o.links RUN_QUEUE ++ wakes
  pub scheduler : slot_at n SCHEDULER ≡ slot_at o SCHEDULER

made_of : (k k' : Runtime) (rest : Rest) (w : World) (e : Effect) (done : Done) → Changes rest.content k.objects k'.objects e.changes e.wakes →
    k'.numbers ≡ k.numbers → Tells done e → IsCounted k.numbers (world_of k.objects rest w) → IsQuiet e → Does k k' rest w e done
made_of k k' rest w e done c numbers tells h quiet = record {
  objects = c.objects;
  queue = c.queue;
  scheduler = c.scheduler;
  counted = rw numbers (counted_kept k.numbers k.objects k'.objects rest w
      (λ i. ap told (c.objects i) ∙ all_told (object_at rest.content k.objects) e.changes c.told i) h);
  caller = tells;
  quiet = quiet;
}

-- a call whose effect is this one
pub changed : {k k' : Runtime} {rest : Rest} {w : World} {e : Effect} {done : Done} → (e' : Effect) → e ≡ e' → Changes rest.content k.objects k'.objects e'.changes e'.wakes →
    k'.numbers ≡ k.numbers → Tells done e' → IsCounted k.numbers (world_of k.objects rest w) → IsQuiet e' → Does k k' rest w e done
changed {k} {k'} {rest} {w} {e} {done} e' same c numbers tells h quiet = subst (λ (x : Effect). Does k k' rest w x done) (sym same) (made_of k k' rest w e' done c numbers tells h quiet)

pub no_more : (xs : List ℕ) → xs ++ [] ≡ xs
no_more [] = refl
no_more (x ∷ xs) = ap (λ l. x ∷ l) (no_more xs)

-- no scheduler and the scheduler are two
pub not_scheduler : (o : Objects) (id : ℕ) → is_scheduler (slot_at o SCHEDULER) ≡ true → is_scheduler (slot_at o id) ≡ false → SCHEDULER ≢ id
not_scheduler o id a b e = absurd (let f : is_scheduler (slot_at o SCHEDULER) ≡ false = rw e b in cc)

-- an object that is there is put in its place with another value
pub one_put : (content : ℕ → ℕ → ℕ) (o n : Objects) (id : ℕ) (slot : Slot) (object : Object) → Puts o n id slot → object_of content slot (list_at o.links id) ≡ Some object →
    AllTold (object_at content o) (change id object ∷ []) → is_scheduler (slot_at o SCHEDULER) ≡ true → is_scheduler (slot_at o id) ≡ false →
    Changes content o n (change id object ∷ []) []
one_put content o n id slot object p is all scheduler other = record {
  objects = put_gives content o n id slot object p is;
  told = all;
  queue = rw p.links (sym (no_more (list_at o.links RUN_QUEUE)));
  scheduler = p.others SCHEDULER (not_scheduler o id scheduler other);
}

-- what is told of an answer is told of each effect that answers so
pub answered : {done : Done} → (thread : ThreadRecord) (given answer : ℕ) (changes : List Change) (wakes : List ℕ) → Tells done (answers thread given) → given ≡ answer →
    Tells done (record (answers thread answer) { changes = changes; wakes = wakes })
answered thread given answer changes wakes tells same = record { regs = tells.regs ∙ rw same refl; goes = tells.goes; takes = tells.takes; wishes = tells.wishes }

-- a call that changes nothing
pub unchanged : {k : Runtime} {rest : Rest} {w : World} {e : Effect} {done : Done} → e.changes ≡ [] → e.wakes ≡ [] → Tells done e → IsCounted k.numbers (world_of k.objects rest w) → IsQuiet e →
    Does k k rest w e done
unchanged {k} {rest} {w} {e} {done} changes wakes tells h quiet = record {
  objects = λ i. sym (ap (λ (cs : List Change). with_changes (object_at rest.content k.objects) cs i) changes);
  queue = sym (ap (λ (l : List ℕ). list_at k.objects.links RUN_QUEUE ++ l) wakes ∙ no_more (list_at k.objects.links RUN_QUEUE));
  scheduler = refl;
  counted = h;
  caller = tells;
  quiet = quiet;
}
