use Rattle.std.proofs.Common.{◌∙◌, sym, ap, refl, ℕ, List, ◌++◌}
use Rattle.std.specs.Prelude.{option_map}
use Rattle.sls_base.specs.declared.fixed.TheConstants.{SCHEDULER}
use Rattle.ipc_note.specs.declared.lists.TheConstants.{RUN_QUEUE}
use Rattle.link_lists.specs.Lists.{list_at}
use Rattle.kobj_table.specs.Slots.{occupant_of}
use Rattle.plain_state.specs.declared.effect.Goes.{Goes}
use Rattle.plain_state.specs.Ticks.{at_back}
use Rattle.kernel_calls.proofs.Frames.{no_more}
use Rattle.kernel_calls.proofs.Ticks.{at_back_none, scheduler_stays, cores_run, settled}
use Rattle.kernel_calls.proofs.Untold.{put_kept, ran_next, slots_next}
use Rattle.kernel_calls.proofs.runtime.Runtime.settle.Goals as goal

pub enqueue-requires-clause-free : goal.enqueue-requires-clause-free
enqueue-requires-clause-free c =
    rw (c.run.ensures.links, c.set_thread.ensures.puts.links) (c.requires.free (sym c.at_slice_end-goes.ensures ∙ c.in-Back.is))

pub returns-in-Back-clause-settles : goal.returns-in-Back-clause-settles
returns-in-Back-clause-settles c =
    settled c.args.self.now.objects c.set_thread.new.self c.run.new.self c.enqueue.new.self c.args.core c.args.id c.args.left c.args.thread.now c.args.done.now c.at_slice_end-goes.result c.state_after.result (option_map occupant_of c.on_core.result) c.set_thread.ensures.puts
    c.run.ensures.others (cores_run _ _ c.args.core _ c.run.ensures.state) (scheduler_stays _ _ _ c.run.ensures.ran c.run.ensures.none) c.run.ensures.links c.enqueue.ensures.slots
    (c.enqueue.ensures.last.last ∙ ap (λ (g : Goes). list_at c.run.new.self.links RUN_QUEUE ++ at_back c.args.id g) (sym c.in-Back.is)) c.enqueue.ensures.last.others
    c.at_slice_end-goes.ensures c.state_after.ensures c.on_core.ensures c.requires.no_scheduler

pub returns-in_default-clause-settles : goal.returns-in_default-clause-settles
returns-in_default-clause-settles c =
    settled c.args.self.now.objects c.set_thread.new.self c.run.new.self c.run.new.self c.args.core c.args.id c.args.left c.args.thread.now c.args.done.now c.at_slice_end-goes.result c.state_after.result (option_map occupant_of c.on_core.result) c.set_thread.ensures.puts
    c.run.ensures.others (cores_run _ _ c.args.core _ c.run.ensures.state) (scheduler_stays _ _ _ c.run.ensures.ran c.run.ensures.none) c.run.ensures.links refl
    (sym (ap (λ (l : List ℕ). list_at c.run.new.self.links RUN_QUEUE ++ l) (at_back_none c.args.id c.at_slice_end-goes.result c.in_default.not-Back) ∙ no_more (list_at c.run.new.self.links RUN_QUEUE))) (λ i other. refl)
    c.at_slice_end-goes.ensures c.state_after.ensures c.on_core.ensures c.requires.no_scheduler

pub returns-in-Back-clause-untold : goal.returns-in-Back-clause-untold
returns-in-Back-clause-untold c below =
    slots_next (ran_next {n = c.run.new.self} c.args.core c.on_core.result (put_kept c.set_thread.ensures.puts refl tt) (c.set_thread.ensures.puts.others SCHEDULER (λ same. c.requires.no_scheduler (sym same)))
    c.run.ensures.ran c.run.ensures.others below) c.enqueue.ensures.slots

pub returns-in_default-clause-untold : goal.returns-in_default-clause-untold
returns-in_default-clause-untold c below =
    ran_next c.args.core c.on_core.result (put_kept c.set_thread.ensures.puts refl tt) (c.set_thread.ensures.puts.others SCHEDULER (λ same. c.requires.no_scheduler (sym same)))
    c.run.ensures.ran c.run.ensures.others below
