use Rattle.std.proofs.Common.{◌∙◌, ℕ, [], sym, arith}
use Rattle.sls_base.specs.declared.fixed.TheConstants.{SCHEDULER}
use Rattle.kobj_table.specs.Objects.{Rest, state_of}
use Rattle.tree_walk.proofs.Leaves.{leaves_by, state_swept, slot_same, list_same, no_strays, scheduler_left}
use Rattle.tree_walk.proofs.swept.sweep.Goals as goal

-- any rest
nothing : Rest
nothing = record { content = λ page offset. 0; out = λ channel. []; inputs = [] }

pub returns : goal.returns
returns c =
    let old = c.args.objects.now in
    let new = c.sweep_slots.new.objects in
    let tells = c.of-reached.ensures in
    let told = λ (rest : Rest) (i : ℕ). c.changes-changes.ensures.told rest i (tells rest) in
    let always = λ (rest : Rest). (c.reached_is_least.ensures.least (state_of old rest)).fixed SCHEDULER (omega arith) in
    let leaves = λ (rest : Rest).
    let s = state_of old rest in
    leaves_by old c.sweep_lists.new.objects new s c.sweep_lists.ensures.slots c.sweep_slots.ensures.links
    (λ i. c.sweep_lists.ensures.lists s i (tells rest)) c.sweep_lists.ensures.past
    (λ i. c.sweep_slots.ensures.left s i (tells rest)) c.sweep_slots.ensures.past c.changes-changes.ensures.past in
    record {
      state = λ rest. state_swept old new rest (always rest) (leaves rest);
      told = told;
      slots = λ i untold. slot_same old new nothing i (leaves nothing) (sym (told nothing i) ∙ untold);
      lists = λ scheduler strays i untold. list_same old new nothing i (leaves nothing) (always nothing) scheduler strays (sym (told nothing i) ∙ untold);
      left = λ rest. (leaves rest).left;
      threads = λ rest. (leaves rest).threads;
      scheduler = scheduler_left old new (state_of old nothing) (leaves nothing) (always nothing);
      strays = no_strays old new (state_of old nothing) (leaves nothing);
    }
