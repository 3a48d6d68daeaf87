use Rattle.std.proofs.Common.{true, ◌≡◌, ◌∙◌, ◌%◌, ◌<◌, ℕ, Some, None, ap, sym}
use Rattle.std.specs.Prelude.{◌||◌, option_map}
use Rattle.sls_base.specs.declared.limits.TheConstants.{INSTRUCTION_BYTES, PAGES}
use Rattle.sls_base.specs.declared.thread.Thread.{Thread}
use Rattle.plain_model.specs.States.{thread_at}
use Rattle.plain_model.specs.Instructions.{instruction}
use Rattle.plain_model.specs.Ticks.{Chosen, chosen, loads_from, stores_to}
use Rattle.kobj_table.specs.Objects.{state_of}
use Rattle.call_readings.specs.Kernel.{world_of}
use Rattle.call_readings.specs.Content.{is_page_home}
use Rattle.call_readings.specs.Need.{page_of_pc}
use Rattle.call_readings.proofs.Chooses.{touches_by, stores_by, touches_none, stores_none, fetched_by, aligned_at}
use Rattle.call_readings.proofs.need.need_of_core.Goals as goal

pub returns-in-Some-clause-touched : goal.returns-in-Some-clause-touched
unfolding world_of
returns-in-Some-clause-touched c w rest page is home =
    let world = world_of c.args.objects.now rest w in
    let s = state_of c.args.objects.now rest in
    let me = c.in-Some.me in
    let thread = c.thread_or_zeros.result in
    let same : thread ≡ thread_at s me = c.thread_or_zeros.ensures rest in
    let next : Some me ≡ option_map (λ (c : Chosen). c.occupant.thread) (chosen s c.args.core) = sym c.in-Some.is ∙ c.next_thread.ensures rest in
    let aligned : thread.pc % INSTRUCTION_BYTES ≡ 0 = ap (λ (t : Thread). t.pc % INSTRUCTION_BYTES) same ∙ aligned_at s me is.threads in
    let from_home : (from : ℕ) → page_of_pc s thread ≡ Some from → from < PAGES → is_page_home c.args.nvm.now from ≡ true =
    λ from e inside. home from (sym (fetched_by s me (chosen s c.args.core) next) ∙ sym (ap (page_of_pc s) same) ∙ e) inside in
    c.need_of_thread.ensures.touched w rest page is.counted is.attached is.content aligned from_home
    ∙ ap (λ (t : Thread). loads_from s (instruction world me t) page || stores_to s (instruction world me t) page) same
    ∙ touches_by world me page (chosen s c.args.core) next

pub returns-in-Some-clause-stored : goal.returns-in-Some-clause-stored
unfolding world_of
returns-in-Some-clause-stored c w rest page is home =
    let world = world_of c.args.objects.now rest w in
    let s = state_of c.args.objects.now rest in
    let me = c.in-Some.me in
    let thread = c.thread_or_zeros.result in
    let same : thread ≡ thread_at s me = c.thread_or_zeros.ensures rest in
    let next : Some me ≡ option_map (λ (c : Chosen). c.occupant.thread) (chosen s c.args.core) = sym c.in-Some.is ∙ c.next_thread.ensures rest in
    let aligned : thread.pc % INSTRUCTION_BYTES ≡ 0 = ap (λ (t : Thread). t.pc % INSTRUCTION_BYTES) same ∙ aligned_at s me is.threads in
    let from_home : (from : ℕ) → page_of_pc s thread ≡ Some from → from < PAGES → is_page_home c.args.nvm.now from ≡ true =
    λ from e inside. home from (sym (fetched_by s me (chosen s c.args.core) next) ∙ sym (ap (page_of_pc s) same) ∙ e) inside in
    c.need_of_thread.ensures.stored w rest page is.counted is.attached is.content aligned from_home
    ∙ ap (λ (t : Thread). stores_to s (instruction world me t) page) same
    ∙ stores_by world me page (chosen s c.args.core) next

pub returns-in-None-clause-touched : goal.returns-in-None-clause-touched
unfolding world_of
returns-in-None-clause-touched c w rest page is home =
    let world = world_of c.args.objects.now rest w in
    let s = state_of c.args.objects.now rest in
    let next : None ≡ option_map (λ (c : Chosen). c.occupant.thread) (chosen s c.args.core) = sym c.in-None.is ∙ c.next_thread.ensures rest in
    rw c.nothing.ensures.touched (touches_none world page (chosen s c.args.core) next)

pub returns-in-None-clause-stored : goal.returns-in-None-clause-stored
unfolding world_of
returns-in-None-clause-stored c w rest page is home =
    let world = world_of c.args.objects.now rest w in
    let s = state_of c.args.objects.now rest in
    let next : None ≡ option_map (λ (c : Chosen). c.occupant.thread) (chosen s c.args.core) = sym c.in-None.is ∙ c.next_thread.ensures rest in
    rw c.nothing.ensures.stored (stores_none world page (chosen s c.args.core) next)
