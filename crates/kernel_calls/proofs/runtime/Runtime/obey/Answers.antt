use Rattle.std.proofs.Common.{◌∙◌, refl, sym, ap, subst, Some}
use Rattle.std.specs.Prelude.{Option, option_map}
use Rattle.rv_table.specs.declared.Instr.{Instr}
use Rattle.rv_core.specs.Effect.{effect}
use Rattle.rv_core.specs.declared.registers.Plan.{Plan}
use Rattle.kobj_table.specs.Objects.{Rest, state_of}
use Rattle.call_readings.specs.Kernel.{world_of}
use Rattle.plain_state.specs.Effects.{Effect, regs_of}
use Rattle.plain_state.specs.Instructions.{fetched, with_fetch, obeyed, carried_out}
use Rattle.plain_state.specs.Ticks.{stores_to}
use Rattle.kernel_calls.specs.Does.{Obeys}
use Rattle.kernel_calls.specs.Instructions.{StoresPages}
use Rattle.kernel_calls.proofs.Obeyed.{stopped, obeyed_quietly, with_places, nothing_fetched, word_fetched, plan_fetched}
use Rattle.kernel_calls.proofs.StoredPages.{none_stored}
use Rattle.kernel_calls.proofs.Untold.{leaves_same}
use Rattle.kernel_calls.proofs.runtime.Runtime.obey.Goals as goal

-- Where nothing can be fetched.

pub returns-in_default-clause-obeys : goal.returns-in_default-clause-obeys
unfolding world_of
returns-in_default-clause-obeys c w rest finds =
    let k = c.args.self.now in
    let seen = sym c.in_default.is ∙ c.fetch.ensures rest finds.found.content in
    subst (λ (e : Effect). (after : Rest) × Obeys k k rest after c.args.nvm.now w e c.stops.result) (sym (nothing_fetched (world_of k.objects rest w) c.args.me c.args.thread.now seen))
    (obeyed_quietly k k c.args.devices.now c.args.input.now c.args.nvm.now rest w _ c.stops.result finds (stopped c.args.thread.now _ c.stops.ensures finds.found.counted) (λ id ring e. e))

pub returns-in_default-clause-words : goal.returns-in_default-clause-words
returns-in_default-clause-words c w rest finds = none_stored _ c.args.nvm.now

-- Where the word is in no row.

pub returns-in_default-decode-clause-obeys : goal.returns-in_default-decode-clause-obeys
unfolding world_of
returns-in_default-decode-clause-obeys c w rest finds =
    let k = c.args.self.now in
    let world = world_of k.objects rest w in
    let thread = c.args.thread.now in
    let seen = sym c.in-Some.is ∙ c.fetch.ensures rest finds.found.content in
    let none = sym c.decode.ensures.decoded ∙ c.in_default-decode.is in
    let is = word_fetched world c.args.me thread c.in-Some.word seen
    ∙ ap (λ (i : Option Instr). with_fetch (fetched world.now thread) (obeyed world c.args.me thread i)) none in
    subst (λ (e : Effect). (after : Rest) × Obeys k k rest after c.args.nvm.now w e c.stops-in_default-decode.result) (sym is)
    (with_places (fetched world.now thread)
    (obeyed_quietly k k c.args.devices.now c.args.input.now c.args.nvm.now rest w _ c.stops-in_default-decode.result finds (stopped thread _ c.stops-in_default-decode.ensures finds.found.counted) (λ id ring e. e)))

pub returns-in_default-decode-clause-words : goal.returns-in_default-decode-clause-words
returns-in_default-decode-clause-words c w rest finds = none_stored _ c.args.nvm.now

-- Where it is an instruction.

pub carry_out_plan-requires-clause-may : goal.carry_out_plan-requires-clause-may
carry_out_plan-requires-clause-may c =
    let thread = c.args.thread.now in
    let rest = c.requires.may.over.held.rest in
    let reads = c.requires.may.over.found.found.content in
    let seen = sym c.in-Some.is ∙ c.fetch.ensures rest reads in
    let some = sym c.decode.ensures.decoded ∙ c.in-Some-decode.is in
    let is = plan_fetched (state_of c.args.self.now.objects rest) thread c.in-Some.word seen
    ∙ ap (λ (i : Option Instr). option_map (λ instr. effect instr (regs_of thread)) i) some
    ∙ ap (λ (p : Plan). Some p) (sym c.plan.ensures.effect) in
    record { over = c.requires.may.over; may = c.requires.may.carried_out c.plan.result is }

pub returns-clause-obeys : goal.returns-clause-obeys
unfolding world_of
returns-clause-obeys c w rest finds =
    let k = c.args.self.now in
    let world = world_of k.objects rest w in
    let thread = c.args.thread.now in
    let seen = sym c.in-Some.is ∙ c.fetch.ensures rest finds.found.content in
    let some = sym c.decode.ensures.decoded ∙ c.in-Some-decode.is in
    let is = word_fetched world c.args.me thread c.in-Some.word seen
    ∙ ap (λ (i : Option Instr). with_fetch (fetched world.now thread) (obeyed world c.args.me thread i)) some
    ∙ ap (λ (p : Plan). with_fetch (fetched world.now thread) (carried_out world c.args.me thread p)) (sym c.plan.ensures.effect) in
    subst (λ (e : Effect). (after : Rest) × Obeys k c.carry_out_plan.new.self rest after c.carry_out_plan.new.nvm w e c.carry_out_plan.result) (sym is)
    (with_places (fetched world.now thread) (c.carry_out_plan.ensures.obeys w rest finds))

pub returns-clause-words : goal.returns-clause-words
unfolding world_of
returns-clause-words c w rest finds =
    let k = c.args.self.now in
    let world = world_of k.objects rest w in
    let thread = c.args.thread.now in
    let seen = sym c.in-Some.is ∙ c.fetch.ensures rest finds.found.content in
    let some = sym c.decode.ensures.decoded ∙ c.in-Some-decode.is in
    let is = word_fetched world c.args.me thread c.in-Some.word seen
    ∙ ap (λ (i : Option Instr). with_fetch (fetched world.now thread) (obeyed world c.args.me thread i)) some
    ∙ ap (λ (p : Plan). with_fetch (fetched world.now thread) (carried_out world c.args.me thread p)) (sym c.plan.ensures.effect) in
    subst (λ (e : Effect). StoresPages (stores_to (state_of k.objects rest) e) c.args.nvm.now c.carry_out_plan.new.nvm) (sym is) (c.carry_out_plan.ensures.words w rest finds)

pub fetch-requires-clause-aligned : goal.fetch-requires-clause-aligned
unfolding state_of
fetch-requires-clause-aligned c = (c.requires.may.over.found.found.threads c.args.me c.args.thread.now (rw c.requires.caller.there refl)).aligned

pub returns-in_default-clause-leaves : goal.returns-in_default-clause-leaves
returns-in_default-clause-leaves c = leaves_same c.args.self.now c.args.me _ c.requires.may.over.held.strays c.requires.caller.free

pub returns-in_default-decode-clause-leaves : goal.returns-in_default-decode-clause-leaves
returns-in_default-decode-clause-leaves c = leaves_same c.args.self.now c.args.me _ c.requires.may.over.held.strays c.requires.caller.free
