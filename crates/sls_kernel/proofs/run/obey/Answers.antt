use Rattle.std.proofs.Common.{◌≡◌, ap, sym, subst, refl, ◌∙◌, arith}
use Rattle.pmem_model.specs.Memory.{word_at}
use Rattle.rv_core.specs.declared.registers.Plan.{Plan}
use Rattle.rv_core.specs.Effect.{effect}
use Rattle.sls_kernel.specs.Plain.{carried_out}
use Rattle.sls_kernel.specs.Steps.{Became, IsAligned}
use Rattle.sls_kernel.specs.declared.thread.RunThread.{RunThread}
use Rattle.sls_kernel.proofs.Effects.{effect-IsPlan, effect-IsAligned}
use Rattle.sls_kernel.proofs.Outcomes.{instruction-is}
use Rattle.sls_kernel.proofs.run.obey.Goals as goal

pub carry_out-requires-clause-plan : goal.carry_out-requires-clause-plan
carry_out-requires-clause-plan c = rw c.plan-effect.ensures.effect (effect-IsPlan c.in-Some.instr c.args.thread.now.regs c.in-Some.ensures.found.1)

pub returns-in_default-clause-state : goal.returns-in_default-clause-state
returns-in_default-clause-state c s count tells runs =
    let is = instruction-is c.args.thread.now c.args.put.now (word_at c.args.nvm.now) count s c.fetch.result c.decode.result runs (sym c.covers.ensures ∙ c.if-not-covers.false) c.fetch.ensures c.decode.ensures.decoded in
    rw (is, c.in_default.is) (refl, omega arith, runs)

pub returns-clause-state : goal.returns-clause-state
returns-clause-state c s count tells runs =
    let is = instruction-is c.args.thread.now c.args.put.now (word_at c.args.nvm.now) count s c.fetch.result c.decode.result runs (sym c.covers.ensures ∙ c.if-not-covers.false) c.fetch.ensures c.decode.ensures.decoded in
    let same : c.plan-effect.result ≡ effect c.in-Some.instr s.thread.regs = c.plan-effect.ensures.effect ∙ ap (λ (u : RunThread). effect c.in-Some.instr u.regs) runs.thread_is in
    let aligned : IsAligned c.plan-effect.result = rw same (effect-IsAligned c.in-Some.instr s.thread.regs runs.holds.thread.aligned) in
    rw (is, c.in-Some.is) (subst (λ (e : Plan). Became c.carry_out.result c.carry_out.new.thread c.carry_out.new.put (word_at c.carry_out.new.nvm) count s (carried_out count s e)) same (c.carry_out.ensures.state s count tells aligned runs))
