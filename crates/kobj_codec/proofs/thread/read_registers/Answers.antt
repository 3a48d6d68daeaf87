use Rattle.std.proofs.Common.{◌≡◌, ◌∙◌, arith, ap, sym, refl, get_or}
use Rattle.std.proofs.lemmas.List.{length-set}
use Rattle.sls_base.specs.declared.limits.TheConstants.{REGISTERS}
use Rattle.kobj_codec.proofs.Told.{thread_told, half_of_register}
use Rattle.kobj_codec.proofs.ReadSoFar.{below_one_more, below_all}
use Rattle.kobj_codec.proofs.Threads.{first_register}
use Rattle.kobj_codec.proofs.thread.read_registers.Goals as goal

pub loop-j-init : goal.loop-j-init
loop-j-init c = record { size = refl; read = record { same = λ x w k lt. first_register c.args.words.now k (omega arith) x w } }

pub loop-j-preserved : goal.loop-j-preserved
loop-j-preserved c = record {
  size = length-set c.loop-j.x c.loop-j.j c.half_at.result ∙ c.loop-j.invariant.size;
  read = below_one_more c.half_at.result c.loop-j.invariant.read (omega (arith, c.loop-j.invariant.size, c.loop-j-test.true))
      (λ x w. c.half_at.ensures ∙ thread_told w.0 w.1 w.2 c.loop-j.j c.loop-j-test.true ∙ half_of_register w.0 c.loop-j.j c.loop-j.auto.j ∙ ap (λ xs. get_or xs c.loop-j.j 0) w.3);
}

pub returns : goal.returns
returns c = λ t i r.
    let all : c.loop-j.j ≡ REGISTERS = omega (arith, c.loop-j-test.false, c.loop-j.auto.j-end) in
    let v = c.loop-j.invariant in
    below_all v.read (v.size ∙ sym all) t.x (t, i, r, refl) (i.registers ∙ sym all)
