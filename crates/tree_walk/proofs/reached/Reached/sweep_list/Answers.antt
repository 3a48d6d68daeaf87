use Rattle.std.proofs.Common.{◌≡◌, ◌∙◌, refl, ap, sym, true, false}
use Rattle.std.specs.Prelude.{◌&&◌, Contains}
use Rattle.link_lists.specs.Lists.{list_at, without}
use Rattle.tree_walk.specs.Reached.{has}
use Rattle.tree_walk.proofs.Leaving.{without_stranger, sweeps_yet, sweeps_in, sweeps_shorter, sweeps_stays, sweeps_leaves, sweeps_all}
use Rattle.tree_walk.proofs.reached.Reached.sweep_list.Goals as goal

pub loop-thread-init : goal.loop-thread-init
loop-thread-init c = record {
  sweeps = sweeps_yet _ _ _ c.first-thread.ensures.first;
  others = λ i other. refl;
  slots = refl;
}

pub next-thread-requires : goal.next-thread-requires
next-thread-requires c =
    let here = rw c.in-Some.is at c.loop-thread.invariant.sweeps in
    c.first-thread.ensures.once.below c.args.list c.in-Some.id (sweeps_in _ _ _ c.in-Some.id here)

pub leave-requires : goal.leave-requires
leave-requires c =
    let here = rw c.in-Some.is at c.loop-thread.invariant.sweeps in
    c.first-thread.ensures.once.below c.args.list c.in-Some.id (sweeps_in _ _ _ c.in-Some.id here)

pub loop-thread-smaller-then-not-stays_in : goal.loop-thread-smaller-then-not-stays_in
loop-thread-smaller-then-not-stays_in c =
    let here = rw c.in-Some.is at c.loop-thread.invariant.sweeps in
    rw c.in-Some.is (sweeps_shorter _ _ _ c.in-Some.id c.next-thread.result (c.first-thread.ensures.once.distinct c.args.list) here (c.next-thread.ensures.next c.args.list))

pub loop-thread-preserved-then-not-stays_in : goal.loop-thread-preserved-then-not-stays_in
loop-thread-preserved-then-not-stays_in c =
    let id = c.in-Some.id in
    let reached = c.args.self.now in
    let goes : (has reached c.args.list && has reached id) ≡ false = sym c.stays_in.ensures ∙ c.if-not-stays_in.true in
    let here = rw c.in-Some.is at c.loop-thread.invariant.sweeps in
    let once = c.first-thread.ensures.once in
    let swept = sweeps_leaves _ _ _ id c.next-thread.result (once.distinct c.args.list) here goes (c.next-thread.ensures.next c.args.list) in
    record {
      sweeps = rw (c.leave.ensures.rest c.args.list) swept;
      others = λ i other.
          let strange : Contains (list_at c.args.objects.now.links i) id → ⊥ = λ there. other (once.apart i c.args.list id there (sweeps_in _ _ _ id here)) in
          c.leave.ensures.rest i ∙ (ap (without id) (c.loop-thread.invariant.others i other) ∙ without_stranger id (list_at c.args.objects.now.links i) strange);
      slots = c.leave.ensures.slots ∙ c.loop-thread.invariant.slots;
    }

pub loop-thread-smaller : goal.loop-thread-smaller
loop-thread-smaller c =
    let here = rw c.in-Some.is at c.loop-thread.invariant.sweeps in
    rw c.in-Some.is (sweeps_shorter _ _ _ c.in-Some.id c.next-thread.result (c.first-thread.ensures.once.distinct c.args.list) here (c.next-thread.ensures.next c.args.list))

pub loop-thread-preserved : goal.loop-thread-preserved
loop-thread-preserved c =
    let keeps : (has c.args.self.now c.args.list && has c.args.self.now c.in-Some.id) ≡ true = sym c.stays_in.ensures ∙ c.if-not-stays_in.false in
    let here = rw c.in-Some.is at c.loop-thread.invariant.sweeps in
    record {
      sweeps = sweeps_stays _ _ _ c.in-Some.id c.next-thread.result here keeps (c.next-thread.ensures.next c.args.list);
      others = c.loop-thread.invariant.others;
      slots = c.loop-thread.invariant.slots;
    }

pub returns-clause-swept : goal.returns-clause-swept
returns-clause-swept c =
    let past = rw c.in_default.is at c.loop-thread.invariant.sweeps in
    sweeps_all _ _ _ past
