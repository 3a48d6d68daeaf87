use Rattle.std.proofs.Common.{◌≡◌, IsSome, length, sym, arith, below_more}
use Rattle.sls_base.specs.declared.limits.TheConstants.{GROUP_SLOTS}
use Rattle.cap_group.specs.Group.{cap_at, IsLowestFree, IsFull}
use Rattle.cap_group.proofs.GroupLemmas.{position-lowest, position-full, cap_at-taken, cap_at-empty}
use Rattle.cap_group.proofs.group.Group.lowest_free.Goals as goal

pub returns-then-is_none-clause-first_free : goal.returns-then-is_none-clause-first_free
returns-then-is_none-clause-first_free c =
    let all : length c.args.self.now.slots ≡ GROUP_SLOTS = omega arith in
    let lowest : IsLowestFree c.args.self.now c.loop-slot.slot = record {
      there = c.loop-slot-test.true;
      free = cap_at-empty c.args.self.now _ (omega arith) c.if-is_none.ensures;
      lowest = c.loop-slot.invariant;
    } in
    sym (position-lowest c.args.self.now c.loop-slot.slot all lowest)

pub loop-slot-preserved : goal.loop-slot-preserved
loop-slot-preserved c =
    below_more (λ k. IsSome (cap_at c.args.self.now k)) _ c.loop-slot.invariant (cap_at-taken c.args.self.now _ (omega arith) c.if-is_none.ensures)

pub returns-clause-first_free : goal.returns-clause-first_free
returns-clause-first_free c =
    let full : IsFull c.args.self.now = λ k below. c.loop-slot.invariant k (omega arith) in
    sym (position-full c.args.self.now (omega arith) full)
