use Rattle.std.proofs.Common.{◌≡◌, ◌∙◌, sym, true, false}
use Rattle.link_lists.specs.Lists.{list_at}
use Rattle.tree_walk.specs.Reached.{has}
use Rattle.tree_walk.proofs.Loses.{passes_none_yet, passes_none_on, passes_shorter, loses_here, loses_none, loses_alike, in_list}
use Rattle.tree_walk.proofs.reached.Reached.loses_any.Goals as goal

pub loop-thread-init : goal.loop-thread-init
loop-thread-init c = passes_none_yet c.args.self.now _ _ c.first-thread.ensures.first

pub returns-then-not-has : goal.returns-then-not-has
returns-then-not-has c s tells =
    let threads = list_at c.args.objects.now.links c.args.list in
    let gone : has c.args.self.now c.in-Some.id ≡ false = sym c.has.ensures ∙ c.if-not-has.true in
    let here = rw c.in-Some.is at c.loop-thread.invariant in
    sym (loses_here c.args.self.now threads c.in-Some.id here gone) ∙ loses_alike c.args.self.now s threads tells

pub next-thread-requires : goal.next-thread-requires
next-thread-requires c =
    let threads = list_at c.args.objects.now.links c.args.list in
    let here = rw c.in-Some.is at c.loop-thread.invariant in
    c.first-thread.ensures.once.below c.args.list c.in-Some.id (in_list c.args.self.now threads c.in-Some.id here)

pub loop-thread-smaller : goal.loop-thread-smaller
loop-thread-smaller c =
    let threads = list_at c.args.objects.now.links c.args.list in
    let stays : has c.args.self.now c.in-Some.id ≡ true = sym c.has.ensures ∙ c.if-not-has.false in
    let here = rw c.in-Some.is at c.loop-thread.invariant in
    rw c.in-Some.is (passes_shorter c.args.self.now threads c.in-Some.id c.next-thread.result (c.first-thread.ensures.once.distinct c.args.list) here stays (c.next-thread.ensures.next c.args.list))

pub loop-thread-preserved : goal.loop-thread-preserved
loop-thread-preserved c =
    let threads = list_at c.args.objects.now.links c.args.list in
    let stays : has c.args.self.now c.in-Some.id ≡ true = sym c.has.ensures ∙ c.if-not-has.false in
    let here = rw c.in-Some.is at c.loop-thread.invariant in
    passes_none_on c.args.self.now threads c.in-Some.id c.next-thread.result here stays (c.next-thread.ensures.next c.args.list)

pub returns : goal.returns
returns c s tells =
    let threads = list_at c.args.objects.now.links c.args.list in
    let past = rw c.in_default.is at c.loop-thread.invariant in
    sym (loses_none c.args.self.now threads past) ∙ loses_alike c.args.self.now s threads tells
