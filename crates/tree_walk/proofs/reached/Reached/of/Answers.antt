use Rattle.std.proofs.Common.{◌≡◌, ◌<◌, ◌∙◌, ℕ, List, ap, sym, arith, length, true}
use Rattle.std.specs.Prelude.{slice_index}
use Rattle.tree_walk.specs.Reached.{has}
use Rattle.tree_walk.proofs.Lists.{among_at}
use Rattle.tree_walk.proofs.Walks.{walks_begin, walks_on, walks_end}
use Rattle.tree_walk.proofs.reached.Reached.of.Goals as goal

pub loop-entered-init : goal.loop-entered-init
loop-entered-init c = walks_begin c.args.objects.now _ _ c.reached_is_least.ensures.least c.new-walk.ensures

pub loop-entered-preserved : goal.loop-entered-preserved
loop-entered-preserved c =
    let walk = c.loop-entered.walk in
    let entered = c.loop-entered.entered in
    let left : entered < length walk.found.items = omega (arith, c.len.ensures.value) in
    let here : slice_index walk.found.items entered ≡ slice_index c.deref.result.now entered = ap (λ (l : List ℕ). slice_index l entered) (sym c.deref.ensures.0) in
    let was : has walk.reached (slice_index c.deref.result.now entered) ≡ true = rw (← here) (walk.listed (slice_index walk.found.items entered) ∙ among_at walk.found.items entered left) in
    walks_on c.args.objects.now walk.reached c.enter.new.self.reached walk.found.items c.enter.new.self.found.items entered _
    c.reached_is_least.ensures.least left here was c.loop-entered.invariant
    (record { finds = c.enter.ensures.reached; there = c.enter.ensures.there }) c.enter.ensures.found

pub returns : goal.returns
returns c rest =
    let walk = c.loop-entered.walk in
    let all : c.loop-entered.entered ≡ length walk.found.items = omega (arith, c.loop-entered.invariant.within, c.len.ensures.value) in
    walks_end c.args.objects.now walk.reached walk.found.items rest c.reached_is_least.ensures.least (rw all at c.loop-entered.invariant) walk.listed
