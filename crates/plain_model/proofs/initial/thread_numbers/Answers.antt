use Rattle.std.proofs.Common.{◌≡◌, ℕ, ◌∙◌, ap, sym, map, arith, Bool, Vec, Global}
use Rattle.std.specs.Prelude.{slice_get}
use Rattle.plain_state.specs.Objects as objects
use Rattle.plain_state.specs.Slow.{object_of}
use Rattle.plain_model.proofs.SlowInitial.{filter_taken, filter_left, object_at}
use Rattle.plain_model.proofs.initial.thread_numbers.Goals as goal
use Rattle.plain_model.proofs.initial.thread_numbers.Goals.{then-is_thread+in_ok-push, else-is_thread}

pub loop-i-preserved : goal.loop-i-preserved
loop-i-preserved c =
    let list = c.args.list.now in
    let i = c.loop-i.i in
    let p : ℕ → Bool = λ i. objects.is_thread (slice_get (map object_of list) i) in
    let here : p i ≡ c.is_thread.result = ap objects.is_thread (object_at list i c.index-list-i.result (omega arith) c.index-list-i.is) ∙ sym c.is_thread.ensures in
    elim c.if-is_thread.branch [
      | then-is_thread+in_ok-push w ↦ filter_taken p i c.loop-i.queue.items _ c.loop-i.invariant (here ∙ w.if-is_thread.true) (ap (λ (v : Vec ℕ Global). v.items) w.queue-is ∙ w.in_ok-push.ensures.items)
      | else-is_thread w ↦ filter_left p i c.loop-i.queue.items _ c.loop-i.invariant (here ∙ w.if-is_thread.false) (ap (λ (v : Vec ℕ Global). v.items) w.queue-is)
    ]
