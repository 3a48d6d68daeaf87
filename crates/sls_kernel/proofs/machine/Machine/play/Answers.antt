use Rattle.std.proofs.Common.{List, sym, ◌∙◌, subst, take, drop, arith, ◌+◌}
use Rattle.std.proofs.lemmas.List.{take_all}
use Rattle.sls_kernel.specs.Plain.{World}
use Rattle.sls_kernel.specs.Shows.{Shows}
use Rattle.sls_kernel.specs.Play.{IsPlayed, played, side_of}
use Rattle.sls_kernel.specs.declared.play.Event.{Event}
use Rattle.sls_kernel.proofs.Plays.{played-more, IsPlayed-next, cut_at}
use Rattle.sls_kernel.proofs.machine.Machine.play.Goals as goal

pub loop-event-preserved : goal.loop-event-preserved
loop-event-preserved c =
    let l = c.loop-event in
    let a = c.in-Ok-step.answer in
    let new = c.in-Ok-step.next in
    let items = c.push_reserved.ensures.items in
    record {
      made = c.in-Ok-step.ensures.image_is;
      count = omega (arith, c.push_reserved.ensures.len, l.invariant.count);
      room = c.push_reserved.ensures.capacity ∙ l.invariant.room;
      so_far = λ w s.
          let before = l.invariant.so_far w s in
          let next = c.in-Ok-step.ensures.world (played w l.answers.items) before.1 in
          rw items (
            IsPlayed-next c.args.events.now l.event-index l.answers.items a (side_of c.args.self) w (side_of l.machine) (side_of new) (omega arith) before.0 next.0,
            subst (λ (x : World). Shows new x) (sym (played-more w l.answers.items a)) next.1,
          );
    }

pub returns-in-Err-clause-unlit : goal.returns-in-Err-clause-unlit
returns-in-Err-clause-unlit c = λ w s.
    let l = c.loop-event in
    let before = l.invariant.so_far w s in
    record {
      done = take l.event-index c.args.events.now;
      rest = drop (l.event-index + 1) c.args.events.now;
      split = cut_at c.args.events.now l.event-index (omega arith) c.in-Err.ensures.cut;
      before = side_of l.machine;
      plays = before.0;
      dark = c.in-Err.ensures.dark (played w l.answers.items) before.1;
    }

pub returns-clause-plays : goal.returns-clause-plays
returns-clause-plays c = λ w s.
    let l = c.loop-event in
    subst (λ (es : List Event). IsPlayed es l.answers.items (side_of c.args.self) w (side_of l.machine))
    (take_all l.event-index c.args.events.now (omega arith)) (l.invariant.so_far w s).0

pub returns-clause-released : goal.returns-clause-released
returns-clause-released c = λ w s. (c.loop-event.invariant.so_far w s).1.counted.released
