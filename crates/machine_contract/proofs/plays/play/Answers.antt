use Rattle.std.proofs.Common.{List, subst, take, drop, arith, ◌+◌}
use Rattle.std.proofs.lemmas.List.{take_all}
use Rattle.machine_contract.specs.declared.answers.Event.{Event}
use Rattle.machine_contract.specs.Courses.{after, label_of, labels_of, played}
use Rattle.machine_contract.proofs.Chains.{IsPlayed-next, cut_at}
use Rattle.machine_contract.proofs.plays.play.Goals as goal

pub loop-event-preserved : goal.loop-event-preserved
loop-event-preserved g c =
    let T = g.M.Machine in
    let l = c.loop-event in
    let e = c.event-item.result in
    let a = c.in-Ok-step.answer in
    let new = c.in-Ok-step.next in
    let items = c.push_reserved.ensures.items in
    let step = c.in-Ok-step.ensures in
    let shows = l.invariant.shown.1 in
    record {
      shown = (after l.invariant.shown.0 (label_of e a), step.shows l.invariant.shown.0 shows);
      kept = record {
        sound = step.kept.sound;
        cores = omega (arith, step.kept.cores, l.invariant.kept.cores);
      };
      made = step.made;
      count = omega (arith, c.push_reserved.ensures.len, l.invariant.count);
      room = omega (arith, c.push_reserved.ensures.capacity, l.invariant.room);
      so_far = λ k s.
          let before = l.invariant.so_far k s in
          let now = played k (labels_of (take l.event-index c.args.events.now) l.answers.items) in
          let then = step.shows now before.1 in
          rw items (IsPlayed-next T.format T.seen T.shows c.args.events.now l.event-index l.answers.items e a
          c.args.machine k l.now new (omega arith) c.event-item.is before.0 (record {
            goes = step.goes now before.1;
            shows = then;
            shown = g.met.M.Machine.is_shown new (after now (label_of e a)) then;
          }));
    }

pub returns-in-Err-clause-unlit : goal.returns-in-Err-clause-unlit
returns-in-Err-clause-unlit g c = λ k s.
    let l = c.loop-event in
    let before = l.invariant.so_far k s in
    record {
      done = take l.event-index c.args.events.now;
      rest = drop (l.event-index + 1) c.args.events.now;
      split = cut_at c.args.events.now l.event-index c.event-item.result (omega arith) c.event-item.is
          c.in-Err.ensures.cut;
      before = l.now;
      plays = before.0;
      dark = c.in-Err.ensures.dark (played k (labels_of (take l.event-index c.args.events.now) l.answers.items))
          before.1;
    }

pub returns-clause-released : goal.returns-clause-released
returns-clause-released g c = λ k s.
    let T = g.M.Machine in
    let l = c.loop-event in
    let shows = (l.invariant.so_far k s).1 in
    let law = g.met.M.Machine.is_shown l.now in
    let all = take_all l.event-index c.args.events.now (omega arith) in
    (law (played k (labels_of c.args.events.now l.answers.items))
    (subst (λ (es : List Event). T.shows l.now (played k (labels_of es l.answers.items))) all shows)
    ).counted.in_order.released
