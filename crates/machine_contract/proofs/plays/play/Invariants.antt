use Rattle.std.proofs.Common.{◌≡◌, length, take, vec_len, vec_capacity}
use Rattle.machine_contract.specs.Courses.{Course, labels_of, played}
use Rattle.machine_contract.specs.Begins.{IsKept}
use Rattle.machine_contract.specs.Play.{IsPlayed}
use Rattle.machine_contract.proofs.plays.play.Given as goal

abbrev pub invariant-loop-event : goal.invariant-loop-event
invariant-loop-event g l =
    let T = g.M.Machine in record {
      shown : (c : Course) × T.shows l.now c;
      kept : IsKept (T.seen l.fn.machine) (T.seen l.now);
      made : T.is_made_from l.now l.image;
      count : vec_len l.answers ≡ l.event-index;
      room : vec_capacity l.answers ≡ length l.events;
      so_far : (c : Course) → T.shows l.fn.machine c
          → IsPlayed T.format T.seen T.shows (take l.event-index l.events) l.answers.items l.fn.machine c l.now
          × T.shows l.now (played c (labels_of (take l.event-index l.events) l.answers.items));
    }
