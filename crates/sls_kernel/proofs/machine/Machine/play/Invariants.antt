use Rattle.std.proofs.Common.{◌≡◌, length, take, vec_len, vec_capacity}
use Rattle.sls_kernel.specs.Plain.{World}
use Rattle.sls_kernel.specs.Program.{program_bytes}
use Rattle.sls_kernel.specs.Shows.{Shows, image_of}
use Rattle.sls_kernel.specs.Play.{IsPlayed, played, side_of}
use Rattle.sls_kernel.proofs.machine.Machine.play.Given as goal

abbrev pub invariant-loop-event : goal.invariant-loop-event
invariant-loop-event l = record {
  made : image_of l.machine ≡ program_bytes l.image;
  count : vec_len l.answers ≡ l.event-index;
  room : vec_capacity l.answers ≡ length l.events;
  so_far : (w : World) → Shows l.fn.self w → IsPlayed (take l.event-index l.events) l.answers.items (side_of l.fn.self) w (side_of l.machine) × Shows l.machine (played w l.answers.items);
}
