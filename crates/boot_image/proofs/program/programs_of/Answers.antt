use Rattle.std.proofs.Common.{◌≡◌, ◌+◌, ◌++◌, ◌∷◌, [], arith}
use Rattle.std.specs.Prelude.{map}
use Rattle.std.proofs.lemmas.Result.{err_from_is_err_and}
use Rattle.std.proofs.lemmas.List.{map_push, take_rest, length-drop, length-map}
use Rattle.boot_image.specs.Values.{region_value, program_value, objects_of}
use Rattle.boot_image.proofs.ProgramLoop.{goes_on, ends, is_done}
use Rattle.boot_image.proofs.program.programs_of.Goals as goal

pub returns-in_err-program-clause-read : goal.returns-in_err-program-clause-read
returns-in_err-program-clause-read c =
    let p = err_from_is_err_and c.from_residual.result c.from_residual.ensures.1 in
    let read = rw (take_rest c.args.bytes.now c.loop.size) at c.in_err-program.ensures.read in
    rw (p.1, p.2) (ends c.in_err-program.field-0.0 c.args.count c.args.at c.args.objects c.args.pages c.args.bytes.now c.loop.counter c.loop.size
    c.loop.objects c.loop.pages (map program_value c.loop.programs.items) c.loop-test.true c.loop.invariant.so_far read)

pub loop-preserved : goal.loop-preserved
loop-preserved c =
    let program = c.in_ok-program.program in
    let read = rw (take_rest c.args.bytes.now c.loop.size) at c.in_ok-program.ensures.read in
    let whole = rw (take_rest c.args.bytes.now c.loop.size) at c.in_ok-program.ensures.whole in
    let pages = rw (take_rest c.args.bytes.now c.loop.size) at c.in_ok-program.ensures.pages in
    let pushed : map program_value c.push.new.self.items ≡ map program_value c.loop.programs.items ++ program_value program ∷ [] =
    rw c.in_ok-push.ensures.items (map_push program_value c.loop.programs.items program) in
    let objects-is : 2 + c.len.result + c.from.result ≡ objects_of (program_value program) =
    omega (arith, length-map program.regions.items region_value, c.len.ensures, c.from.ensures) in
    record {
      so_far = rw (pushed, objects-is) (goes_on c.args.count c.args.at c.args.objects c.args.pages c.args.bytes.now c.loop.counter c.loop.size c.loop.objects c.loop.pages
          (map program_value c.loop.programs.items) (program_value program) c.in_ok-program.length c.in_ok-program.taken c.loop-test.true c.loop.invariant.so_far read.0 read.1 pages);
      few_objects = omega (arith, c.in_ok-program.ensures.few_objects, objects-is);
      few_pages = c.in_ok-program.ensures.few_pages;
      whole = omega (arith, whole, length-drop c.loop.size c.args.bytes.now, c.loop.invariant.whole);
    }

pub returns-clause-read : goal.returns-clause-read
returns-clause-read c =
    let done = is_done c.args.count c.args.at c.args.objects c.args.pages c.args.bytes.now c.loop.counter c.loop.size c.loop.objects c.loop.pages
    (map program_value c.loop.programs.items) c.loop-test.false c.loop.invariant.so_far in
    (done.kept, done.said)
