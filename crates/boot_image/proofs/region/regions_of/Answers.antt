use Rattle.std.proofs.Common.{◌≡◌, ◌++◌, ◌∷◌, [], arith}
use Rattle.std.specs.Prelude.{map}
use Rattle.std.proofs.lemmas.Result.{err_from_is_err_and}
use Rattle.std.proofs.lemmas.List.{map_push, take_rest, length-drop}
use Rattle.boot_image.specs.Values.{region_value}
use Rattle.boot_image.proofs.RegionLoop.{goes_on, ends, is_done}
use Rattle.boot_image.proofs.region.regions_of.Goals as goal

pub returns-in_err-spec-clause-read : goal.returns-in_err-spec-clause-read
returns-in_err-spec-clause-read c =
    let p = err_from_is_err_and c.from_residual.result c.from_residual.ensures.1 in
    let read = rw (take_rest c.args.bytes.now c.loop.size, c.deref.ensures.value) at c.in_err-spec.ensures.read in
    rw (p.1, p.2) (ends c.in_err-spec.field-0.0 c.args.count c.args.at c.args.pages c.args.bytes.now c.loop.counter c.loop.size c.loop.taken
    (map region_value c.loop.specs.items) c.loop-test.true c.loop.invariant.so_far read)

pub loop-preserved : goal.loop-preserved
loop-preserved c =
    let spec = c.in_ok-spec.spec in
    let read = rw (take_rest c.args.bytes.now c.loop.size, c.deref.ensures.value) at c.in_ok-spec.ensures.read in
    let whole = rw (take_rest c.args.bytes.now c.loop.size) at c.in_ok-spec.ensures.whole in
    let pushed : map region_value c.push.new.self.items ≡ map region_value c.loop.specs.items ++ region_value spec ∷ [] =
    rw c.in_ok-push.ensures.items (map_push region_value c.loop.specs.items spec) in
    record {
      so_far = rw (pushed, c.from-taken.ensures) (goes_on c.args.count c.args.at c.args.pages c.args.bytes.now c.loop.counter c.loop.size c.loop.taken
          (map region_value c.loop.specs.items) (region_value spec) c.in_ok-spec.length c.loop-test.true c.loop.invariant.so_far read.0 read.1);
      few = omega (arith, c.in_ok-spec.ensures.few, c.from-taken.ensures);
      whole = omega (arith, whole, length-drop c.loop.size c.args.bytes.now, c.loop.invariant.whole);
    }

pub returns-clause-read : goal.returns-clause-read
returns-clause-read c =
    let done = is_done c.args.count c.args.at c.args.pages c.args.bytes.now c.loop.counter c.loop.size c.loop.taken (map region_value c.loop.specs.items)
    c.loop-test.false c.loop.invariant.so_far in
    (done.kept, done.said)

pub returns-clause-pages : goal.returns-clause-pages
returns-clause-pages c =
    let done = is_done c.args.count c.args.at c.args.pages c.args.bytes.now c.loop.counter c.loop.size c.loop.taken (map region_value c.loop.specs.items)
    c.loop-test.false c.loop.invariant.so_far in
    done.sum
