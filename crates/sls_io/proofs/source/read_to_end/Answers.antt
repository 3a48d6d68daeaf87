use Rattle.std.proofs.Common.{◌++◌, take, ◌∙◌, ap, sym, rules, length-append}
use Rattle.std.specs.Io.KnownBytes.{prepend_known}
use Rattle.std.proofs.lemmas.Result.{err_from_is_err_and}
use Rattle.sls_io.proofs.KnownBytes.{prepend_known-append}
use Rattle.sls_io.proofs.source.read_to_end.Goals as goal

-- the bytes that were read last, and found no memory, are lost too
pub returns-in_err-extend_from_slice-clause-lost :
    goal.returns-in_err-extend_from_slice-clause-lost
returns-in_err-extend_from_slice-clause-lost g c =
    let made = err_from_is_err_and c.from_residual-in_err-extend_from_slice.result c.from_residual-in_err-extend_from_slice.ensures.1 in
    let read = c.loop-piece.invariant.1 ∙ ap (prepend_known c.loop-piece.bytes.items) c.in_ok-count.ensures.bytes in
    let sum = length-append c.loop-piece.bytes.items (take c.in_ok-count.count c.read.new.buf) in
    rw made.1 (record {
      taken = c.loop-piece.bytes.items ++ take c.in_ok-count.count c.read.new.buf;
      few = rw (sum, ← c.in_ok-count.ensures.bound.1) (search rules);
      first = read ∙ sym (prepend_known-append _ _ _);
    })
