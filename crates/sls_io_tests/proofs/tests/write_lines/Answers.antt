use Rattle.std.proofs.Common.{◌≡◌, ◌<◌, ℕ, suc, List, Bor, ◌++◌, ◌∷◌, [], length, get_or, take, drop, sym, ap, ◌∙◌, append_assoc, rules}
use Rattle.std.proofs.lemmas.List.Concat.{flat_map-append}
use Rattle.std.proofs.lemmas.Result.{err_from_is_err_and}
use Rattle.std.proofs.Math.Seq.{split_at}
use Rattle.std.specs.List.{flat_map}
use Rattle.sls_io_tests.proofs.KnownBytes.{AppendsPrefix-append, AppendsPrefix-longer}
use Rattle.sls_io_tests.proofs.tests.write_lines.Goals as goal

-- the text is the lines before, this line, and the lines after
text_around : (lines : List (Bor (List ℕ))) (at : ℕ) (other : Bor (List ℕ)) → at < length lines → flat_map (λ line. line.now) lines
    ≡ (flat_map (λ line. line.now) (take at lines) ++ (get_or lines at other).now) ++ flat_map (λ line. line.now) (drop (suc at) lines)
text_around lines at other within =
    ap (flat_map (λ line. line.now)) (split_at lines at other within)
    ∙ flat_map-append (λ line. line.now) (take at lines) (get_or lines at other ∷ drop (suc at) lines)
    ∙ sym (append_assoc (flat_map (λ line. line.now) (take at lines)) (get_or lines at other).now (flat_map (λ line. line.now) (drop (suc at) lines)))

-- the lines before were written, and of this line a prefix
pub returns-in_err-write-clause-prefix : goal.returns-in_err-write-clause-prefix
returns-in_err-write-clause-prefix g c = λ failed.
    let made = err_from_is_err_and c.from_residual.result c.from_residual.ensures.1 in
    let text = text_around c.args.lines.now c.loop-line.line-index (record { ref_ptr = (0, 0); now = [] }) c.loop-line-test.true in
    rw text (AppendsPrefix-longer _ _ _ _ (AppendsPrefix-append _ _ _ _ _ c.loop-line.invariant.0 (c.write.ensures.prefix (cc (made.1, made.2, failed, c.in_err-write.was)))))
