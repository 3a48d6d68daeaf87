use Rattle.rv_asm.proofs.Feeds.{lines_cut, lines_last}
use Rattle.rv_asm.proofs.lines.first_line.Goals as goal

pub returns-in_default-clause-lines : goal.returns-in_default-clause-lines
returns-in_default-clause-lines c =
    lines_last c.args.text.now _ _ c.split_before.ensures.front c.split_before.ensures.rest c.in_default.len_below

pub returns-in_default-len1-up-clause-lines : goal.returns-in_default-len1-up-clause-lines
returns-in_default-len1-up-clause-lines c =
    lines_cut c.args.text.now _ _ _ c.split_before.ensures.front c.split_before.ensures.rest c.without_return.ensures c.in_default-len1-up.len_at_least
