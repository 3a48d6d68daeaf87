use Rattle.std.proofs.Common.{sym, ◌∙◌}
use Rattle.rv_table.proofs.Decoded.{decoded-row, decoded-found, in_range}
use Rattle.rv_table.proofs.laws.one_row.Goals as goal

pub returns : goal.returns
returns c = record {
  decoded = λ w i. (decoded-found w i, decoded-row w i);
  only = λ w i j h k. let both = sym (decoded-row w i h) ∙ decoded-row w j k in cc;
  in_range = in_range;
}
