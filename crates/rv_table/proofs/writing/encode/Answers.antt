use Rattle.rv_table.proofs.Decoded.{decoded-row}
use Rattle.rv_table.proofs.writing.encode.Goals as goal

pub returns-clause-read_back : goal.returns-clause-read_back
returns-clause-read_back c = decoded-row _ _ c.word.ensures.row
