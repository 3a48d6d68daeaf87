use Rattle.rv_table.proofs.Decoded.{exact}
use Rattle.rv_table.proofs.reading.decode.Goals as goal

pub returns-clause-decoded : goal.returns-clause-decoded
returns-clause-decoded c = exact c.args.word c.row.result c.row.ensures.found c.row.ensures.only
