use Rattle.std.proofs.Common.{rules}
use Rattle.sls_io.proofs.SourceLemmas.{bound_from_copies, bytes_from_copies, end_from_copies}
use Rattle.sls_io.proofs.memory.source.MemSourceSource.TheImpl.Goals as goal

pub read-tells : goal.read-tells
read-tells = λ c. record {
  bound = bound_from_copies c.args.self.now.bytes.items c.args.buf.now c.new.buf.now c.args.self.now.at c.new.self.now.at c.result c.ensures.count c.ensures.given c.ensures.at;
  bytes = rw c.ensures.stays.0 (bytes_from_copies c.args.self.now.bytes.items c.args.buf.now c.new.buf.now c.args.self.now.at c.new.self.now.at c.result c.ensures.count c.ensures.given c.ensures.at);
  end = rw c.ensures.stays.0 (end_from_copies c.args.self.now.bytes.items c.args.buf.now c.new.buf.now c.args.self.now.at c.new.self.now.at c.result c.ensures.count c.ensures.given c.ensures.at);
  kept = search rules;
  told = search rules;
  never_falls = search rules;
  failed = search rules;
}
