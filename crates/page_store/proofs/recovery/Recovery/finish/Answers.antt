use Rattle.std.proofs.Common.{◌<◌, arith}
use Rattle.page_store.specs.Stages.{stage_of}
use Rattle.page_store.proofs.BackLaws.{back_ends}
use Rattle.page_store.proofs.BackSteps.{end_back}
use Rattle.page_store.proofs.BackEnds.{passed_is_as_recovered, passed_settles}
use Rattle.page_store.proofs.recovery.Recovery.finish.Goals as goal

pub returns-clause-shows : goal.returns-clause-shows
returns-clause-shows c = λ f v saved fenced h. record {
  at = h.at;
  each = λ page lt. let behind = h.full fenced in
      let low : page < c.args.self.page = omega (arith, lt, behind) in
      back_ends (stage_of c.args.self.pages page) f v page saved (h.done page low lt) (end_back c.args.self page fenced low (h.each page lt));
}

pub returns-clause-settled : goal.returns-clause-settled
returns-clause-settled c = λ f v saved fenced h page lt.
    let behind = h.full fenced in
    let low : page < c.args.self.page = omega (arith, lt, behind) in
    passed_settles (stage_of c.args.self.pages page) (h.done page low lt)

pub returns-clause-recovered : goal.returns-clause-recovered
returns-clause-recovered c = λ f v saved fenced h page lt.
    let behind = h.full fenced in
    let low : page < c.args.self.page = omega (arith, lt, behind) in
    passed_is_as_recovered (stage_of c.args.self.pages page) (h.done page low lt)
