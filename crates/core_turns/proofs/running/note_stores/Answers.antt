use Rattle.std.proofs.Common.{ap, ◌∙◌}
use Rattle.version_rooms.specs.declared.rooms.Rooms.{Rooms}
use Rattle.page_store.specs.Stages.{stage_of}
use Rattle.core_turns.proofs.Noted.{noted_next, stays_at_rest}
use Rattle.core_turns.proofs.running.note_stores.Goals as goal

pub loop-page-preserved : goal.loop-page-preserved
loop-page-preserved c =
    let first = c.args.rooms.now in
    let old = c.loop-page.rooms in
    let new = c.note_store.new.self in
    let noted = c.note_store.ensures in
    let before = c.loop-page.invariant in record {
      stages = noted_next c.args.pages.now c.loop-page.page-index c.loop-page-test.true (λ page. stage_of first.pages page)
          (λ page. stage_of old.pages page) (λ page. stage_of new.pages page) noted.stage noted.others before.stages;
      same = noted.rest ∙ ap (λ (r : Rooms). record r { pages = new.pages }) before.same;
      at_rest = λ f v saved now h.
          let rest = before.at_rest f v saved now h in
          (_, stays_at_rest old new _ noted.shows noted.rest f v saved rest.0 rest.1);
    }
