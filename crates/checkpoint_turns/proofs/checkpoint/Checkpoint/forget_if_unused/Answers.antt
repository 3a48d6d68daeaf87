-- Rooms at rest stay so where a page is forgotten of which nothing is saved.
use Rattle.std.specs.Prelude.{◌≡◌, false}
use Rattle.std.proofs.Common.{rules}
use Rattle.object_records.specs.Pages.{is_content}
use Rattle.object_records.specs.Records.{record_at}
use Rattle.page_store.specs.Known.{Open}
use Rattle.core_turns.specs.Runs.{objects_of}
use Rattle.checkpoint_turns.proofs.ForgetOne.{still_at_rest}
use Rattle.checkpoint_turns.proofs.checkpoint.Checkpoint.forget_if_unused.Goals as goal

pub returns-then-not-is_content-clause-at_rest : goal.returns-then-not-is_content-clause-at_rest
returns-then-not-is_content-clause-at_rest c = λ f v saved pages are h.
    let k = c.args.self.now in
    let none : is_content (record_at (objects_of k.running)) c.args.page ≡ false = search rules in (
      _,
      still_at_rest k.running.rooms c.forget.new.self c.args.page c.requires.page (record_at (objects_of k.running))
          none c.forget.ensures.rest (λ g u content. c.forget.ensures.shows g u content Open) f v saved pages are h,
    )
