use Rattle.std.proofs.Common.{ap, arith, refl}
use Rattle.version_commit.specs.declared.step.Step.{Step}
use Rattle.version_commit.specs.declared.committer.Committer.{Committer}
use Rattle.first_state.proofs.States.{image_bytes, bytes_hold}
use Rattle.first_format.specs.Parts.{first_parts}
use Rattle.first_format.proofs.Pages.{pages_below}
use Rattle.first_format.proofs.Records.{IsFirstTable, table_has}
use Rattle.first_format.proofs.Steps.{begun_on}
use Rattle.first_format.proofs.formatting.Formatting.new.Goals as goal

pub returns-clause-begun : goal.returns-clause-begun
returns-clause-begun c =
    let image = c.args.image.now in
    let cores = c.args.cores in
    let table : IsFirstTable c.first_objects.result image cores = record {
      state = c.first_objects.ensures.state (image_bytes image) (bytes_hold image);
      fresh = c.first_objects.ensures.fresh;
      scheduler = c.first_objects.ensures.scheduler;
      outputs = c.first_objects.ensures.outputs;
      input = c.first_objects.ensures.input;
      fixed = (c.first_state.ensures.sound image cores c.requires.accepted).fixed;
    } in
    record {
      accepted = c.requires.accepted;
      some = c.requires.some;
      most = c.requires.most;
      records = λ i. table_has c.first_objects.result image cores i table;
      pages = λ page. pages_below image cores page c.pages_in_use.result c.requires.accepted c.pages_in_use.ensures;
      in_range = omega arith;
    }

abbrev format_of : Committer → Step
format_of committer = committer.format

pub returns-clause-shows : goal.returns-clause-shows
returns-clause-shows c = λ f words formats clean. record {
  begun = returns-clause-begun c;
  cores_are = refl;
  words = begun_on (first_parts c.args.image.now c.args.cores) _ f words (ap format_of c.new.ensures.steps) formats.unformatted formats.each clean;
}
