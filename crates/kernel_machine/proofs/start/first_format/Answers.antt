-- Words that may be left of formatting from the image may be left of formatting from its copy.
use Rattle.std.proofs.Common.{sym}
use Rattle.kernel_machine.proofs.start.first_format.Goals as goal

pub returns-clause-shows : goal.returns-clause-shows
returns-clause-shows c = λ f words left clean.
    c.new-formatting.ensures.shows f words
    (c.images_of_programs.ensures.formats c.args.image.now c.in_ok-copy.copy c.args.cores words
    (sym c.in_ok-copy.ensures) left)
    clean
