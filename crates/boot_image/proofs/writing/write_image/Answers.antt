use Rattle.std.proofs.Common.{◌≡◌, take, ◌∙◌, arith}
use Rattle.std.proofs.lemmas.List.{take_all}
use Rattle.boot_image.specs.Spelling.{word}
use Rattle.boot_image.proofs.ImagesSaid.{image_text}
use Rattle.boot_image.proofs.writing.write_image.Goals as goal

pub returns : goal.returns
unfolding word
returns c =
    let programs = c.args.image.now.programs.items in
    let all : take c.loop-program.program-index programs ≡ programs = take_all c.loop-program.program-index programs (omega arith) in
    record {
      bytes = record {
        spelled = c.loop-program.invariant ∙ rw all (image_text c.args.image.now);
        accepted = c.requires.accepted;
      };
    }
