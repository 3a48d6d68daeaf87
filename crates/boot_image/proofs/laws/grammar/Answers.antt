use Rattle.boot_image.proofs.ImagesAgain.{image_again, one_image}
use Rattle.boot_image.proofs.laws.grammar.Goals as goal

pub returns : goal.returns
returns c = record {
  unbroken = λ bytes image h. (image_again bytes image h).fault;
  one_image = one_image;
}
