use Rattle.std.proofs.Common.{[], ◌∷◌, arith, rules}
use Rattle.boot_image.proofs.CodeImages.{code_accepted}
use Rattle.boot_image.proofs.made.of_code.Goals as goal

pub returns-clause-accepted : goal.returns-clause-accepted
returns-clause-accepted c =
    code_accepted 1 (λ k. c.args.words.now) (0 ∷ []) _ (omega arith) (omega arith) (λ k. omega arith) (omega arith) (omega arith) (search rules)
