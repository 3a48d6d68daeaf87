use Rattle.std.proofs.lemmas.Bool.{false≢true}
use Rattle.plain_model.specs.Initial.{IsApart}
use Rattle.plain_model.proofs.SlowImages.{all_pairs_of_first, first_of_all_pairs, others_of_all_pairs}
use Rattle.plain_model.proofs.image.+are_apart.Goals as goal

pub returns-then-is_apart_from_all : goal.returns-then-is_apart_from_all
returns-then-is_apart_from_all t c =
    let xs = c.args.specs.now in
    let x = c.spec-item.result in (
      λ e. all_pairs_of_first IsApart xs x c.in-len1-up.len_at_least c.spec-item.is (c.is_apart_from_all.ensures.0 c.if-is_apart_from_all.true) (c.are_apart.ensures.0 e),
      λ pairs. c.are_apart.ensures.1 (others_of_all_pairs IsApart xs x c.in-len1-up.len_at_least c.spec-item.is pairs),
    )

pub returns-else-is_apart_from_all : goal.returns-else-is_apart_from_all
returns-else-is_apart_from_all t c =
    let xs = c.args.specs.now in
    let x = c.spec-item.result in (
      λ e. absurd (false≢true (cc)),
      λ pairs. c.is_apart_from_all.ensures.1 (first_of_all_pairs IsApart xs x c.in-len1-up.len_at_least c.spec-item.is pairs),
    )
