use Rattle.std.proofs.Common.{refl}
use Rattle.durable_state.proofs.Words.{fixed_same, pages_same}
use Rattle.durable_state.proofs.laws.words_of_parts.Goals as goal

pub returns-clause-same : goal.returns-clause-same
returns-clause-same c = λ a b v p same h. record {
  in_range = h.in_range;
  fixed = fixed_same c.owners.ensures.format same h.fixed;
  numbers = c.format.ensures.same a b v p.numbers same.numbers h.numbers;
  objects = c.format-2.ensures.same a b v p.objects same.objects h.objects;
  pages = pages_same c.owners.ensures.backup_tag c.owners.ensures.frame same.pages h.pages;
}

pub returns-clause-version_is_free : goal.returns-clause-version_is_free
returns-clause-version_is_free c = λ words v word p h.
    let at = c.owners.ensures.version in
    returns-clause-same c words _ v p (record {
      format = c.owners_are_apart.ensures.word _ _ words _ word at refl;
      fixed = c.owners_are_apart.ensures.word _ _ words _ word at refl;
      numbers = c.owners_are_apart.ensures.word _ _ words _ word at refl;
      objects = c.owners_are_apart.ensures.word _ _ words _ word at refl;
      pages = c.owners_are_apart.ensures.word _ _ words _ word at refl;
    }) h
