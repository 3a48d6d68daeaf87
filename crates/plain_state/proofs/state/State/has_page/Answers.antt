use Rattle.std.proofs.Common.{◌==◌, ℕ, refl, rules, tests}
use Rattle.std.specs.List.{list_any}
use Rattle.std.proofs.lemmas.Iterator.{YieldsList-from_range}
use Rattle.std.proofs.lemmas.Iterator.Search.{any_from_yields_List}
use Rattle.plain_state.specs.Objects.{page_numbers, every_object}
use Rattle.plain_state.specs.Worlds.{has_page}
use Rattle.plain_state.specs.Slow.{state_of}
use Rattle.plain_state.proofs.state.State.has_page.Goals as goal

pub returns : goal.returns
unfolding has_page every_object state_of
returns c =
    any_from_yields_List (λ (i : ℕ). list_any (λ (number : ℕ). number == c.args.page) (page_numbers ((state_of c.args.self.now).objects i))) _ _ c.any.result c.any.ensures.ran
    (YieldsList-from_range 0 128 128 (cc) refl) (λ x b q k. search (rules, tests))
