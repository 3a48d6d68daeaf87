use Rattle.std.specs.Prelude.{Option, ℕ, is_some}
use Rattle.std.proofs.Common.{sym, ◌∙◌, rules, tests}
use Rattle.std.proofs.lemmas.Iterator.{YieldsList-from_slice}
use Rattle.std.proofs.lemmas.Iterator.Search.{any_from_yields_List}
use Rattle.checkpoint_turns.proofs.ResumeHands.{none_in, some_in}
use Rattle.checkpoint_turns.proofs.checkpoint.Checkpoint.has_page_in_hand.Goals as goal

pub returns : goal.returns
returns c =
    let hands = c.args.self.now.running.prepares in
    let told = any_from_yields_List (λ (hand : Option ℕ). is_some hand) _ _ c.any.result c.any.ensures.ran
    (YieldsList-from_slice hands cc) (λ x b q k. search (rules, tests)) in
    record { none = λ e. none_in hands (sym told ∙ e); some = λ e. some_in hands (sym told ∙ e) }
