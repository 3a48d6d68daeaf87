use Rattle.std.proofs.Common.{◌∙◌, ap, sym, List, ℕ, []}
use Rattle.std.specs.Prelude.{slice_index_or}
use Rattle.std.specs.Option.{option_copied}
use Rattle.kernel_calls.proofs.Queued.{none_first}
use Rattle.kernel_calls.proofs.inputs.Inputs.first.Goals as goal

pub returns-in-None-clause-bytes : goal.returns-in-None-clause-bytes
returns-in-None-clause-bytes c =
    none_first _ c.self.inside.waiting.items (sym (ap option_copied c.in-None.is) ∙ c.front.ensures) ∙ ap (λ (l : List (List ℕ)). slice_index_or l 0 []) c.self.view_is
