use Rattle.std.proofs.Common.{◌≡◌, ◌+◌, ◌<◌, ◌≤◌, ◌∙◌, ◌++◌, [], ap, sym, replicate, get_or, List, ℕ, arith}
use Rattle.std.specs.List.{flat_map}
use Rattle.std.proofs.lemmas.List.{get_or-replicate, get_or-append-add}
use Rattle.std.proofs.Math.ListN.{get_or-append}
use Rattle.first_state.specs.Content.{image_parts, program_parts}
use Rattle.first_state.proofs.content.content_on.Goals as goal

pub returns-in_default : goal.returns-in_default
unfolding image_parts
returns-in_default c =
    let none : 4 ≤ c.args.page → ⊥ = c.in_default.ensures in
    let before : c.args.page < 4 = omega (arith, none) in
    let rings : List (List ℕ) = replicate 4 [] in
    sym (get_or-append rings (flat_map program_parts c.args.image.now.programs.items) [] c.args.page before ∙ get_or-replicate 4 c.args.page [] [] before)

pub loop-program-init : goal.loop-program-init
unfolding image_parts
loop-program-init c =
    let h = c.in-Some.ensures in
    let at : c.args.page ≡ 4 + c.in-Some.left = omega (arith, h.0, h.1) in
    let rings : List (List ℕ) = replicate 4 [] in
    let parts = flat_map program_parts c.args.image.now.programs.items in
    sym (ap (λ page. get_or (rings ++ parts) page []) at ∙ get_or-append-add rings parts c.in-Some.left [])
