use Rattle.std.proofs.Common.{◌≡◌, ◌++◌, ◌∷◌, [], sym, ap, ◌∙◌, arith}
use Rattle.std.specs.Prelude.{map}
use Rattle.std.specs.List.{range_with_len}
use Rattle.std.proofs.lemmas.List.{map_push}
use Rattle.std.proofs.lemmas.List.FromFn.{map-range_with_len_more}
use Rattle.boot_image.specs.Values.{program_value}
use Rattle.boot_image.specs.Made.{code_program, made_words, made_program}
use Rattle.boot_image.proofs.CodeImages.{code_accepted, length-made_words}
use Rattle.boot_image.proofs.made.generated.Goals as goal

pub loop-program-preserved : goal.loop-program-preserved
loop-program-preserved c =
    let p = c.in_ok-program_of.field-0 in
    let program = c.loop-program.program in
    let pushed : map program_value c.push.new.self.items ≡ map program_value c.loop-program.programs.items ++ program_value p ∷ [] =
    rw c.in_ok-push.ensures.items (map_push program_value c.loop-program.programs.items p) in
    let p-is : program_value p ≡ made_program c.args.number program = c.in_ok-program_of.ensures ∙ ap (code_program 16) c.made_words.ensures in
    pushed ∙ rw (c.loop-program.invariant, p-is) (sym (map-range_with_len_more (made_program c.args.number) 0 program program (omega arith)))

pub returns-clause-accepted : goal.returns-clause-accepted
returns-clause-accepted c =
    let last : c.loop-program.program ≡ 8 = omega arith in
    code_accepted 16 (made_words c.args.number) (range_with_len 0 8) _ (omega arith) (omega arith)
    (λ k. omega (arith, length-made_words c.args.number k)) (omega arith) (omega arith) (rw last at c.loop-program.invariant)
