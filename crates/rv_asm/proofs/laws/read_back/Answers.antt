use Rattle.std.proofs.Common.{ℕ, List, sym, subst}
use Rattle.rv_asm.specs.Printed.{text_of}
use Rattle.rv_asm.specs.Program.{IsAssembled}
use Rattle.rv_asm.proofs.Round.{one_program, come_back, all_tabled}
use Rattle.rv_asm.proofs.laws.read_back.Goals as goal

pub returns : goal.returns
returns c = λ ws found few words.
    let table = c.one_row.ensures in
    let back = come_back ws (all_tabled ws words (λ w. record { row = λ i h. (table.decoded w i).0 h; in_range = λ i h. table.in_range w i h })) few in
    let P : List ℕ → Type 0 = λ f. IsAssembled (text_of ws) f in
    (λ h. one_program (text_of ws) found ws h back, λ e. subst P (sym e) back)
