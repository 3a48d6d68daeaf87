use Rattle.std.proofs.Common.{Some, None, sym, ◌∙◌, arith, refl}
use Rattle.mem_space.proofs.Translation.{found_fits, found_form, translates_to, first_fits}
use Rattle.mem_space.proofs.space.Space.translate.Goals as goal

pub returns-in_err-region-clause-only : goal.returns-in_err-region-clause-only
returns-in_err-region-clause-only c = λ object index t.
    let none = first_fits c.args.self.now c.args.at c.args.right object index None c.requires (sym c.covering.ensures ∙ c.in_err-region.was) t in cc

pub overflow_sub-index : goal.overflow_sub-index
overflow_sub-index c =
    (found_fits c.args.self.now c.args.at c.args.right c.in_ok-region.region (sym c.covering.ensures ∙ c.in_ok-region.was)).1.0

pub overflow_cast-index : goal.overflow_cast-index
overflow_cast-index c =
    let is = sym c.covering.ensures ∙ c.in_ok-region.was in
    let fits = found_fits c.args.self.now c.args.at c.args.right c.in_ok-region.region is in
    let form = found_form c.args.self.now c.args.at c.args.right c.in_ok-region.region c.requires is in
    omega (arith, fits.1, form.within_memory)

pub overflow_add-index : goal.overflow_add-index
overflow_add-index c =
    let is = sym c.covering.ensures ∙ c.in_ok-region.was in
    let fits = found_fits c.args.self.now c.args.at c.args.right c.in_ok-region.region is in
    let form = found_form c.args.self.now c.args.at c.args.right c.in_ok-region.region c.requires is in
    omega (arith, fits.1, form.within_memory)

pub returns-clause-found : goal.returns-clause-found
returns-clause-found c =
    translates_to c.args.self.now c.args.at c.args.right _ _ (Some c.in_ok-region.region) (sym c.covering.ensures ∙ c.in_ok-region.was) refl

pub returns-clause-only : goal.returns-clause-only
returns-clause-only c = λ object index t.
    first_fits c.args.self.now c.args.at c.args.right object index (Some c.in_ok-region.region) c.requires (sym c.covering.ensures ∙ c.in_ok-region.was) t

pub returns-clause-known_memory : goal.returns-clause-known_memory
returns-clause-known_memory c =
    (found_form c.args.self.now c.args.at c.args.right c.in_ok-region.region c.requires (sym c.covering.ensures ∙ c.in_ok-region.was)).known_memory

pub returns-clause-in_memory : goal.returns-clause-in_memory
returns-clause-in_memory c =
    let is = sym c.covering.ensures ∙ c.in_ok-region.was in
    let fits = found_fits c.args.self.now c.args.at c.args.right c.in_ok-region.region is in
    let form = found_form c.args.self.now c.args.at c.args.right c.in_ok-region.region c.requires is in
    omega (arith, fits.1, form.within_memory)
