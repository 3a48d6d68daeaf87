use Rattle.std.proofs.Common.{sym, refl, subst}
use Rattle.pmem_model.specs.Memory.{word_at}
use Rattle.machine_contract.specs.Courses.{first_course}
use Rattle.machine_contract.specs.Begins.{IsBooted}
use Rattle.kernel_machine.specs.declared.kernel.Kernel.{Kernel}
use Rattle.kernel_machine.specs.Sides.{seen_of}
use Rattle.kernel_machine.specs.Shows.{IsAt}
use Rattle.kernel_machine.proofs.StartSides.{boots}
use Rattle.kernel_machine.proofs.StartCourses.{zero_clean, boots_at}
use Rattle.kernel_machine.proofs.kernel.Kernel.boot.Goals as goal

pub returns-in-Ok-clause-booted : goal.returns-in-Ok-clause-booted
returns-in-Ok-clause-booted c =
    subst (λ (k : Kernel). IsBooted c.args.cores c.args.nvm (seen_of k)) (sym c.begun.ensures)
    (boots c.args.nvm c.args.cores c.in-Ok.start c.in-Ok.ensures.left c.beginning_is_sound.ensures)

pub returns-in-Ok-clause-is_at : goal.returns-in-Ok-clause-is_at
returns-in-Ok-clause-is_at c =
    let image = c.args.image.now in let cores = c.args.cores in let nvm = c.args.nvm in
    let blank = c.formatting.ensures.blank image cores (λ i. 0) (λ i. refl) in
    let shows = c.in-Ok.ensures.shows (word_at nvm) (λ i. 0) blank (zero_clean (word_at nvm) c.requires.zero) in
    subst (λ (k : Kernel). IsAt k (first_course image cores nvm)) (sym c.begun.ensures)
    (boots_at image cores nvm c.in-Ok.start c.requires.cores.0 c.requires.cores.1 c.requires.home c.in-Ok.ensures.bytes
    c.in-Ok.ensures.world shows)
