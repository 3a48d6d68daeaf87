use Rattle.std.proofs.Common.{◌≡◌, ◌≢◌, ◌∙◌, sym, subst}
use Rattle.pmem_model.specs.Memory.{word_at}
use Rattle.pmem_layout.specs.declared.places.TheConstants.{FORMAT_AT}
use Rattle.machine_contract.specs.Shown.{durable_of}
use Rattle.machine_contract.specs.Begins.{IsLit}
use Rattle.kernel_machine.specs.declared.kernel.Kernel.{Kernel}
use Rattle.kernel_machine.specs.Sides.{seen_of}
use Rattle.kernel_machine.specs.Shows.{IsAt, IsLive}
use Rattle.kernel_machine.proofs.StartSides.{formats_again, recovers_again}
use Rattle.kernel_machine.proofs.StartCourses.{left_clean, formats_at, formats_live, none_counted, cores_few, recovers_at}
use Rattle.kernel_machine.proofs.kernel.Kernel.light.Goals as goal

-- The memory isn't formatted.

pub returns-in-Ok-clause-lit : goal.returns-in-Ok-clause-lit
returns-in-Ok-clause-lit c =
    let off = c.args.off in
    subst (λ (k : Kernel). IsLit off (seen_of k)) (sym c.begun.ensures)
    (formats_again off c.args.cores c.in-Ok.start c.in-Ok.ensures.left c.beginning_is_sound.ensures
    (sym c.durable.ensures ∙ c.if-durable-eq0.true))

pub returns-in-Ok-clause-is_at : goal.returns-in-Ok-clause-is_at
returns-in-Ok-clause-is_at c = λ course h world.
    let off = c.args.off in let words = word_at off.nvm in
    let blank : (words FORMAT_AT).durable ≡ 0 = sym c.durable.ensures ∙ c.if-durable-eq0.true in
    let left = (c.requires.image blank).1 in
    let shows = c.in-Ok.ensures.shows words (durable_of words) left (left_clean words c.requires.clean) in
    subst (λ (k : Kernel). IsAt k course) (sym c.begun.ensures)
    (formats_at off c.args.image.now c.args.cores c.in-Ok.start c.requires.cores.0 c.requires.cores.1 c.requires.home
    c.in-Ok.ensures.bytes c.in-Ok.ensures.world shows course h (world blank))

pub returns-in-Ok-clause-live : goal.returns-in-Ok-clause-live
returns-in-Ok-clause-live c =
    let off = c.args.off in let words = word_at off.nvm in
    let blank : (words FORMAT_AT).durable ≡ 0 = sym c.durable.ensures ∙ c.if-durable-eq0.true in
    let left = (c.requires.image blank).1 in
    let shows = c.in-Ok.ensures.shows words (durable_of words) left (left_clean words c.requires.clean) in
    subst (λ (k : Kernel). IsLive k) (sym c.begun.ensures)
    (formats_live off c.args.image.now c.args.cores c.in-Ok.start c.requires.cores.0 c.requires.cores.1 c.requires.home
    c.in-Ok.ensures.bytes c.in-Ok.ensures.world shows
    (none_counted off c.args.image.now c.args.cores c.in-Ok.start c.requires.lightable blank))

-- It is formatted.

pub cores_of-cores-requires : goal.cores_of-cores-requires
cores_of-cores-requires c =
    let there : (word_at c.args.off.nvm FORMAT_AT).durable ≢ 0 =
    λ e. c.if-durable-eq0.false (c.durable.ensures ∙ e) in
    record { few = (cores_few c.args.off c.requires.lightable there).most }

pub returns-in-Ok-restoring-clause-lit : goal.returns-in-Ok-restoring-clause-lit
returns-in-Ok-restoring-clause-lit c =
    let off = c.args.off in
    subst (λ (k : Kernel). IsLit off (seen_of k)) (sym c.begun-in-Ok-restoring.ensures)
    (recovers_again off c.cores_of-cores.result c.in-Ok-restoring.start c.in-Ok-restoring.ensures.first
    c.in-Ok-restoring.ensures.left c.beginning_is_sound.ensures (λ e. c.if-durable-eq0.false (c.durable.ensures ∙ e)))

pub returns-in-Ok-restoring-clause-is_at : goal.returns-in-Ok-restoring-clause-is_at
returns-in-Ok-restoring-clause-is_at c = λ course h world.
    let off = c.args.off in
    let there : (word_at off.nvm FORMAT_AT).durable ≢ 0 = λ e. c.if-durable-eq0.false (c.durable.ensures ∙ e) in
    subst (λ (k : Kernel). IsAt k course) (sym c.begun-in-Ok-restoring.ensures)
    (recovers_at off c.in-Ok-restoring.start c.cores_of-cores.result c.cores_of-cores.ensures
    (cores_few off c.requires.lightable there) c.requires.home c.requires.clean c.in-Ok-restoring.ensures.shows there
    course h)

pub returns-in-Ok-restoring-clause-live : goal.returns-in-Ok-restoring-clause-live
returns-in-Ok-restoring-clause-live c =
    let off = c.args.off in let h = c.requires.lightable in
    let there : (word_at off.nvm FORMAT_AT).durable ≢ 0 = λ e. c.if-durable-eq0.false (c.durable.ensures ∙ e) in
    subst (λ (k : Kernel). IsLive k) (sym c.begun-in-Ok-restoring.ensures)
    (record {
      course = h.course;
      is_at = recovers_at off c.in-Ok-restoring.start c.cores_of-cores.result c.cores_of-cores.ensures
          (cores_few off h there) c.requires.home c.requires.clean c.in-Ok-restoring.ensures.shows there
          h.course h.shows;
    })
