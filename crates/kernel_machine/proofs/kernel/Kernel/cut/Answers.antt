-- A cut leaves the saved copy, or what formatting had stored.
use Rattle.std.proofs.Common.{refl, ap}
use Rattle.pmem_model.specs.Memory.{Memory, word_at}
use Rattle.plain_state.specs.declared.label.Label.TheVariants as label
use Rattle.machine_contract.specs.declared.answers.Off.{Off}
use Rattle.machine_contract.specs.Shown.{durable_of}
use Rattle.kernel_machine.proofs.CutShows.{left_by_cut, shows_off, version_left}
use Rattle.kernel_machine.proofs.CutFormats.{CutLaws, sound_of, was_at_first}
use Rattle.kernel_machine.proofs.kernel.Kernel.cut.Goals as goal

pub returns-clause-shows : goal.returns-clause-shows
returns-clause-shows c = λ course is.
    let k = c.args.self in
    let off : Off = record { nvm = c.cut.new.self; accepted = k.accepted } in
    let words = c.cut.ensures.words in
    let sound = sound_of c.worlds_are_sound.ensures.first k.work k.cores k.accepted k.nvm course.world is.work in
    shows_off k off words course refl (ap (λ (m : Memory). m.commits) c.cut.ensures.counts)
    (ap (λ (m : Memory). m.cuts) c.cut.ensures.counts)
    (c.worlds_are_sound.ensures.kept course.world label.Cut tt tt sound)
    (c.machines_are_seen.ensures.shown k course is)
    (c.machines_are_seen.ensures.left k course (durable_of (word_at off.nvm)) (left_by_cut k off words)
    (version_left k off words) is)

pub returns-clause-unformatted : goal.returns-clause-unformatted
returns-clause-unformatted c = λ course image is made blank.
    let k = c.args.self in
    let off : Off = record { nvm = c.cut.new.self; accepted = k.accepted } in
    let words = c.cut.ensures.words in
    let left = durable_of (word_at off.nvm) in
    let laws : CutLaws = record {
      formats = c.formatting.ensures.cut;
      recovers = c.recovery_is_clean.ensures;
      accepted = c.images_of_programs.ensures.accepted;
      worlds = c.images_of_programs.ensures.worlds;
      formatted = c.images_of_programs.ensures.formats;
    } in
    let at_first = was_at_first laws image left k.cores k.accepted k.nvm course.world (left_by_cut k off words) blank
    k.work is.work made
    (c.machines_are_seen.ensures.left k course left (left_by_cut k off words) (version_left k off words) is) in
    record {
      mode = at_first.mode;
      accepted = at_first.accepted;
      world = at_first.world;
      words = at_first.words;
    }
