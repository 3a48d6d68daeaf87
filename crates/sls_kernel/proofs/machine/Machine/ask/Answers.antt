use Rattle.std.proofs.Common.{ℕ, ◌+◌, arith, refl, ap}
use Rattle.pmem_model.specs.Memory.{word_at}
use Rattle.sls_kernel.specs.Words.{area_place, area_of}
use Rattle.sls_kernel.specs.declared.stage.Stage.TheVariants.{Up}
use Rattle.sls_kernel.proofs.Facts.{words_at, stage_at, shows_on, nothing_saved}
use Rattle.sls_kernel.proofs.machine.Machine.ask.Goals as goal

pub returns-then-version-ge-LAST_VERSION-clause-world : goal.returns-then-version-ge-LAST_VERSION-clause-world
returns-then-version-ge-LAST_VERSION-clause-world c = λ w s.
    let is = c.version-version.ensures w s in
    let fits = s.counted.version in
    ((is, omega arith), s)

pub returns-else-version-ge-LAST_VERSION-clause-world : goal.returns-else-version-ge-LAST_VERSION-clause-world
returns-else-version-ge-LAST_VERSION-clause-world c = λ w s.
    let m = c.args.self.now in
    let is = c.version-version.ensures w s in
    let known = words_at m w s Up c.in-Up.is in (
      omega arith,
      shows_on m _ w s refl (record { commits = refl; cuts = refl })
          (record {
            format = known.format;
            version = known.version;
            version_durable = known.version_durable;
            table = known.table;
            saved_area = known.saved_area;
            other_area = nothing_saved (word_at m.nvm) (area_place (area_of (w.version + 1))) s.now_words;
            running = known.running;
            record_rest = known.record_rest;
          })
          (stage_at m w s Up c.in-Up.is, record { next_is = ap (λ (v : ℕ). v + 1) is; in_range = omega arith }),
    )
