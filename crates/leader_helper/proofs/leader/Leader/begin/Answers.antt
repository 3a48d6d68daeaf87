use Rattle.std.specs.Prelude.{◌≡◌, ◌+◌, ◌*◌}
use Rattle.std.proofs.Common.{sym, subst, refl}
use Rattle.sls_base.specs.declared.limits.TheConstants.{OBJECTS}
use Rattle.pmem_model.specs.Memory.{word_at}
use Rattle.alloc_journal.specs.Sets.{count_of}
use Rattle.object_records.specs.Records.{record_at}
use Rattle.version_rooms.specs.declared.rooms.Rooms.{Rooms}
use Rattle.leader_helper.specs.declared.leader.Leader.{Leader}
use Rattle.leader_helper.specs.declared.stage.Stage.TheVariants as at
use Rattle.leader_helper.specs.Leads.{IsWriting, is_changed}
use Rattle.leader_helper.specs.Turns.{turns_left, pages_left, numbers_changed}
use Rattle.leader_helper.proofs.Running.{with_running}
use Rattle.leader_helper.proofs.Founds.{found_told}
use Rattle.leader_helper.proofs.Begins.{begins}
use Rattle.leader_helper.proofs.BeginTurns.{begin_left}
use Rattle.leader_helper.proofs.leader.Leader.begin.Goals as goal

pub returns : goal.returns
returns c =
    let old = c.args.rooms.now in
    let new = c.set_numbers.new.rooms in
    let running = new.numbers.running in
    let records = record_at c.args.objects.now in
    let f = word_at c.args.nvm.now in
    let changed = c.changed_objects-changed.result in
    let leader : Leader = record { stage = at.Gather; changed = changed } in
    let found = c.changed_objects-changed.ensures in
    record {
      stage = refl;
      numbers = c.set_numbers.ensures.numbers;
      rest = c.set_numbers.ensures.rest;
      changed = λ v saved pages may id inside. found_told (is_changed leader id) (records id) (saved.objects id) (found v saved pages may id inside);
      writes = λ v saved pages may.
          subst (λ (r : Rooms). IsWriting leader r f v (record { saved = saved; objects = records; pages = pages })) (sym c.set_numbers.ensures.rest)
          (begins changed old running f v saved records pages may (found v saved pages may));
      left = λ v saved pages may.
          subst (λ (r : Rooms). turns_left leader r ≡ pages_left old + 4 * count_of (is_changed leader) OBJECTS + 2 * numbers_changed r + 17) (sym c.set_numbers.ensures.rest)
          (begin_left leader (with_running old running) refl may.rest.idle may.rest.log may.rest.committer);
    }
