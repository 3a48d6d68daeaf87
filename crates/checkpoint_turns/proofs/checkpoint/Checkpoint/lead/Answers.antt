-- The leader's turn leads the checkpoint on, commits its version, or ends it.
use Rattle.std.specs.Prelude.{◌≡◌, IfSome}
use Rattle.std.proofs.Common.{refl, ap, sym, ◌∙◌, subst}
use Rattle.sls_base.specs.declared.fixed.TheConstants.{LEADER}
use Rattle.pmem_model.specs.Memory.{Memory, word_at}
use Rattle.kobj_codec.specs.Objects.{IsObj}
use Rattle.kobj_table.specs.declared.objects.Objects.{Objects}
use Rattle.object_records.specs.Records.{record_at}
use Rattle.leader_helper.specs.Leads.{IsLeading}
use Rattle.version_rooms.specs.Rest.{AreAtRest}
use Rattle.kernel_calls.specs.declared.calls.Calls.{Calls}
use Rattle.kernel_calls.specs.Kernel.{IsJustSaved}
use Rattle.core_turns.specs.Runs.{objects_of}
use Rattle.checkpoint_turns.specs.declared.checkpoint.Checkpoint.{Checkpoint}
use Rattle.checkpoint_turns.specs.Checkpoints.{contents_of}
use Rattle.checkpoint_turns.specs.Steps.{Commits, Ends}
use Rattle.checkpoint_turns.proofs.CommitsNext.{CommitLaws}
use Rattle.checkpoint_turns.proofs.EndsRuns.{as_committed, ends, of_objects}
use Rattle.checkpoint_turns.proofs.LeadCommits.{before_led, commits}
use Rattle.checkpoint_turns.proofs.LeadGoes.{all_home, all_settled, behind_of, goes, is_leaders, is_leading}
use Rattle.checkpoint_turns.proofs.LeadGoes.{records_are}
use Rattle.checkpoint_turns.proofs.checkpoint.Checkpoint.lead.Goals as goal

-- What the leader's step asks for.

pub step-requires-clause-leads : goal.step-requires-clause-leads
step-requires-clause-leads c =
    let k = c.args.self.now in
    let m = c.args.nvm.now in
    let flight = c.requires.in_flight in
    subst (λ (o : Objects). IsLeading k.leader k.running.rooms (word_at m) (record_at o))
    (sym c.objects-objects.ensures) (is_leading k flight.0 m flight.1.world flight.1.is_of)

pub step-requires-clause-records : goal.step-requires-clause-records
step-requires-clause-records c = λ id.
    let k = c.args.self.now in
    let m = c.args.nvm.now in
    let flight = c.requires.in_flight in
    subst (λ (o : Objects). IfSome (record_at o id) IsObj) (sym c.objects-objects.ensures)
    (records_are k flight.0 m flight.1.world flight.1.is_of c.running_objects_are_parts.ensures.untold
    c.sound_objects_have_records.ensures.in_range id)

pub step-requires-clause-home : goal.step-requires-clause-home
step-requires-clause-home c =
    let flight = c.requires.in_flight in
    all_home c.args.self.now flight.0 c.args.nvm.now flight.1.world flight.1.is_of

pub step-requires-clause-settled : goal.step-requires-clause-settled
step-requires-clause-settled c = λ gathers.
    let flight = c.requires.in_flight in
    all_settled c.args.self.now flight.0 c.args.nvm.now flight.1.world c.requires.free flight.1.is_of

pub forget_unused-requires : goal.forget_unused-requires
forget_unused-requires c =
    let k = c.args.self.now in
    let m = c.args.nvm.now in
    let flight = c.requires.in_flight in
    let w = flight.1.world in
    let told = c.in-Resumed.ensures in
    let of = ap record_at c.objects-objects.ensures in
    let h = behind_of k flight.0 m w flight.1.is_of
    (λ v cont same writing. told.writes v cont (same ∙ sym of) writing) in
    record { stages = as_committed k flight.0 m w h c.step.new.rooms (told.led (λ e. absurd (cc))) }

-- What its turn comes to.

pub returns-in-Led : goal.returns-in-Led
returns-in-Led c = record {
  goes = λ accepted w is.
      let k = c.args.self.now in
      let m = c.args.nvm.now in
      let l = c.step.new.self in
      let r = c.step.new.rooms in
      let next = c.step.new.nvm in
      let told = c.in-Led.ensures in
      let of = ap record_at c.objects-objects.ensures in
      let turn = is_leaders k accepted m w c.requires.free l r next (told.left (λ e. absurd (cc))) told.counts told.one
      told.operation in
      goes k accepted m w c.requires.free l r next is
      (λ v cont same writing. told.writes v cont (same ∙ sym of) writing) told.applies
      (told.led (λ e. absurd (cc))) told.running told.homes turn
      c.records_stand_for_objects.ensures.state c.fresh_pages_are_zero.ensures.state;
}

pub returns-in-Resumed : goal.returns-in-Resumed
returns-in-Resumed c = record {
  goes = λ accepted w is.
      let k = c.args.self.now in
      let m = c.args.nvm.now in
      let r = c.step.new.rooms in
      let next = c.step.new.nvm in
      let told = c.in-Resumed.ensures in
      let of = ap record_at c.objects-objects.ensures in
      let h = behind_of k accepted m w is (λ v cont same writing. told.writes v cont (same ∙ sym of) writing) in
      let states = told.led (λ e. absurd (cc)) in
      let still : next ≡ m = told.still refl in
      let at_rest = subst (λ (x : Memory). AreAtRest r (word_at x) w.version h.saved h.pages) still
      (told.applies w.version h.saved h.pages h.applying) in
      let forgot = c.forget_unused.ensures in
      let f = c.forget_unused.new.self in
      let after = forgot.at_rest (word_at m) w.version h.saved h.pages (of_objects k accepted m w h r states) at_rest in
      let calls = c.settle.new.self in
      let same_calls = ap (λ (x : Checkpoint). x.running.calls) forgot.rest in
      let holds = c.settle.ensures.holds accepted m h.rest w
      (subst (λ (x : Calls). IsJustSaved x.runtime.objects x.inputs accepted m h.rest w) (sym same_calls) h.just) in
      let objects = c.settle.ensures.objects ∙ ap (λ (x : Calls). x.runtime.objects) same_calls in
      let same = ap (λ (x : Checkpoint). record x.running { calls = calls; rooms = f.running.rooms }) forgot.rest in
      let new : Checkpoint = record f { running = record f.running { calls = calls } } in
      subst (λ (x : Memory). Ends k accepted m w LEADER new x) (sym still)
      (ends k accepted m w h r states at_rest f.running.rooms (record { kept = forgot.kept; fresh = forgot.fresh })
      after.0 after.1 calls objects holds (told.last refl) new same);
}

pub returns-in-Committed : goal.returns-in-Committed
returns-in-Committed c = record {
  goes = λ accepted w is.
      let k = c.args.self.now in
      let m = c.args.nvm.now in
      let l = c.step.new.self in
      let r = c.step.new.rooms in
      let next = c.step.new.nvm in
      let told = c.in-Committed.ensures in
      let of = ap record_at c.objects-objects.ensures in
      let h = before_led k accepted m w is told.applies in
      let counts = c.count_saved.new.self.running.saved in
      let rest = c.count_saved.ensures.rest in
      let laws : CommitLaws = record {
        parts = c.running_objects_are_parts.ensures.parts;
        of_records = c.records_stand_for_objects.ensures.state;
        zeros = c.fresh_pages_are_zero.ensures.state;
        kept = c.worlds_are_sound.ensures.kept;
      } in
      let turn = is_leaders k accepted m w c.requires.free l r next (told.left (λ e. absurd (cc))) told.counts told.one
      told.operation in
      let version = c.version.ensures.version ∙ ap (λ (x : Checkpoint). x.running.rooms.numbers.work.version) rest in
      let contents = contents_of h.saved (objects_of k.running) h.pages in
      subst (λ (x : Checkpoint). Commits k accepted m w LEADER c.version.result x next) (sym rest)
      (commits k accepted m w h l r counts next h.cores laws (told.writes w.version contents (sym of) h.writing)
      c.requires.free (told.committed refl) told.homes c.count_saved.ensures.counts turn c.version.result version);
}
