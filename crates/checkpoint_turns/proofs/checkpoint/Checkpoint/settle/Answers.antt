-- The leader tells whether the event committed, and then the entries are counted that the saved copy has.
use Rattle.std.proofs.Common.{refl, sym, subst, ap, ◌∙◌}
use Rattle.pmem_model.specs.Memory.{word_at}
use Rattle.checkpoint_turns.specs.declared.checkpoint.Checkpoint.{Checkpoint}
use Rattle.checkpoint_turns.specs.Steps.{CommitsBack}
use Rattle.checkpoint_turns.proofs.CommitsNext.{CommitLaws}
use Rattle.checkpoint_turns.proofs.Settled.{TellsCommit, TellsNone, commits_of, other_version, same_version, stays_of}
use Rattle.checkpoint_turns.proofs.Settled.{led_the_same}
use Rattle.checkpoint_turns.proofs.checkpoint.Checkpoint.settle.Goals as goal

pub returns-in-Some-clause-commits : goal.returns-in-Some-clause-commits
returns-in-Some-clause-commits c = λ accepted m w calm homes h.
    let k = c.args.self.now in
    let next = c.args.nvm.now in
    let leader = c.settle.new.self in
    let rooms = c.settle.new.rooms in
    let new = c.count_saved.new.self in
    let told : TellsCommit k (word_at next) leader rooms c.in-Some.spared = record {
      commits = λ f v written calm h. c.in-Some.ensures.commits f v written calm h refl;
      other = λ f v written calm h. (c.in-Some.ensures.committed f v written calm h).0 refl;
      never = λ f v saved pages calm h. (let none = (c.in-Some.ensures.applies f v saved pages calm h).0 in cc);
      left = λ f v written calm h. c.in-Some.ensures.left f v written calm h;
      stages = λ f v written calm h. c.in-Some.ensures.stages f v written calm h refl;
    } in
    let laws : CommitLaws = record {
      parts = c.running_objects_are_parts.ensures.parts;
      of_records = c.records_stand_for_objects.ensures.state;
      zeros = c.fresh_pages_are_zero.ensures.state;
      kept = c.worlds_are_sound.ensures.kept;
    } in
    let rest = c.count_saved.ensures.rest in
    let is = c.version.ensures.version ∙ ap (λ (x : Checkpoint). x.running.rooms.numbers.work.version) rest in
    subst (λ (x : Checkpoint). CommitsBack k accepted m w c.version.result x next) (sym rest)
    (commits_of k accepted m next w calm homes leader rooms c.in-Some.spared told c.calm.ensures laws new.running.saved
    c.count_saved.ensures.counts c.version.result is h)

pub returns-in-Some-clause-committed : goal.returns-in-Some-clause-committed
returns-in-Some-clause-committed c = λ accepted m w calm homes h.
    let k = c.args.self.now in
    let next = c.args.nvm.now in
    let told : TellsCommit k (word_at next) c.settle.new.self c.settle.new.rooms c.in-Some.spared = record {
      commits = λ f v written calm h. c.in-Some.ensures.commits f v written calm h refl;
      other = λ f v written calm h. (c.in-Some.ensures.committed f v written calm h).0 refl;
      never = λ f v saved pages calm h. (let none = (c.in-Some.ensures.applies f v saved pages calm h).0 in cc);
      left = λ f v written calm h. c.in-Some.ensures.left f v written calm h;
      stages = λ f v written calm h. c.in-Some.ensures.stages f v written calm h refl;
    } in (
      λ some. other_version k accepted m next w calm homes c.settle.new.self c.settle.new.rooms c.in-Some.spared told h,
      λ other. refl,
    )

pub returns-in-None-clause-none : goal.returns-in-None-clause-none
returns-in-None-clause-none c =
    led_the_same c.args.self.now c.settle.new.self c.settle.new.rooms c.in-None.ensures.none.0 c.in-None.ensures.none.1

pub returns-in-None-clause-stays : goal.returns-in-None-clause-stays
returns-in-None-clause-stays c = λ accepted m w calm homes h.
    let k = c.args.self.now in
    let told : TellsNone k (word_at c.args.nvm.now) c.settle.new.self c.settle.new.rooms = record {
      same = c.in-None.ensures.none.0;
      rest = c.in-None.ensures.none.1;
      writes = c.in-None.ensures.writes;
      applies = λ f v saved pages calm h. (c.in-None.ensures.applies f v saved pages calm h).1;
    } in
    stays_of k accepted m c.args.nvm.now w calm homes c.settle.new.self c.settle.new.rooms told h

pub returns-in-None-clause-committed : goal.returns-in-None-clause-committed
returns-in-None-clause-committed c = λ accepted m w calm homes h.
    let k = c.args.self.now in
    let told : TellsNone k (word_at c.args.nvm.now) c.settle.new.self c.settle.new.rooms = record {
      same = c.in-None.ensures.none.0;
      rest = c.in-None.ensures.none.1;
      writes = c.in-None.ensures.writes;
      applies = λ f v saved pages calm h. (c.in-None.ensures.applies f v saved pages calm h).1;
    } in
    let same =
    same_version k accepted m c.args.nvm.now w calm homes c.settle.new.self c.settle.new.rooms told h in (
      λ some. absurd (cc),
      λ other. absurd (other same),
    )
