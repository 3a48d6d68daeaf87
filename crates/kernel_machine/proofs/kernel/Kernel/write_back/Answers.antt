-- A write-back stores nothing. It commits at most where a checkpoint is in flight, as that tells.
use Rattle.std.proofs.Common.{ap, refl}
use Rattle.pmem_model.specs.Memory.{Memory}
use Rattle.pmem_model.specs.PlaceLaws.{home_of}
use Rattle.kernel_machine.proofs.SeenCores.{saves_of}
use Rattle.kernel_machine.proofs.BackStays.{CalmLaws, WroteBack, all_home, calm_work, none_at, stays_at, stays_goes, wrote_calm}
use Rattle.kernel_machine.proofs.BackCommits.{at_of, goes_of}
use Rattle.kernel_machine.proofs.SaveTags.{TagLaws, renewed}
use Rattle.kernel_machine.proofs.kernel.Kernel.write_back.Goals as goal
use Rattle.kernel_machine.proofs.kernel.Kernel.write_back.Goals.{After-write_back}

pub write_back-requires-clause-home : goal.write_back-requires-clause-home
write_back-requires-clause-home c =
    let k = c.args.self.now in
    let live = c.requires.live in
    home_of k.nvm c.args.word (all_home k.work k.cores k.accepted k.nvm live.course.world live.is_at.work)
    c.requires.word

wrote : (c : After-write_back) → WroteBack c.args.word c.args.self.now.nvm c.write_back.new.self
wrote c = record {
  words = c.write_back.ensures.words;
  homes = c.write_back.ensures.homes;
  ops = ap (λ (m : Memory). m.ops) c.write_back.ensures.counts;
  counts = c.write_back.ensures.kept;
}

pub returns-in_default : goal.returns-in_default
returns-in_default c =
    let k = c.args.self.now in
    let next = c.write_back.new.self in
    let done = wrote (goal.at.returns-in_default c).After-write_back in
    let laws : CalmLaws = record {
      formats = c.formatting.ensures.calm;
      restores = c.calm.ensures;
      runs = c.running_cores.ensures.calm;
    } in
    let calm = wrote_calm c.args.word k next done in
    record {
      goes = λ course at. stays_goes c.args.word k next done course;
      is_at = λ course at.
          stays_at c.args.word k next done course at
          (calm_work k.work k.cores k.accepted k.nvm next course.world laws calm done.homes
          (λ s is. c.in_default.not-Saves s is) at.work);
      made = λ image h. h;
      cores = refl;
    }

pub returns-in_default-settle-clause-is_at : goal.returns-in_default-settle-clause-is_at
returns-in_default-settle-clause-is_at c = λ course at.
    let k = c.args.self.now in
    let next = c.write_back.new.self in
    let done = wrote (goal.at.returns-in_default-settle-clause-is_at c).After-write_back in
    let s = c.in-Saves.checkpoint in
    let was = saves_of k course s c.in-Saves.is at in
    let calm = wrote_calm c.args.word k next done in
    none_at c.args.word k next done course s c.settle.new.self c.in-Saves.is c.in_default-settle.ensures.none at
    (c.in_default-settle.ensures.stays k.accepted k.nvm course.world calm done.homes was)

pub returns-clause-goes : goal.returns-clause-goes
returns-clause-goes c = λ course at.
    let k = c.args.self.now in
    let next = c.write_back.new.self in
    let done = wrote (goal.at.returns-clause-goes c).After-write_back in
    let s = c.in-Saves.checkpoint in
    let n = c.settle.new.self in
    let was = saves_of k course s c.in-Saves.is at in
    let calm = wrote_calm c.args.word k next done in
    let back = c.in-Some.ensures.commits k.accepted k.nvm course.world calm done.homes was in
    let laws : TagLaws = record {
      protected = c.states.ensures.protected;
      numbers = c.parts_are_of_one.ensures.numbers;
      objects = c.parts_are_of_one.ensures.objects;
      left = c.commit_point.ensures.after;
    } in
    goes_of c.args.word k next course s n c.in-Some.version done back c.in-Saves.is
    (renewed laws n k.accepted next _ back.committed.is_behind)

pub returns-clause-is_at : goal.returns-clause-is_at
returns-clause-is_at c = λ course at.
    let k = c.args.self.now in
    let next = c.write_back.new.self in
    let done = wrote (goal.at.returns-clause-is_at c).After-write_back in
    let s = c.in-Saves.checkpoint in
    let was = saves_of k course s c.in-Saves.is at in
    let calm = wrote_calm c.args.word k next done in
    let back = c.in-Some.ensures.commits k.accepted k.nvm course.world calm done.homes was in
    at_of c.args.word k next course s c.settle.new.self c.in-Some.version done back c.in-Saves.is at
