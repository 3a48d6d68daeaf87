use Rattle.mem_space.proofs.SpaceLemmas as space
use Rattle.mem_space.proofs.Translation.{one_place, first_place}
use Rattle.mem_space.proofs.laws.one_region.Goals as goal

pub returns-clause-region : goal.returns-clause-region
returns-clause-region c = space.one_region

pub returns-clause-place : goal.returns-clause-place
returns-clause-place c = one_place

pub returns-clause-first : goal.returns-clause-first
returns-clause-first c = first_place
