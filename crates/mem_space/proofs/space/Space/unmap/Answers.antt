use Rattle.std.proofs.Common.{ap, rules}
use Rattle.arrayvec.proofs.ArrayVecLemmas.{filter-from_retain}
use Rattle.mem_space.proofs.SpaceLemmas.{unmapped_found, unmapped_kept, has_without, space_without}
use Rattle.mem_space.proofs.space.Space.unmap.Goals as goal

pub returns-clause-regions : goal.returns-clause-regions
returns-clause-regions c = filter-from_retain _ _ _ (λ x b f' y called. search rules) _ _ c.retain.ensures.filtered

pub returns-clause-found : goal.returns-clause-found
returns-clause-found c =
    unmapped_found c.args.self.now.regions.items _ c.args.base _ _ (returns-clause-regions c) c.len.ensures.value c.len-before.ensures.value

pub returns-clause-kept : goal.returns-clause-kept
returns-clause-kept c = λ long.
    let same = unmapped_kept c.args.self.now.regions.items _ c.args.base _ _ (returns-clause-regions c) c.len.ensures.value c.len-before.ensures.value long in
    ap (λ xs. record { regions = record { items = xs } }) same

pub returns-clause-space : goal.returns-clause-space
returns-clause-space c = space_without c.args.self.now _ c.args.base (returns-clause-regions c)

pub returns-clause-members : goal.returns-clause-members
returns-clause-members c = λ other. rw (returns-clause-regions c) (has_without c.args.self.now.regions.items c.args.base other)
