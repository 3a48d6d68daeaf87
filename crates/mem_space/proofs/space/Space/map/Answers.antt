use Rattle.std.proofs.Common.{◌≡◌, ◌∙◌, ◌≤◌, length, Bool, true, false, ltb, sym, subst, rules, tests}
use Rattle.std.specs.List.Sorted.{IsPartitionPoint, IsPartitionedBy}
use Rattle.std.proofs.lemmas.List.Sorted.{IsPartitionPoint-from_clause, IsPartitionedBy-ltb}
use Rattle.mem_space.specs.declared.region.Region.{Region}
use Rattle.mem_space.proofs.SpaceLemmas.{never_falling, insert-with_region, inserted-with_region, elsewhere, has_region, space_with}
use Rattle.mem_space.proofs.space.Space.map.Goals as goal

pub returns-clause-regions : goal.returns-clause-regions
returns-clause-regions c =
    let xs = c.args.self.now.regions.items in
    let below : Region → Bool = λ r. ltb r.base c.args.region.base in
    let shown : c.deref.result.now ≡ xs = c.deref.ensures.0 in
    let parted : IsPartitionedBy below xs = IsPartitionedBy-ltb (λ r. r.base) xs c.args.region.base (never_falling xs c.requires.space.rising) in
    let point = IsPartitionPoint-from_clause below c.deref.result.now _ c.partition_point-place.ensures.partitioned (subst (IsPartitionedBy below) (sym shown) parted) (λ a r q k. search (rules, tests)) in
    let place = c.partition_point-place.result in
    let inside : place ≤ length xs = subst (λ ys. place ≤ length ys) shown c.partition_point-place.ensures.bound in
    let at : IsPartitionPoint (λ r. below r ≡ true) (λ r. below r ≡ false) xs place = subst (λ ys. IsPartitionPoint (λ r. below r ≡ true) (λ r. below r ≡ false) ys place) shown point in
    c.insert.ensures.items ∙ insert-with_region xs c.args.region c.requires.space.regions c.requires.region c.requires.apart place inside at.0 at.1

pub returns-clause-by_place : goal.returns-clause-by_place
returns-clause-by_place c =
    let xs = c.args.self.now.regions.items in
    returns-clause-regions c
    ∙ sym (inserted-with_region xs c.args.region c.requires.space.rising (elsewhere xs c.args.region c.requires.space.regions c.requires.region c.requires.apart))

pub returns-clause-space : goal.returns-clause-space
returns-clause-space c =
    space_with c.args.self.now.regions.items c.args.region c.requires.space.regions c.requires.region c.requires.apart _ (returns-clause-regions c) c.requires.space.rising c.requires.space.apart

pub returns-clause-members : goal.returns-clause-members
returns-clause-members c = λ other.
    rw (returns-clause-regions c) (has_region c.args.self.now.regions.items c.args.region c.requires.space.regions c.requires.region c.requires.apart other)
