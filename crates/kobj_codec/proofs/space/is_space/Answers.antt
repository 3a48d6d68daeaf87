use Rattle.std.proofs.Common.{◌≡◌, ◌+◌, ◌<◌, ◌≤◌, ℕ, List, get_or, length, sym, ap, ◌∙◌, subst, refl, arith}
use Rattle.std.proofs.lemmas.List.{get_or_default}
use Rattle.mem_space.specs.declared.region.Region.{Region}
use Rattle.mem_space.specs.Region.{IsRegion}
use Rattle.kobj_codec.proofs.Spaces.{EndsAt, no_region, ends_first, ends_more, space_in_range, space_behind}
use Rattle.kobj_codec.proofs.space.is_space.Goals as goal
use Rattle.kobj_codec.proofs.space.is_space.Goals.{then-not-is_region-via-then-not-is_region, then-not-is_region-via-else-not-is_region+then-region-end}

pub returns-then-not-is_region : goal.returns-then-not-is_region
returns-then-not-is_region c =
    let s = c.args.space.now in
    let n = c.loop-region.region-index in
    let shown : c.deref-region-items.result.now ≡ s.regions.items = c.deref-region-items.ensures.0 in
    let inside : n < length s.regions.items = subst (λ (ys : List Region). n < length ys) shown c.loop-region-test.true in (
      λ no. cc,
      λ i. elim c.then-not-is_region.branch [
        | then-not-is_region-via-then-not-is_region w ↦
            let yes = c.is_region.ensures.1 (subst (λ (ys : List Region). IsRegion (get_or ys n no_region)) (sym shown) (i.space.regions n no_region inside)) in cc
        | then-not-is_region-via-else-not-is_region+then-region-end w ↦
            let behind = subst (λ (ys : List Region). c.loop-region.end ≤ (get_or ys n no_region).base) (sym shown) (space_behind s n c.loop-region.end no_region inside c.loop-region.invariant i) in
            absurd (omega (arith, behind, w.if-region-end.true))
      ],
    )

pub loop-region-init : goal.loop-region-init
loop-region-init c = ends_first c.args.space.now.regions.items

pub loop-region-preserved : goal.loop-region-preserved
loop-region-preserved c =
    let s = c.args.space.now in
    let n = c.loop-region.region-index in
    let r = get_or c.deref-region-items.result.now n no_region in
    let shown : c.deref-region-items.result.now ≡ s.regions.items = c.deref-region-items.ensures.0 in
    let inside : n < length s.regions.items = subst (λ (ys : List Region). n < length ys) shown c.loop-region-test.true in
    let here : (d : Region) → get_or s.regions.items n d ≡ r = λ d. get_or_default s.regions.items n d no_region inside ∙ ap (λ (ys : List Region). get_or ys n no_region) (sym shown) in
    let more = ends_more s.regions.items n c.loop-region.end r inside c.loop-region.invariant here (c.is_region.ensures.0 c.if-not-is_region.false) c.if-region-end.false in
    subst (λ (count : ℕ). EndsAt s.regions.items (n + 1) (r.base + count)) (sym c.from.ensures) more

pub returns : goal.returns
returns c =
    let s = c.args.space.now in
    let shown : c.deref-region-items.result.now ≡ s.regions.items = c.deref-region-items.ensures.0 in
    let most = c.deref-region-items.ensures.1 in
    let same : length c.deref-region-items.result.now ≡ length s.regions.items = ap length shown in
    let all : c.loop-region.region-index ≡ length s.regions.items = omega (arith, same, c.loop-region-test.false, c.loop-region.auto.region-index-end) in
    (λ _. space_in_range s c.loop-region.end (omega (arith, same, most)) (subst (λ (n : ℕ). EndsAt s.regions.items n c.loop-region.end) all c.loop-region.invariant), λ _. refl)
