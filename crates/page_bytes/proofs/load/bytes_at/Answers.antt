use Rattle.std.proofs.Common.{rules, ◌≡◌, ◌∙◌, ℕ, ◌+◌, ◌<◌, ◌++◌, ◌∷◌, [], List, Option, Some, None, option_map, ap, sym, subst, arith}
use Rattle.plain_model.specs.Objects.{regions_of}
use Rattle.plain_model.specs.Memory.{byte_at, place_of}
use Rattle.kobj_table.specs.Objects.{object_at}
use Rattle.call_readings.specs.Need.{page_seen, IsAtHome}
use Rattle.page_bytes.proofs.Loads.{AreFirst, all_seen, none_seen, not_covered, one_more}
use Rattle.page_bytes.proofs.load.bytes_at.Goals as goal

pub byte_at-requires : goal.byte_at-requires
byte_at-requires c = record {
  home = λ content.
      subst (λ (a : ℕ). IsAtHome c.args.nvm.now (page_seen (object_at content c.args.objects.now) (regions_of (object_at content c.args.objects.now c.args.space)) c.args.right a))
      (omega arith) (c.requires.home content c.loop-k.k (omega arith));
}

pub returns-in_err-byte_at : goal.returns-in_err-byte_at
returns-in_err-byte_at c content reads =
    let objects = object_at content c.args.objects.now in
    let regions = regions_of (objects c.args.space) in
    let k = c.loop-k.k in
    let address : c.from.result + c.from-in-loop-k.result ≡ c.args.at + k = omega arith in
    let none : None ≡ option_map (byte_at objects) (place_of regions c.args.right (c.from.result + c.from-in-loop-k.result)) = sym c.in_err-byte_at.was ∙ c.byte_at.ensures content reads in
    let there : None ≡ option_map (byte_at objects) (place_of regions c.args.right (c.args.at + k)) =
    none ∙ ap (λ (a : ℕ). option_map (byte_at objects) (place_of regions c.args.right a)) address in
    ap (option_map (λ bytes. bytes.items)) c.from_residual.ensures ∙ none_seen objects regions c.args.right c.args.at c.args.count (not_covered objects regions c.args.right c.args.at k c.args.count (omega arith) there)

pub loop-k-preserved : goal.loop-k-preserved
loop-k-preserved c = record {
  size = search rules;
  first = λ content reads.
      let objects = object_at content c.args.objects.now in
      let regions = regions_of (objects c.args.space) in
      let k = c.loop-k.k in
      let address : c.from.result + c.from-in-loop-k.result ≡ c.args.at + k = omega arith in
      let some : Some c.in_ok-byte_at.field-0 ≡ option_map (byte_at objects) (place_of regions c.args.right (c.from.result + c.from-in-loop-k.result)) = sym c.in_ok-byte_at.was ∙ c.byte_at.ensures content reads in
      let there : Some c.in_ok-byte_at.field-0 ≡ option_map (byte_at objects) (place_of regions c.args.right (c.args.at + k)) =
      some ∙ ap (λ (a : ℕ). option_map (byte_at objects) (place_of regions c.args.right a)) address in
      subst (λ (l : List ℕ). AreFirst objects regions c.args.right c.args.at (k + 1) l) (sym c.push.ensures.items)
      (one_more objects regions c.args.right c.args.at k c.in_ok-byte_at.field-0 c.loop-k.bytes.items there (c.loop-k.invariant.first content reads));
}
