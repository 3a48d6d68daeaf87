use Rattle.std.proofs.Common.{◌≡◌, ◌==◌, ◌∙◌, sym, length, filter, rules, tests, arith}
use Rattle.std.proofs.lemmas.List.{length-map}
use Rattle.std.proofs.lemmas.Iterator.{YieldsList-from_slice}
use Rattle.std.proofs.lemmas.Iterator.Consumers.{YieldsList-from_filter, count_from_yields_List}
use Rattle.plain_state.specs.declared.effect.Output.{Output}
use Rattle.plain_state.specs.Slow.{entries_of}
use Rattle.plain_model.specs.SlowWorld.{world_of}
use Rattle.plain_model.proofs.world.World.accepted.Goals as goal

pub returns : goal.returns
unfolding world_of
returns c =
    let counted : c.count.result ≡ length (entries_of c.args.self.now.released.items c.args.channel) =
    count_from_yields_List _ c.count.result c.count.ensures.ran
    (YieldsList-from_filter _ (λ (output : Output). output.channel == c.args.channel) (YieldsList-from_slice c.args.self.now.released.items cc) c.filter.ensures.closure (λ x b q k. search (rules, tests)))
    ∙ sym (length-map (filter (λ (output : Output). output.channel == c.args.channel) c.args.self.now.released.items) (λ (output : Output). output.bytes.items)) in
    omega (arith, counted)
