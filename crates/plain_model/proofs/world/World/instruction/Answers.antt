use Rattle.std.proofs.Common.{◌≡◌, ◌∙◌, Some, None, refl, sym, rules}
use Rattle.plain_state.specs.Instructions.{with_fetch, fetched, obeyed}
use Rattle.rv_table.specs.Decoded.{decoded}
use Rattle.plain_state.specs.Slow.{effect_of}
use Rattle.plain_state.specs.SlowReach.{word_at_pc}
use Rattle.plain_model.specs.SlowWorld.{world_of}
use Rattle.plain_model.proofs.SlowReaches.{instruction_at, no_instruction_at}
use Rattle.plain_model.proofs.world.World.instruction.Goals as goal

pub returns-in_default : goal.returns-in_default
unfolding world_of
returns-in_default c =
    let w = world_of c.args.self.now in
    let none : None ≡ word_at_pc w.now c.args.thread.now = search rules in
    (c.stops.ensures.effect ∙ sym (no_instruction_at w c.args.id c.args.thread.now none), c.stops.ensures.in_pages)

pub returns : goal.returns
unfolding world_of
returns c =
    let w = world_of c.args.self.now in
    let thread = c.args.thread.now in
    let word = c.in-Some.word in
    let is : Some word ≡ word_at_pc w.now thread = search rules in
    let places : c.in_ok-fetched.fetched.items ≡ fetched w.now thread = search rules in
    let obeys : effect_of c.in_ok-effect.effect ≡ obeyed w c.args.id thread (decoded word) = search rules in
    let first : effect_of c.load_first.new.effect ≡ with_fetch c.in_ok-fetched.fetched.items (effect_of c.in_ok-effect.effect) = search rules in
    let same : effect_of c.load_first.new.effect ≡ with_fetch (fetched w.now thread) (obeyed w c.args.id thread (decoded word)) = first ∙ rw (places, obeys) refl in
    (same ∙ sym (instruction_at w c.args.id thread word is), search rules)
