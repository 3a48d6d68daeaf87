-- An input is taken in as the world takes it, and Full comes exactly where the world has no room for it.
use Rattle.std.specs.Prelude.{ℕ, ◌<◌, ◌^◌}
use Rattle.std.proofs.Common.{ap, arith}
use Rattle.std.proofs.lemmas.List.Elements.{All-from_get_or}
use Rattle.plain_laws.specs.Bounds.{AreBytes}
use Rattle.kernel_calls.specs.declared.calls.Calls.{Calls}
use Rattle.checkpoint_turns.proofs.DeviceInputs.{has_none, input_is_of, inputs_alone, is_full}
use Rattle.checkpoint_turns.proofs.checkpoint.Checkpoint.give_input.Goals as goal

pub returns-clause-full : goal.returns-clause-full
returns-clause-full c = λ accepted m w h.
    let k = c.args.self.now in
    let full = c.give_input.ensures.full in (
      λ err. is_full k accepted m w h (full.0 err),
      λ none. full.1 (has_none k accepted m w h none),
    )

pub returns-clause-is_of : goal.returns-clause-is_of
returns-clause-is_of c = λ accepted m w h.
    let told = c.give_input.ensures in
    let bytes = c.args.bytes.now in
    let are : AreBytes bytes =
    All-from_get_or (λ (byte : ℕ). byte < 2 ^ 8) bytes 0 (λ i inside. (let fits = c.type_inv.bytes i in omega arith)) in
    input_is_of c.args.self.now accepted m w c.worlds_are_sound.ensures.kept bytes c.requires.some c.requires.most are h
    c.give_input.result c.give_input.new.self told.full told.err told.ok

pub returns-clause-rest : goal.returns-clause-rest
returns-clause-rest c =
    let k = c.args.self.now in
    let told = c.give_input.ensures in
    ap (λ (calls : Calls). record k { running = record k.running { calls = calls } })
    (inputs_alone c.give_input.result k.running.calls c.give_input.new.self _ told.err told.ok)
