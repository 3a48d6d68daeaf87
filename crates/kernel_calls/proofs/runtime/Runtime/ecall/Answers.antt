use Rattle.std.proofs.Common.{◌≡◌, ◌∙◌, sym}
use Rattle.std.specs.Prelude.{Some, None}
use Rattle.plain_state.specs.Calls.{call_named}
use Rattle.plain_state.specs.CallRefusals.{refusal_of}
use Rattle.call_readings.specs.Kernel.{world_of}
use Rattle.kernel_calls.proofs.Obeyed.{answered_alone}
use Rattle.kernel_calls.proofs.StoredPages.{none_stored}
use Rattle.kernel_calls.proofs.Untold.{leaves_same}
use Rattle.kernel_calls.proofs.runtime.Runtime.ecall.Goals as goal

-- Where it names no call.

pub returns-in_default-clause-obeys : goal.returns-in_default-clause-obeys
returns-in_default-clause-obeys c w rest finds =
    let named : call_named c.args.thread.now ≡ None = sym c.named.ensures ∙ c.in_default.is in
    rw named (answered_alone c.args.self.now c.args.devices.now c.args.input.now c.args.nvm.now rest w c.args.thread.now _ _ c.answers.result finds c.answers.ensures c.number.ensures)

pub returns-in_default-clause-words : goal.returns-in_default-clause-words
returns-in_default-clause-words c w rest finds = none_stored _ c.args.nvm.now

-- Where the call is refused.

pub returns-in-Some-refusal_of-clause-obeys : goal.returns-in-Some-refusal_of-clause-obeys
returns-in-Some-refusal_of-clause-obeys c w rest finds =
    let named : call_named c.args.thread.now ≡ Some c.in-Some.call = sym c.named.ensures ∙ c.in-Some.is in
    let refused : refusal_of (world_of c.args.self.now.objects rest w) c.args.me c.args.thread.now c.in-Some.call ≡ Some c.in-Some-refusal_of.refusal =
    sym (c.refusal_of.ensures w rest finds.found.counted finds.found.attached) ∙ c.in-Some-refusal_of.is in
    rw named (rw refused (answered_alone c.args.self.now c.args.devices.now c.args.input.now c.args.nvm.now rest w c.args.thread.now _ _ c.answers-in-Some-refusal_of.result finds c.answers-in-Some-refusal_of.ensures c.number-in-Some-refusal_of.ensures))

pub returns-in-Some-refusal_of-clause-words : goal.returns-in-Some-refusal_of-clause-words
returns-in-Some-refusal_of-clause-words c w rest finds = none_stored _ c.args.nvm.now

-- Where it is not.

pub carry_out-requires : goal.carry_out-requires
carry_out-requires c =
    let over = c.requires.may.over in
    let named : call_named c.args.thread.now ≡ Some c.in-Some.call = sym c.named.ensures ∙ c.in-Some.is in
    let unrefused : refusal_of (world_of c.args.self.now.objects over.held.rest over.held.world) c.args.me c.args.thread.now c.in-Some.call ≡ None =
    sym (c.refusal_of.ensures over.held.world over.held.rest over.found.found.counted over.found.found.attached) ∙ c.in-None.is in
    record {
      may = record {
        devices = c.args.devices.now;
        over = over;
        caller = c.requires.caller;
        unrefused = unrefused;
        pages = c.requires.may.may c.in-Some.call named unrefused;
      };
    }

pub returns-in-None-clause-obeys : goal.returns-in-None-clause-obeys
returns-in-None-clause-obeys c w rest finds =
    let named : call_named c.args.thread.now ≡ Some c.in-Some.call = sym c.named.ensures ∙ c.in-Some.is in
    let unrefused : refusal_of (world_of c.args.self.now.objects rest w) c.args.me c.args.thread.now c.in-Some.call ≡ None =
    sym (c.refusal_of.ensures w rest finds.found.counted finds.found.attached) ∙ c.in-None.is in
    rw named (rw unrefused (c.carry_out.ensures.obeys w rest c.args.devices.now finds unrefused))

pub returns-in-None-clause-words : goal.returns-in-None-clause-words
returns-in-None-clause-words c w rest finds =
    let named : call_named c.args.thread.now ≡ Some c.in-Some.call = sym c.named.ensures ∙ c.in-Some.is in
    let unrefused : refusal_of (world_of c.args.self.now.objects rest w) c.args.me c.args.thread.now c.in-Some.call ≡ None =
    sym (c.refusal_of.ensures w rest finds.found.counted finds.found.attached) ∙ c.in-None.is in
    rw named (rw unrefused (c.carry_out.ensures.words w rest c.args.devices.now finds unrefused))

pub returns-in_default-clause-leaves : goal.returns-in_default-clause-leaves
returns-in_default-clause-leaves c = leaves_same c.args.self.now c.args.me _ c.requires.may.over.held.strays c.requires.caller.free

pub returns-in-Some-refusal_of-clause-leaves : goal.returns-in-Some-refusal_of-clause-leaves
returns-in-Some-refusal_of-clause-leaves c = leaves_same c.args.self.now c.args.me _ c.requires.may.over.held.strays c.requires.caller.free
