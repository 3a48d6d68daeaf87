use Rattle.kernel_calls.specs.Kernel.{Allowed}
use Rattle.kernel_calls.proofs.Obeyed.{moves_none, obeyed_quietly}
use Rattle.kernel_calls.proofs.StoredPages.{none_stored}
use Rattle.kernel_calls.proofs.Untold.{leaves_same}
use Rattle.kernel_calls.proofs.runtime.Runtime.carry_out.Goals as goal

-- A put.

pub put-requires : goal.put-requires
put-requires c = record { may = (c.args.input.now, rw c.in-Put.is at c.requires.may) }

pub returns-in-Put-clause-obeys : goal.returns-in-Put-clause-obeys
returns-in-Put-clause-obeys c w rest devices finds unrefused = rw c.in-Put.is (c.put.ensures.obeys c.args.input.now w rest devices finds (rw c.in-Put.is at unrefused))

pub returns-in-Put-clause-words : goal.returns-in-Put-clause-words
returns-in-Put-clause-words c w rest devices finds unrefused = rw c.in-Put.is (c.put.ensures.words c.args.input.now w rest devices finds (rw c.in-Put.is at unrefused))

-- A get.

pub get-requires : goal.get-requires
get-requires c = record { may = rw c.in-Get.is at c.requires.may }

pub returns-in-Get-clause-obeys : goal.returns-in-Get-clause-obeys
returns-in-Get-clause-obeys c w rest devices finds unrefused = rw c.in-Get.is (c.get.ensures.obeys w rest devices finds (rw c.in-Get.is at unrefused))

pub returns-in-Get-clause-words : goal.returns-in-Get-clause-words
returns-in-Get-clause-words c w rest devices finds unrefused = rw c.in-Get.is (c.get.ensures.words w rest devices finds (rw c.in-Get.is at unrefused))

-- Another call.

pub change_objects-requires-clause-allowed : goal.change_objects-requires-clause-allowed
change_objects-requires-clause-allowed c = record { held = c.requires.may.over.held; caller = c.requires.may.caller; unrefused = c.requires.may.unrefused }

pub change_objects-requires-clause-no_bytes : goal.change_objects-requires-clause-no_bytes
change_objects-requires-clause-no_bytes c = moves_none c.args.call c.in_default.not-Put c.in_default.not-Get

pub returns-in_default-clause-obeys : goal.returns-in_default-clause-obeys
returns-in_default-clause-obeys c w rest devices finds unrefused =
    let k = c.args.self.now in
    let allowed : Allowed k c.args.me c.args.thread.now c.args.call = record { held = c.requires.may.over.held; caller = c.requires.may.caller; unrefused = c.requires.may.unrefused } in
    obeyed_quietly k c.change_objects.new.self devices c.args.input.now c.args.nvm.now rest w _ c.change_objects.result finds (c.change_objects.ensures.does w rest finds.found.counted unrefused allowed)
    c.change_objects.ensures.keeps.rings

pub returns-in_default-clause-words : goal.returns-in_default-clause-words
returns-in_default-clause-words c w rest devices finds unrefused = none_stored _ c.args.nvm.now

pub returns-in_default-clause-leaves : goal.returns-in_default-clause-leaves
returns-in_default-clause-leaves c =
    let keeps = c.change_objects.ensures.keeps in
    record { caller = keeps.caller; strays = keeps.strays; free = keeps.free; untold = keeps.untold }

pub returns-in-Get-clause-leaves : goal.returns-in-Get-clause-leaves
returns-in-Get-clause-leaves c = leaves_same c.args.self.now c.args.me _ c.requires.may.over.held.strays c.requires.may.caller.free
