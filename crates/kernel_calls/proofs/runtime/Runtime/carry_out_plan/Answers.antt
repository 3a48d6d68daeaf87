use Rattle.std.proofs.Common.{refl}
use Rattle.kobj_table.specs.Objects.{state_of}
use Rattle.call_readings.specs.Kernel.{world_of}
use Rattle.kernel_calls.proofs.Frames.{unchanged}
use Rattle.kernel_calls.proofs.Obeyed.{stopped, loaded, obeyed_quietly}
use Rattle.kernel_calls.proofs.Storing.{store_obeyed, apart_always}
use Rattle.kernel_calls.proofs.StoredPages.{none_stored}
use Rattle.kernel_calls.proofs.Untold.{leaves_same}
use Rattle.kernel_calls.proofs.runtime.Runtime.carry_out_plan.Goals as goal

-- A register is set.

pub returns-in-Set-clause-obeys : goal.returns-in-Set-clause-obeys
returns-in-Set-clause-obeys c w rest finds =
    let k = c.args.self.now in
    rw c.in-Set.is (obeyed_quietly k k c.args.devices.now c.args.input.now c.args.nvm.now rest w _ c.sets.result finds
    (unchanged refl refl c.sets.ensures finds.found.counted (record { stores = refl; output = refl; takes = refl })) (λ id ring e. e))

pub returns-in-Set-clause-words : goal.returns-in-Set-clause-words
returns-in-Set-clause-words c w rest finds = none_stored _ c.args.nvm.now

-- A load.

pub returns-in-Load-clause-obeys : goal.returns-in-Load-clause-obeys
unfolding world_of
returns-in-Load-clause-obeys c w rest finds =
    let k = c.args.self.now in
    rw c.in-Load.is (obeyed_quietly k k c.args.devices.now c.args.input.now c.args.nvm.now rest w _ c.load.result finds
    (loaded (state_of k.objects rest) c.args.thread.now c.in-Load.op c.in-Load.rd c.in-Load.at (c.load.ensures rest finds.found.content) finds.found.counted) (λ id ring e. e))

pub returns-in-Load-clause-words : goal.returns-in-Load-clause-words
returns-in-Load-clause-words c w rest finds = none_stored _ c.args.nvm.now

-- A store.

pub store-requires-clause-apart : goal.store-requires-clause-apart
store-requires-clause-apart c = apart_always c.stores_in_parts.ensures.apart c.args.self.now.objects c.requires.may.over.held.rest c.requires.may.over.apart

pub returns-in-Store-clause-obeys : goal.returns-in-Store-clause-obeys
unfolding world_of
returns-in-Store-clause-obeys c w rest finds =
    let k = c.args.self.now in
    rw c.in-Store.is (store_obeyed c.waiting_entries_stand.ensures.pages k c.args.devices.now c.args.input.now c.args.nvm.now c.store.new.nvm rest w (state_of k.objects rest) c.args.thread.now c.in-Store.op c.in-Store.at c.in-Store.value c.store.result finds
    (c.store.ensures.stored rest finds.found.content) (c.store.ensures.tells rest))

pub returns-in-Store-clause-words : goal.returns-in-Store-clause-words
unfolding world_of
returns-in-Store-clause-words c w rest finds = rw c.in-Store.is (c.store.ensures.words rest)

-- A call.

pub ecall-requires-clause-may : goal.ecall-requires-clause-may
ecall-requires-clause-may c = record { over = c.requires.may.over; may = rw c.in-Call.is at c.requires.may.may }

pub returns-in-Call-clause-obeys : goal.returns-in-Call-clause-obeys
returns-in-Call-clause-obeys c w rest finds = rw c.in-Call.is (c.ecall.ensures.obeys w rest finds)

pub returns-in-Call-clause-words : goal.returns-in-Call-clause-words
returns-in-Call-clause-words c w rest finds = rw c.in-Call.is (c.ecall.ensures.words w rest finds)

-- The thread stops.

pub returns-in-Stop-clause-obeys : goal.returns-in-Stop-clause-obeys
returns-in-Stop-clause-obeys c w rest finds =
    let k = c.args.self.now in
    rw c.in-Stop.is (obeyed_quietly k k c.args.devices.now c.args.input.now c.args.nvm.now rest w _ c.stops.result finds (stopped c.args.thread.now _ c.stops.ensures finds.found.counted) (λ id ring e. e))

pub returns-in-Stop-clause-words : goal.returns-in-Stop-clause-words
returns-in-Stop-clause-words c w rest finds = none_stored _ c.args.nvm.now

pub returns-in-Set-clause-leaves : goal.returns-in-Set-clause-leaves
returns-in-Set-clause-leaves c = leaves_same c.args.self.now c.args.me _ c.requires.may.over.held.strays c.requires.caller.free

pub returns-in-Load-clause-leaves : goal.returns-in-Load-clause-leaves
returns-in-Load-clause-leaves c = leaves_same c.args.self.now c.args.me _ c.requires.may.over.held.strays c.requires.caller.free

pub returns-in-Store-clause-leaves : goal.returns-in-Store-clause-leaves
returns-in-Store-clause-leaves c = leaves_same c.args.self.now c.args.me _ c.requires.may.over.held.strays c.requires.caller.free

pub returns-in-Stop-clause-leaves : goal.returns-in-Stop-clause-leaves
returns-in-Stop-clause-leaves c = leaves_same c.args.self.now c.args.me _ c.requires.may.over.held.strays c.requires.caller.free
