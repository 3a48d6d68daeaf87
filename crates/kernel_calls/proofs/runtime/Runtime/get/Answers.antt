use Rattle.std.proofs.Common.{◌≡◌, ◌+◌, ◌∙◌, true, sym, ap, subst, ℕ, length, take, arith}
use Rattle.std.specs.Prelude.{min}
use Rattle.std.proofs.lemmas.List.{length-take}
use Rattle.sls_base.specs.declared.rights.TheConstants.{WRITE}
use Rattle.plain_state.specs.Effects.{Effect}
use Rattle.plain_state.specs.Calls.{arg}
use Rattle.plain_state.specs.Objects.{regions_of}
use Rattle.plain_state.specs.Memory.{is_covered}
use Rattle.plain_state.specs.Ticks.{stores_to}
use Rattle.kobj_table.specs.Objects.{Rest, object_at, state_of}
use Rattle.kernel_calls.specs.Does.{Obeys}
use Rattle.kernel_calls.specs.Instructions.{ShowsStored, StoresPages}
use Rattle.kernel_calls.specs.Moves.{is_stored_on, stores_from, HasStored}
use Rattle.kernel_calls.proofs.Storing.{apart_always}
use Rattle.kernel_calls.proofs.Getting.{got_is, got_obeys, got_stores, input_covered, input_known, room_known, left}
use Rattle.kernel_calls.proofs.runtime.Runtime.get.Goals as goal

pub store_run-requires-clause-covered : goal.store_run-requires-clause-covered
store_run-requires-clause-covered c content =
    let may = c.requires.may in
    let held = may.over.held in
    let o = c.args.self.now.objects in
    let thread = c.args.thread.now in
    let stored = take c.min.result c.args.input.now in
    let size = length-take c.min.result c.args.input.now in
    let least = c.min.ensures in
    let room = c.arg-room.ensures in
    subst (λ (at : ℕ). is_covered (regions_of (object_at content o thread.space)) WRITE at (length stored) ≡ true) (sym c.arg.ensures)
    (input_covered c.unrefused_call_meets_all.ensures.besides o held.rest held.world c.args.me thread may.unrefused (length stored) content (omega (arith, size, least, room)))

pub store_run-requires-clause-pages : goal.store_run-requires-clause-pages
unfolding state_of
store_run-requires-clause-pages c k below =
    let may = c.requires.may in
    let size = length-take c.min.result c.args.input.now in
    let least = c.min.ensures in
    let room = c.arg-room.ensures in
    let first = ap length may.over.found.first in
    subst (λ (at : ℕ). ShowsStored c.args.self.now.objects c.args.nvm.now c.args.thread.now.space (at + k)) (sym c.arg.ensures) (may.pages.bytes k (omega (arith, below, size, least, room, first)))

pub store_run-requires-clause-apart : goal.store_run-requires-clause-apart
store_run-requires-clause-apart c = apart_always c.stores_in_parts.ensures.apart c.args.self.now.objects c.requires.may.over.held.rest c.requires.may.over.apart

pub store_run-requires-clause-some : goal.store_run-requires-clause-some
store_run-requires-clause-some c =
    let may = c.requires.may in
    let held = may.over.held in
    let o = c.args.self.now.objects in
    let besides = c.unrefused_call_meets_all.ensures.besides in
    let some = (input_known besides o held.rest held.world c.args.me c.args.thread.now may.unrefused c.args.input.now may.over.found.first may.over.found.inputs).some in
    let wanted = (room_known besides o held.rest held.world c.args.me c.args.thread.now may.unrefused).0 in
    let size = length-take c.min.result c.args.input.now in
    let least = c.min.ensures in
    let room = c.arg-room.ensures in
    omega (arith, some, wanted, size, least, room)

pub returns-clause-obeys : goal.returns-clause-obeys
returns-clause-obeys c w rest devices finds unrefused =
    let k = c.args.self.now in
    let thread = c.args.thread.now in
    let input = c.args.input.now in
    let new = c.store_run.new.nvm in
    let stored = take c.min.result input in
    let is : stored ≡ take (min (length input) (arg thread 2)) input = ap (λ (n : ℕ). take n input) (c.min.ensures ∙ ap (λ (n : ℕ). min (length input) n) c.arg-room.ensures) in
    let h = subst (λ (at : ℕ). HasStored k.objects rest thread.space at stored new) c.arg.ensures (c.store_run.ensures.stored rest finds.found.content) in
    subst (λ (e : Effect). (after : Rest) × Obeys k k rest after new w e c.takes.result) (sym (got_is k.objects rest w c.args.me thread input stored finds.first is))
    (left rest h.content, got_obeys c.waiting_entries_stand.ensures.pages k devices c.args.nvm.now rest w new thread input stored c.takes.result finds h c.takes.ensures)

pub returns-clause-words : goal.returns-clause-words
unfolding state_of
returns-clause-words c w rest devices finds unrefused =
    let k = c.args.self.now in
    let thread = c.args.thread.now in
    let input = c.args.input.now in
    let old = c.args.nvm.now in
    let new = c.store_run.new.nvm in
    let stored = take c.min.result input in
    let objects = object_at rest.content k.objects in
    let is : stored ≡ take (min (length input) (arg thread 2)) input = ap (λ (n : ℕ). take n input) (c.min.ensures ∙ ap (λ (n : ℕ). min (length input) n) c.arg-room.ensures) in
    let words = subst (λ (at : ℕ). StoresPages (is_stored_on objects (stores_from objects thread.space at stored)) old new) c.arg.ensures (c.store_run.ensures.words rest) in
    subst (λ (e : Effect). StoresPages (stores_to (state_of k.objects rest) e) old new) (sym (got_is k.objects rest w c.args.me thread input stored finds.first is))
    (got_stores (state_of k.objects rest) thread input stored old new words)
