use Rattle.std.proofs.Common.{refl}
use Rattle.std.specs.Prelude.{nat_le}
use Rattle.std.proofs.lemmas.Bool.{and_parts, leb-true}
use Rattle.sls_base.specs.declared.limits.TheConstants.{MEMORY_PAGES}
use Rattle.plain_state.specs.declared.calls.Call.TheVariants.{CapDrop, MemNew}
use Rattle.plain_state.specs.declared.calls.Refusal.TheVariants.{NoCap, BadSize}
use Rattle.plain_state.specs.Calls.{arg}
use Rattle.plain_state.specs.CallRefusals.{is_memory_size}
use Rattle.plain_state.specs.CallEffects.{effect_of_call}
use Rattle.call_readings.specs.Kernel.{world_of}
use Rattle.kernel_calls.proofs.Groups.{place_known}
use Rattle.kernel_calls.proofs.Unrefused.{not_false}
use Rattle.kernel_calls.proofs.Frames.{unchanged}
use Rattle.kernel_calls.proofs.Untold.{keeps_same}
use Rattle.kernel_calls.proofs.runtime.Runtime.change_objects.Goals as goal

pub returns-in-Yield-clause-does : goal.returns-in-Yield-clause-does
unfolding effect_of_call
returns-in-Yield-clause-does c w rest h e a = rw c.in-Yield.is (unchanged refl refl c.yields.ensures h (record { stores = refl; output = refl; takes = refl }))

pub returns-in-Halt-clause-does : goal.returns-in-Halt-clause-does
unfolding effect_of_call
returns-in-Halt-clause-does c w rest h e a = rw c.in-Halt.is (unchanged refl refl c.halts.ensures h (record { stores = refl; output = refl; takes = refl }))

pub returns-in-Checkpoint-clause-does : goal.returns-in-Checkpoint-clause-does
unfolding effect_of_call
returns-in-Checkpoint-clause-does c w rest h e a = rw c.in-Checkpoint.is (unchanged refl refl c.wishes.ensures h (record { stores = refl; output = refl; takes = refl }))

pub cap_drop-requires : goal.cap_drop-requires
cap_drop-requires c =
    let a = c.requires.allowed in
    place_known _ (arg c.args.thread.now 1) (c.unrefused_call_meets_all.ensures.besides (world_of c.args.self.now.objects a.held.rest a.held.world) c.args.me c.args.thread.now CapDrop NoCap (λ same. cc)
    (rw c.in-CapDrop.is at a.unrefused))

pub mem_new-requires : goal.mem_new-requires
mem_new-requires c =
    let a = c.requires.allowed in
    let size = c.unrefused_call_meets_all.ensures.besides (world_of c.args.self.now.objects a.held.rest a.held.world) c.args.me c.args.thread.now MemNew BadSize (λ same. cc) (rw c.in-MemNew.is at a.unrefused) in
    leb-true _ MEMORY_PAGES (and_parts (nat_le 1 (arg c.args.thread.now 0)) (nat_le (arg c.args.thread.now 0) MEMORY_PAGES) (not_false (is_memory_size (arg c.args.thread.now 0)) size)).1

pub returns-in-Yield-clause-keeps : goal.returns-in-Yield-clause-keeps
returns-in-Yield-clause-keeps c =
    let a = c.requires.allowed in
    keeps_same c.args.self.now _ c.args.me _ refl a.held.strays a.caller.free

pub returns-in-Halt-clause-keeps : goal.returns-in-Halt-clause-keeps
returns-in-Halt-clause-keeps c =
    let a = c.requires.allowed in
    keeps_same c.args.self.now _ c.args.me _ refl a.held.strays a.caller.free

pub returns-in-Checkpoint-clause-keeps : goal.returns-in-Checkpoint-clause-keeps
returns-in-Checkpoint-clause-keeps c =
    let a = c.requires.allowed in
    keeps_same c.args.self.now _ c.args.me _ refl a.held.strays a.caller.free
