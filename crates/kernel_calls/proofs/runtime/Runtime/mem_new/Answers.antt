use Rattle.std.proofs.Common.{◌≡◌, ◌∙◌, sym, ap, refl, ℕ, List, Bool, inr}
use Rattle.std.specs.Prelude.{◌||◌, not, filter, map, take, Some}
use mathlib.Core.Path.{fun_ext}
use Rattle.plain_state.specs.declared.calls.Call.TheVariants.{MemNew}
use Rattle.plain_state.specs.declared.calls.Refusal.TheVariants.{NoSlot, NoObjects}
use Rattle.plain_state.specs.Objects.{Memory, Page, new_memory, new_page, every_page}
use Rattle.plain_state.specs.Worlds.{free_pages}
use Rattle.plain_state.specs.Calls.{arg}
use Rattle.plain_state.specs.CallEffects.{effect_of_call}
use Rattle.call_readings.specs.Kernel.{world_of}
use Rattle.call_readings.specs.NumberSets.{uses_page}
use Rattle.kernel_calls.specs.Pages.{free_in, is_among}
use Rattle.kernel_calls.proofs.Made.{made_with_pages, fresh_pages, new_numbers}
use Rattle.kernel_calls.proofs.runtime.Runtime.mem_new.Goals as goal

pub returns-clause-does : goal.returns-clause-does
unfolding effect_of_call free_pages
returns-clause-does c w rest h e a =
    let k = c.args.self.now in
    let thread = c.args.thread.now in
    let world = world_of k.objects rest w in
    let law = c.unrefused_call_meets_all.ensures.besides in
    let memory = c.take_memory-memory.result in
    let free : free_in k.numbers ≡ free_pages world = ap (λ (u : ℕ → Bool). filter (λ page. not (u page)) every_page) (fun_ext h.pages) in
    let pages = take (arg thread 0) (free_pages world) in
    let object = new_memory pages in
    let taken : take c.arg.result (free_in k.numbers) ≡ pages = ap (λ (n : ℕ). take n (free_in k.numbers)) c.arg.ensures ∙ ap (λ (l : List ℕ). take (arg thread 0) l) free in
    let is = ap (λ (l : List Page). Some (Memory l)) (fresh_pages rest.content memory.pages.items c.take_memory-memory.ensures.fresh)
    ∙ ap (λ (l : List ℕ). Some (Memory (map new_page l))) (c.take_memory-memory.ensures.numbers ∙ taken) in
    let makes_it = c.make-done.ensures.makes w rest object h (law world c.args.me thread MemNew NoSlot (λ same. cc) e) (law world c.args.me thread MemNew NoObjects (λ same. cc) e) is a.held in
    let fresh = rw makes_it.made at (c.make-done.ensures.fresh a.held a.caller) in
    made_with_pages k c.make-done.new.self _ rest w thread object c.make-done.result makes_it fresh.0 refl refl
    (λ page. c.take_memory-memory.ensures.used page ∙ ap (λ (l : List ℕ). uses_page k.numbers page || is_among l page) (taken ∙ sym (new_numbers pages)))
    h

pub returns-clause-keeps : goal.returns-clause-keeps
returns-clause-keeps c a =
    let kept = c.make-done.ensures.keeps a.held a.caller in
    record { caller = kept.caller; strays = kept.strays; free = kept.free; untold = kept.untold; rings = kept.rings }

pub make-done-requires-clause-untold : goal.make-done-requires-clause-untold
make-done-requires-clause-untold c = inr (refl, c.take_memory-memory.ensures.fresh)
