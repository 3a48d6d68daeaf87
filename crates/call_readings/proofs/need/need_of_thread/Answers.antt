use Rattle.std.proofs.Common.{◌≡◌, ◌∙◌, ℕ, List, [], ◌∷◌, ◌++◌, Bool, true, false, Some, None, ap, sym, refl, rules}
use Rattle.std.specs.Prelude.{◌||◌, ◌==◌, option_map}
use Rattle.std.proofs.lemmas.Bool.{false≢true}
use Rattle.sls_base.specs.declared.rights.TheConstants.{EXECUTE}
use Rattle.rv_table.specs.Decoded.{decoded}
use Rattle.pmem_layout.specs.Places.{runtime_frame}
use Rattle.pmem_model.specs.Memory.{is_frame_home}
use Rattle.plain_state.specs.declared.effect.Place.{Place}
use Rattle.plain_model.specs.Memory.{page_at, place_of}
use Rattle.plain_model.specs.Instructions.{seen_by, obeyed, fetched, with_fetch}
use Rattle.plain_model.specs.Ticks.{loads_from, stores_to}
use Rattle.plain_model.proofs.SlowReaches.{any_both, instruction_at}
use Rattle.kobj_table.specs.Slots.{page_of}
use Rattle.kobj_table.specs.Objects.{state_of}
use Rattle.call_readings.specs.Kernel.{world_of}
use Rattle.call_readings.specs.Need.{has_page}
use Rattle.call_readings.proofs.Seen.{found_at, nothing_at}
use Rattle.call_readings.proofs.Fetches.{stops_there, word_is, fetched_on, page_of_place, page_from, home_told}
use Rattle.call_readings.proofs.Reached.{or_none, or_three}
use Rattle.call_readings.proofs.need.need_of_thread.Goals as goal

pub returns-in_default-clause-touched : goal.returns-in_default-clause-touched
unfolding world_of state_of
returns-in_default-clause-touched c w rest page counted attached reads aligned home =
    let world = world_of c.args.objects.now rest w in
    let thread = c.args.thread.now in
    let none : None ≡ option_map (page_at world.now.objects) (place_of (seen_by world.now thread) EXECUTE thread.pc) = search rules in
    let stop = stops_there world c.args.me thread (nothing_at world.now.objects (seen_by world.now thread) EXECUTE thread.pc none) in
    rw (stop, c.nothing-need.ensures.touched) refl

pub returns-in_default-clause-stored : goal.returns-in_default-clause-stored
unfolding world_of state_of
returns-in_default-clause-stored c w rest page counted attached reads aligned home =
    let world = world_of c.args.objects.now rest w in
    let thread = c.args.thread.now in
    let none : None ≡ option_map (page_at world.now.objects) (place_of (seen_by world.now thread) EXECUTE thread.pc) = search rules in
    let stop = stops_there world c.args.me thread (nothing_at world.now.objects (seen_by world.now thread) EXECUTE thread.pc none) in
    rw (stop, c.nothing-need.ensures.stored) refl

pub returns-in_default-clause-away : goal.returns-in_default-clause-away
unfolding state_of
returns-in_default-clause-away c rest from there inside away =
    let s = state_of c.args.objects.now rest in
    let thread = c.args.thread.now in
    let none : None ≡ option_map (page_at s.objects) (place_of (seen_by s thread) EXECUTE thread.pc) = search rules in
    let nowhere : place_of (seen_by s thread) EXECUTE thread.pc ≡ None = nothing_at s.objects (seen_by s thread) EXECUTE thread.pc none in
    let absent : None ≡ Some from = (rw nowhere at there) in
    absurd (cc)

-- the list with the fetched page alone
fetched_alone : (old new : List ℕ) (from page : ℕ) → old ≡ [] → new ≡ old ++ from ∷ [] → has_page new page ≡ (from == page)
fetched_alone old new from page none pushed = (let is : new ≡ from ∷ [] = (rw none at pushed) in rw is (or_none (from == page)))

-- what is loaded with the instruction itself
loaded_with : (first loads stores : Bool) → ((first || loads) || stores) ≡ (first || (loads || stores))
loaded_with first loads stores = or_three first loads stores

pub returns-then-is_home-clause-touched : goal.returns-then-is_home-clause-touched
unfolding world_of state_of
returns-then-is_home-clause-touched c w rest page counted attached reads aligned home =
    let world = world_of c.args.objects.now rest w in
    let thread = c.args.thread.now in
    let from = c.in-Some.page in
    let some : Some (page_of rest.content from) ≡ option_map (page_at world.now.objects) (place_of (seen_by world.now thread) EXECUTE thread.pc) = search rules in
    let at = found_at world.now.objects rest.content (seen_by world.now thread) EXECUTE thread.pc from some in
    let word = c.fetch-word.result in
    let there = word_is world thread rest.content from aligned at word (c.fetch-word.ensures rest.content reads aligned) in
    let e = obeyed world c.args.me thread (decoded word) in
    let test : Place → Bool = λ place. (page_at world.now.objects place).number == page in
    let is = c.reach_of-reach.ensures w rest counted attached in
    let more = c.add_reach.ensures.touched rest e page is in
    let first = fetched_alone c.nothing-need.result.touched.items c.push.new.self.items from.page page c.nothing-need.ensures.touched c.push.ensures.items in
    let loads : loads_from world.now (with_fetch (fetched world.now thread) e) page ≡ ((from.page == page) || loads_from world.now e page) =
    any_both test (fetched world.now thread) e.loads ∙ ap (λ b. b || loads_from world.now e page) (fetched_on world thread rest.content from aligned at page) in
    rw (instruction_at world c.args.me thread word there, loads, loaded_with (from.page == page) (loads_from world.now e page) (stores_to world.now e page))
    (more ∙ ap (λ b. b || (loads_from world.now e page || stores_to world.now e page)) first)

pub returns-then-is_home-clause-stored : goal.returns-then-is_home-clause-stored
unfolding world_of state_of
returns-then-is_home-clause-stored c w rest page counted attached reads aligned home =
    let world = world_of c.args.objects.now rest w in
    let thread = c.args.thread.now in
    let from = c.in-Some.page in
    let some : Some (page_of rest.content from) ≡ option_map (page_at world.now.objects) (place_of (seen_by world.now thread) EXECUTE thread.pc) = search rules in
    let at = found_at world.now.objects rest.content (seen_by world.now thread) EXECUTE thread.pc from some in
    let word = c.fetch-word.result in
    let there = word_is world thread rest.content from aligned at word (c.fetch-word.ensures rest.content reads aligned) in
    let e = obeyed world c.args.me thread (decoded word) in
    let is = c.reach_of-reach.ensures w rest counted attached in
    rw (instruction_at world c.args.me thread word there) (c.add_reach.ensures.stored rest e page is)

pub returns-then-is_home-clause-away : goal.returns-then-is_home-clause-away
unfolding state_of
returns-then-is_home-clause-away c rest from there inside away =
    let s = state_of c.args.objects.now rest in
    let thread = c.args.thread.now in
    let page = c.in-Some.page in
    let some : Some (page_of rest.content page) ≡ option_map (page_at s.objects) (place_of (seen_by s thread) EXECUTE thread.pc) = search rules in
    let same = page_from s thread rest.content page from some there in
    let home : is_frame_home c.args.nvm.now (runtime_frame page.page) ≡ true = sym (c.is_home.ensures.home (rw same inside)) ∙ c.if-is_home.true in
    let gone : is_frame_home c.args.nvm.now (runtime_frame page.page) ≡ false = rw same away in
    absurd (false≢true (sym gone ∙ home))

pub returns-else-is_home-clause-touched : goal.returns-else-is_home-clause-touched
unfolding world_of state_of
returns-else-is_home-clause-touched c w rest page counted attached reads aligned home =
    let s = state_of c.args.objects.now rest in
    let thread = c.args.thread.now in
    let from = c.in-Some.page in
    let some : Some (page_of rest.content from) ≡ option_map (page_at s.objects) (place_of (seen_by s thread) EXECUTE thread.pc) = search rules in
    let there = page_of_place s thread rest.content from (found_at s.objects rest.content (seen_by s thread) EXECUTE thread.pc from some) in
    let told = home_told from.page c.is_home.result _ c.is_home.ensures.home c.is_home.ensures.past (λ inside. home from.page there inside) in
    absurd (false≢true (sym c.if-is_home.false ∙ told))

pub returns-else-is_home-clause-stored : goal.returns-else-is_home-clause-stored
unfolding world_of state_of
returns-else-is_home-clause-stored c w rest page counted attached reads aligned home =
    let s = state_of c.args.objects.now rest in
    let thread = c.args.thread.now in
    let from = c.in-Some.page in
    let some : Some (page_of rest.content from) ≡ option_map (page_at s.objects) (place_of (seen_by s thread) EXECUTE thread.pc) = search rules in
    let there = page_of_place s thread rest.content from (found_at s.objects rest.content (seen_by s thread) EXECUTE thread.pc from some) in
    let told = home_told from.page c.is_home.result _ c.is_home.ensures.home c.is_home.ensures.past (λ inside. home from.page there inside) in
    absurd (false≢true (sym c.if-is_home.false ∙ told))

pub returns-else-is_home-clause-away : goal.returns-else-is_home-clause-away
unfolding state_of
returns-else-is_home-clause-away c rest from there inside away =
    let s = state_of c.args.objects.now rest in
    let thread = c.args.thread.now in
    let page = c.in-Some.page in
    let some : Some (page_of rest.content page) ≡ option_map (page_at s.objects) (place_of (seen_by s thread) EXECUTE thread.pc) = search rules in
    let same = page_from s thread rest.content page from some there in
    (rw (c.push.ensures.items, c.nothing-need.ensures.touched, same) refl, c.nothing-need.ensures.stored)
