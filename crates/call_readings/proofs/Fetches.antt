-- The word at the pc of a thread, and the page on which it stands.
use Rattle.std.specs.Prelude.{◌≡◌, ℕ, ◌%◌, ◌<◌, ◌≤◌, ◌==◌, Bool, true, Some, None, option_map}
use Rattle.std.proofs.lemmas.Bool.{cases_lt}
use Rattle.std.proofs.Common.{inl, inr, sym, ◌∙◌, arith}
use Rattle.sls_base.specs.declared.limits.TheConstants.{PAGE_BYTES, PAGES}
use Rattle.sls_base.specs.declared.rights.TheConstants.{EXECUTE}
use Rattle.sls_base.specs.declared.causes.TheConstants.{NO_ACCESS}
use Rattle.sls_base.specs.declared.thread.Thread.{Thread as ThreadRecord}
use Rattle.mem_space.specs.declared.memory.MemPage.{MemPage}
use Rattle.plain_model.specs.States.{State}
use Rattle.plain_model.specs.Memory.{page_at, place_of}
use Rattle.plain_model.specs.Worlds.{World}
use Rattle.plain_model.specs.Effects.{stops}
use Rattle.plain_model.specs.Instructions.{instruction, fetched, seen_by}
use Rattle.plain_model.specs.SlowReach.{word_at_pc}
use Rattle.plain_model.proofs.SlowReaches.{no_instruction_at}
use Rattle.kobj_table.specs.Slots.{page_of, bytes_of}
use Rattle.call_readings.specs.Content.{number_in}
use Rattle.call_readings.specs.Reach.{is_any_on}
use Rattle.call_readings.specs.Need.{page_of_pc}
use Rattle.call_readings.proofs.Seen.{IsAt, found_at, nothing_seen, number_is, on_page, page_found}

-- where nothing stands at the pc, the thread stops
pub stops_there : (w : World) (id : ℕ) (thread : ThreadRecord) → place_of (seen_by w.now thread) EXECUTE thread.pc ≡ None
    → instruction w id thread ≡ stops thread NO_ACCESS
stops_there w id thread e =
    no_instruction_at w id thread (nothing_seen w.now.objects (seen_by w.now thread) EXECUTE thread.pc 4 (omega arith) e)

module _ (w : World) (thread : ThreadRecord) (content : ℕ → ℕ → ℕ) (page : MemPage) (aligned : thread.pc % 4 ≡ 0)
    (is : IsAt w.now.objects content (seen_by w.now thread) EXECUTE thread.pc page) where
  pub word_is : (word : ℕ) → word ≡ number_in (bytes_of content page.page page.fresh) (thread.pc % PAGE_BYTES) 4 → Some word ≡ word_at_pc w.now thread
  word_is = number_is w.now.objects content (seen_by w.now thread) EXECUTE thread.pc 4 page (omega arith) (omega (arith, aligned)) is

  pub fetched_on : (number : ℕ) → is_any_on w.now.objects (fetched w.now thread) number ≡ (page.page == number)
  fetched_on = on_page w.now.objects content (seen_by w.now thread) EXECUTE thread.pc 4 page (omega arith) (omega (arith, aligned)) is

-- the number of the page on which it stands
pub page_of_place : (s : State) (thread : ThreadRecord) (content : ℕ → ℕ → ℕ) (page : MemPage) → IsAt s.objects content (seen_by s thread) EXECUTE thread.pc page
    → page_of_pc s thread ≡ Some page.page
page_of_place s thread content page is = page_found s.objects content (seen_by s thread) EXECUTE thread.pc page is

pub page_from : (s : State) (thread : ThreadRecord) (content : ℕ → ℕ → ℕ) (page : MemPage) (from : ℕ)
    → Some (page_of content page) ≡ option_map (page_at s.objects) (place_of (seen_by s thread) EXECUTE thread.pc)
    → page_of_pc s thread ≡ Some from → page.page ≡ from
page_from s thread content page from some there =
    let is = found_at s.objects content (seen_by s thread) EXECUTE thread.pc page some in
    let both : Some page.page ≡ Some from = sym (page_of_place s thread content page is) ∙ there in
    cc

-- where a page that there is is at home, it is told that it is
pub home_told : (page : ℕ) (told home : Bool) → (page < PAGES → told ≡ home) → (PAGES ≤ page → told ≡ true) → (page < PAGES → home ≡ true) → told ≡ true
home_told page told home inside past is = elim (cases_lt page PAGES) [ inl l ↦ inside l ∙ is l | inr m ↦ past m ]
