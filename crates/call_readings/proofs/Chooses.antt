-- Whom a core runs next.
use Rattle.std.specs.Prelude.{◌≡◌, ℕ, ◌%◌, ◌||◌, Bool, false, List, [], ◌∷◌, Option, Some, None, option_map, slice_get}
use Rattle.std.proofs.Common.{refl, sym, ap, ◌∙◌}
use Rattle.sls_base.specs.declared.limits.TheConstants.{INSTRUCTION_BYTES}
use Rattle.plain_state.specs.declared.objects.Occupant.{Occupant}
use Rattle.plain_model.specs.Objects.{Object, Thread}
use Rattle.plain_model.specs.States.{State, thread_at, thread_of}
use Rattle.plain_model.specs.Worlds.{World}
use Rattle.plain_model.specs.Instructions.{instruction}
use Rattle.plain_model.specs.Ticks.{Chosen, own_or_front, touches_for, stores_for, loads_from, stores_to}
use Rattle.plain_laws.specs.Bounds.{HasThreads}
use Rattle.kobj_table.specs.Slots.{occupant_of}
use Rattle.call_readings.specs.Need.{fetched_of, page_of_pc}

-- its own thread
pub own_thread : (running : Option (ℕ × ℕ)) (own : Option Occupant) (queue : List ℕ) (thread slice : ℕ) → option_map occupant_of running ≡ own
    → running ≡ Some (thread, slice) → Some thread ≡ option_map (λ (c : Chosen). c.occupant.thread) (own_or_front own queue)
own_thread running own queue thread slice is e = (let o : own ≡ Some (record { thread = thread; slice = slice }) = sym is ∙ ap (option_map occupant_of) e in rw o refl)

-- or the front of the queue
pub front_thread : (running : Option (ℕ × ℕ)) (own : Option Occupant) (queue : List ℕ) → option_map occupant_of running ≡ own
    → running ≡ None → slice_get queue 0 ≡ option_map (λ (c : Chosen). c.occupant.thread) (own_or_front own queue)
front_thread running own queue is e = (let o : own ≡ None = sym is ∙ ap (option_map occupant_of) e in rw o (of_queue queue))
  where
    of_queue : (queue : List ℕ) → slice_get queue 0 ≡ option_map (λ (c : Chosen). c.occupant.thread) (own_or_front None queue)
    of_queue [] = refl
    of_queue (id ∷ queue) = refl

-- what a thread's instruction touches and stores to, the core does that runs it next

abbrev pub touches_of : World → ℕ → ℕ → Bool
touches_of w id page = loads_from w.now (instruction w id (thread_at w.now id)) page || stores_to w.now (instruction w id (thread_at w.now id)) page

abbrev pub stores_of : World → ℕ → ℕ → Bool
stores_of w id page = stores_to w.now (instruction w id (thread_at w.now id)) page

pub touches_by : (w : World) (id page : ℕ) (c : Option Chosen) → Some id ≡ option_map (λ (c : Chosen). c.occupant.thread) c
    → touches_of w id page ≡ touches_for w c page
touches_by w id page None e = absurd (cc)
touches_by w id page (Some c) e = (let same : id ≡ c.occupant.thread = cc in ap (λ (n : ℕ). touches_of w n page) same)

pub stores_by : (w : World) (id page : ℕ) (c : Option Chosen) → Some id ≡ option_map (λ (c : Chosen). c.occupant.thread) c
    → stores_of w id page ≡ stores_for w c page
stores_by w id page None e = absurd (cc)
stores_by w id page (Some c) e = (let same : id ≡ c.occupant.thread = cc in ap (λ (n : ℕ). stores_of w n page) same)

pub touches_none : (w : World) (page : ℕ) (c : Option Chosen) → None ≡ option_map (λ (c : Chosen). c.occupant.thread) c
    → false ≡ touches_for w c page
touches_none w page None e = refl
touches_none w page (Some c) e = absurd (cc)

pub stores_none : (w : World) (page : ℕ) (c : Option Chosen) → None ≡ option_map (λ (c : Chosen). c.occupant.thread) c
    → false ≡ stores_for w c page
stores_none w page None e = refl
stores_none w page (Some c) e = absurd (cc)

pub fetched_by : (s : State) (id : ℕ) (c : Option Chosen) → Some id ≡ option_map (λ (c : Chosen). c.occupant.thread) c
    → page_of_pc s (thread_at s id) ≡ fetched_of s c
fetched_by s id None e = absurd (cc)
fetched_by s id (Some c) e = (let same : id ≡ c.occupant.thread = cc in ap (λ (n : ℕ). page_of_pc s (thread_at s n)) same)

pub fetched_none : (s : State) (c : Option Chosen) → None ≡ option_map (λ (c : Chosen). c.occupant.thread) c → None ≡ fetched_of s c
fetched_none s None e = refl
fetched_none s (Some c) e = absurd (cc)

-- threads are at the address of an instruction
pub aligned_at : (s : State) (id : ℕ) → HasThreads s → (thread_at s id).pc % INSTRUCTION_BYTES ≡ 0
aligned_at s id has = of_object (s.objects id) refl
  where
    of_object : (o : Option Object) → s.objects id ≡ o → (thread_of o).pc % INSTRUCTION_BYTES ≡ 0
    of_object (Some (Thread thread)) e = (has id thread e).aligned
    of_object _ e = refl
