-- A tick reaches few pages.
use Rattle.std.specs.Prelude.{◌≡◌, ◌⊎◌, ℕ, ◌+◌, ◌/◌, ◌%◌, ◌≤◌, ◌==◌, not, nat_le, min, Bool, true, false, if◌then◌else◌, List, [], ◌∷◌, ◌++◌, length, take, Contains, Option, Some, None, slice_index_or}
use Rattle.std.specs.List.{list_any}
use Rattle.std.proofs.Common.{refl, sym, ◌∙◌, arith, inl, inr, subst}
use Rattle.std.proofs.lemmas.Bool.{not-false, eqb-true, leb-true, and_parts}
use Rattle.std.proofs.lemmas.List.{length-append}
use Rattle.std.proofs.lemmas.List.Elements.{Contains-append_left, Contains-append_right}
use Rattle.std.proofs.lemmas.List.Folds.{list_any-append}
use Rattle.rv_table.specs.declared.Instr.{Instr}
use Rattle.rv_table.specs.declared.Instr.TheVariants.{Lui, Auipc, Jal, Jalr, Branch, Load as LoadRow, Store as StoreRow, OpImm, Op, Fence, Ecall, Ebreak}
use Rattle.rv_core.specs.declared.registers.Plan.{Plan}
use Rattle.rv_core.specs.declared.registers.Plan.TheVariants.{Set, Load, Store, Stop}
use Rattle.rv_core.specs.declared.registers.Regs.{Regs}
use Rattle.rv_core.specs.Effect.{effect, size_of, is_taken, register, plus, next, jump}
use Rattle.sls_base.specs.declared.limits.TheConstants.{PAGE_BYTES, ENTRY_BYTES, INSTRUCTION_BYTES}
use Rattle.sls_base.specs.declared.rights.TheConstants.{READ, WRITE, EXECUTE}
use Rattle.sls_base.specs.declared.thread.Thread.{Thread as ThreadRecord}
use Rattle.plain_state.specs.declared.calls.Call.TheVariants.{Put, Get}
use Rattle.plain_state.specs.declared.calls.Refusal.TheVariants.{BadSize}
use Rattle.plain_model.specs.Objects.{Object, Thread}
use Rattle.plain_model.specs.States.{State, thread_of, thread_at}
use Rattle.plain_model.specs.Memory.{places_of, bytes_of_number}
use Rattle.plain_model.specs.Worlds.{World}
use Rattle.plain_model.specs.Effects.{Effect, regs_of}
use Rattle.plain_model.specs.Calls.{arg, named, needs}
use Rattle.plain_model.specs.CallRefusals.{is_unmet, is_refused_besides, is_entry_length, refusal_of}
use Rattle.plain_model.specs.CallEffects.{channel_of, put_effect, get_effect}
use Rattle.plain_model.specs.Instructions.{instruction, seen_by, fetched, with_fetch}
use Rattle.plain_model.specs.Ticks.{Chosen, chosen, effect_for, touches, touches_for, must_store, stores_for, loads_from, stores_to}
use Rattle.plain_laws.specs.Bounds.{HasThreads}
use Rattle.plain_laws.specs.Ticks.{PassAtMost}
use Rattle.sls_base.proofs.ListTests.{or_cases, or_false}
use Rattle.plain_laws.proofs.NamesCalls.{granted}
use Rattle.plain_laws.proofs.Walk.{Does, loaded, stored}
use Rattle.plain_laws.proofs.Quiet.{IsQuiet, holds_of_reach}
use Rattle.plain_laws.proofs.PageNumbers.{number_at, is_on, any_stored, one_page, two_pages, is_size, aligned_page}

-- Loads and stores are aligned.

abbrev pub IsAligned : Plan → Type 0
IsAligned (Load op rd at) = at % size_of op ≡ 0
IsAligned (Store op at value) = at % size_of op ≡ 0
IsAligned plan = Unit {0}

pub either_aligned : (b : Bool) (p q : Plan) → (b ≡ true → IsAligned p) → IsAligned q → IsAligned (if b then p else q)
either_aligned true p q h k = h refl
either_aligned false p q h k = k

pub jump_aligned : (rd value target : ℕ) → IsAligned (jump rd value target)
jump_aligned rd value target = either_aligned (target % 4 == 0) (Set rd value target) (Stop 2) (λ t. tt) tt

pub effect_aligned : (instr : Instr) (regs : Regs) → IsAligned (effect instr regs)
effect_aligned (Lui rd imm) regs = tt
effect_aligned (Auipc rd imm) regs = tt
effect_aligned (Jal rd imm) regs = jump_aligned rd (next regs) (plus regs.pc imm)
effect_aligned (Jalr rd rs1 imm) regs = jump_aligned rd (next regs) _
effect_aligned (Branch op rs1 rs2 imm) regs =
    either_aligned (is_taken op (register regs rs1) (register regs rs2)) (jump 0 0 (plus regs.pc imm)) (Set 0 0 (next regs)) (λ t. jump_aligned 0 0 (plus regs.pc imm)) tt
effect_aligned (LoadRow op rd rs1 imm) regs =
    let at = plus (register regs rs1) imm in
    either_aligned (at % size_of op == 0) (Load op rd at) (Stop 3) (λ t. eqb-true (at % size_of op) 0 t) tt
effect_aligned (StoreRow op rs1 rs2 imm) regs =
    let at = plus (register regs rs1) imm in
    either_aligned (at % size_of op == 0) (Store op at (register regs rs2)) (Stop 3) (λ t. eqb-true (at % size_of op) 0 t) tt
effect_aligned (OpImm op alt rd rs1 imm) regs = tt
effect_aligned (Op op alt rd rs1 rs2) regs = tt
effect_aligned Fence regs = tt
effect_aligned Ecall regs = tt
effect_aligned Ebreak regs = tt

pub does_aligned : (w : World) (thread : ThreadRecord) (plan : Plan) → Does w thread plan → IsAligned plan
does_aligned w thread plan does = subst IsAligned does.row (effect_aligned does.instr (regs_of thread))

-- Lists of pages.

pub in_one : (n page : ℕ) → n ≡ page → Contains (n ∷ []) page
in_one n page e = (0, omega arith, e)

pub in_two : (n m page : ℕ) → (n ≡ page) ⊎ (m ≡ page) → Contains (n ∷ m ∷ []) page
in_two n m page (inl e) = (0, omega arith, e)
in_two n m page (inr e) = (1, omega arith, e)

pub in_more : (n : ℕ) (xs : List ℕ) (page : ℕ) → Contains xs page → Contains (n ∷ xs) page
in_more n xs page h = Contains-append_right (n ∷ []) xs page h

-- Effects.

-- the page from which a thread fetches
abbrev pub fetch_number : State → ThreadRecord → ℕ
fetch_number s thread = number_at s (seen_by s thread) EXECUTE (thread.pc / PAGE_BYTES)

-- what an effect loads from, beside the page of the fetch, and what it stores to
pub record ReachesFew (s : State) (fetch : ℕ) (e : Effect) : Type 0 where
  pub loads : List ℕ
  pub stores : List ℕ
  pub all : length loads + length stores ≤ 3
  pub some : length stores ≤ 2
  pub loaded : (page : ℕ) → loads_from s e page ≡ true → Contains (fetch ∷ loads) page
  pub stored : (page : ℕ) → stores_to s e page ≡ true → Contains stores page

pub quiet_reaches : (s : State) (fetch : ℕ) (e : Effect) → IsQuiet e → ReachesFew s fetch e
quiet_reaches s fetch e quiet = record {
  loads = [];
  stores = [];
  all = omega arith;
  some = omega arith;
  loaded = λ page t. (let f : false ≡ true = rw quiet.loads at t in absurd (cc));
  stored = λ page t. (let f : false ≡ true = rw (quiet.stores, quiet.output) at t in absurd (cc));
}

-- an entry has few bytes where its length isn't refused
pub entry_is_short : (n : ℕ) → not (is_entry_length n) ≡ false → n ≤ ENTRY_BYTES
entry_is_short n e = leb-true n ENTRY_BYTES (and_parts (nat_le 1 n) (nat_le n ENTRY_BYTES) (not-false (is_entry_length n) e)).1

pub put_is_short : (w : World) (id : ℕ) (thread : ThreadRecord) → refusal_of w id thread Put ≡ None → arg thread 2 ≤ ENTRY_BYTES
put_is_short w id thread unrefused =
    entry_is_short (arg thread 2) (or_false (list_any (is_unmet w.now thread BadSize) (needs thread Put)) (is_refused_besides w id thread Put BadSize) (granted w id thread Put unrefused).size).1

pub get_is_short : (w : World) (id : ℕ) (thread : ThreadRecord) → refusal_of w id thread Get ≡ None → arg thread 2 ≤ ENTRY_BYTES
get_is_short w id thread unrefused =
    entry_is_short (arg thread 2) (or_false (list_any (is_unmet w.now thread BadSize) (needs thread Get)) (is_refused_besides w id thread Get BadSize) (granted w id thread Get unrefused).size).1

-- nothing is put
pub stores_alone : (s : State) (e : Effect) (page : ℕ) → e.output ≡ None → stores_to s e page ≡ true → list_any (λ store. is_on s page store.place) e.stores ≡ true
stores_alone s e page none t = elim (or_cases (list_any (λ store. is_on s page store.place) e.stores) false (rw none at t)) [
  | inl h ↦ h
  | inr h ↦ absurd (cc)
]

pub fetch_reaches : (s : State) (thread : ThreadRecord) (e : Effect) → thread.pc % INSTRUCTION_BYTES ≡ 0 → ReachesFew s (fetch_number s thread) e → ReachesFew s (fetch_number s thread) (with_fetch (fetched s thread) e)
fetch_reaches s thread e aligned h = record {
  loads = h.loads;
  stores = h.stores;
  all = h.all;
  some = h.some;
  loaded = λ page t. elim (or_cases (list_any (is_on s page) (fetched s thread)) (loads_from s e page) (sym (list_any-append (is_on s page) (fetched s thread) e.loads) ∙ t)) [
    | inl first ↦ (
      0,
      omega arith,
      one_page s (seen_by s thread) EXECUTE thread.pc INSTRUCTION_BYTES page (λ address from below. aligned_page INSTRUCTION_BYTES thread.pc address (inr (inr (inl refl))) aligned from below) first,
    )
    | inr more ↦ h.loaded page more
  ];
  stored = h.stored;
}

pub load_reaches : (w : World) (fetch : ℕ) (thread : ThreadRecord) (op rd at : ℕ) → Does w thread (Load op rd at) → ReachesFew w.now fetch (loaded w thread op rd at)
load_reaches w fetch thread op rd at does = record {
  loads = number_at w.now (seen_by w.now thread) READ (at / PAGE_BYTES) ∷ [];
  stores = [];
  all = omega arith;
  some = omega arith;
  loaded = λ page t. in_more fetch (number_at w.now (seen_by w.now thread) READ (at / PAGE_BYTES) ∷ []) page
      (in_one (number_at w.now (seen_by w.now thread) READ (at / PAGE_BYTES)) page
      (one_page w.now (seen_by w.now thread) READ at (size_of op) page (λ address from below. aligned_page (size_of op) at address (is_size op) (does_aligned w thread (Load op rd at) does) from below) t));
  stored = λ page t. absurd (cc);
}

pub store_reaches : (w : World) (fetch : ℕ) (thread : ThreadRecord) (op at value : ℕ) → Does w thread (Store op at value) → ReachesFew w.now fetch (stored w thread op at value)
store_reaches w fetch thread op at value does = record {
  loads = [];
  stores = number_at w.now (seen_by w.now thread) WRITE (at / PAGE_BYTES) ∷ [];
  all = omega arith;
  some = omega arith;
  loaded = λ page t. absurd (cc);
  stored = λ page t. in_one (number_at w.now (seen_by w.now thread) WRITE (at / PAGE_BYTES)) page
      (one_page w.now (seen_by w.now thread) WRITE at (size_of op) page (λ address from below. aligned_page (size_of op) at address (is_size op) (does_aligned w thread (Store op at value) does) from below)
      (any_stored (is_on w.now page) (places_of (seen_by w.now thread) WRITE at (size_of op)) (bytes_of_number (size_of op) value) (stores_alone w.now (stored w thread op at value) page refl t)));
}

pub put_reaches : (w : World) (fetch id : ℕ) (thread : ThreadRecord) → refusal_of w id thread Put ≡ None → ReachesFew w.now fetch (put_effect w.now thread)
put_reaches w fetch id thread unrefused =
    let s = w.now in
    let seen = seen_by s thread in
    let first = number_at s seen READ (arg thread 1 / PAGE_BYTES) in
    let second = number_at s seen READ (arg thread 1 / PAGE_BYTES + 1) in
    record {
      loads = first ∷ second ∷ [];
      stores = channel_of (named s thread 0) ∷ [];
      all = omega arith;
      some = omega arith;
      loaded = λ page t. in_more fetch (first ∷ second ∷ []) page (in_two first second page (two_pages s seen READ (arg thread 1) (arg thread 2) page (put_is_short w id thread unrefused) t));
      stored = λ page t. in_one (channel_of (named s thread 0)) page (eqb-true (channel_of (named s thread 0)) page t);
    }

pub get_reaches : (w : World) (fetch id : ℕ) (thread : ThreadRecord) → refusal_of w id thread Get ≡ None → ReachesFew w.now fetch (get_effect w.now thread)
get_reaches w fetch id thread unrefused =
    let s = w.now in
    let seen = seen_by s thread in
    let first = number_at s seen WRITE (arg thread 1 / PAGE_BYTES) in
    let second = number_at s seen WRITE (arg thread 1 / PAGE_BYTES + 1) in
    let input = slice_index_or s.inputs 0 [] in
    let count = min (length input) (arg thread 2) in
    let few : count ≤ ENTRY_BYTES = (let l = get_is_short w id thread unrefused in omega arith) in
    record {
      loads = [];
      stores = first ∷ second ∷ [];
      all = omega arith;
      some = omega arith;
      loaded = λ page t. absurd (cc);
      stored = λ page t. in_two first second page (two_pages s seen WRITE (arg thread 1) count page few
          (any_stored (is_on s page) (places_of seen WRITE (arg thread 1) count) (take count input) (stores_alone s (get_effect s thread) page refl t)));
    }

pub instruction_reaches : (w : World) (id : ℕ) (thread : ThreadRecord) → thread.pc % INSTRUCTION_BYTES ≡ 0 → ReachesFew w.now (fetch_number w.now thread) (instruction w id thread)
instruction_reaches w id thread aligned =
    let fetch = fetch_number w.now thread in
    holds_of_reach (ReachesFew w.now fetch) w id thread (record {
      quiet = quiet_reaches w.now fetch;
      fetches = λ e covered h. fetch_reaches w.now thread e aligned h;
      loads = λ op rd at does covered. load_reaches w fetch thread op rd at does;
      stores = λ op at value does covered. store_reaches w fetch thread op at value does;
      puts = put_reaches w fetch id thread;
      gets = get_reaches w fetch id thread;
    })

-- Ticks.

-- the pc of the thread that a core runs
pub pc_aligned : (s : State) (id : ℕ) (o : Option Object) → s.objects id ≡ o → HasThreads s → (thread_of o).pc % INSTRUCTION_BYTES ≡ 0
pc_aligned s id (Some (Thread thread)) e h = (h id thread e).aligned
pc_aligned s id o e h = refl

pub chosen_reaches : (w : World) (c : Chosen) → HasThreads w.now → ReachesFew w.now (fetch_number w.now (thread_at w.now c.occupant.thread)) (effect_for w c)
chosen_reaches w c h =
    let id = c.occupant.thread in
    instruction_reaches w id (thread_at w.now id) (pc_aligned w.now id (w.now.objects id) refl h)

pub touched_by : (w : World) (c : Option Chosen) → HasThreads w.now → PassAtMost 4 (touches_for w c)
touched_by w None h = record { numbers = []; count = omega arith; all = λ n t. absurd (cc) }
touched_by w (Some c) h =
    let e = effect_for w c in
    let r = chosen_reaches w c h in
    let first = fetch_number w.now (thread_at w.now c.occupant.thread) ∷ r.loads in
    record {
      numbers = first ++ r.stores;
      count = (let l = length-append first r.stores in let k = r.all in omega arith);
      all = λ n t. elim (or_cases (loads_from w.now e n) (stores_to w.now e n) t) [
        | inl is ↦ Contains-append_left first r.stores n (r.loaded n is)
        | inr is ↦ Contains-append_right first r.stores n (r.stored n is)
      ];
    }

pub stored_by : (w : World) (c : Option Chosen) → HasThreads w.now → PassAtMost 2 (stores_for w c)
stored_by w None h = record { numbers = []; count = omega arith; all = λ n t. absurd (cc) }
stored_by w (Some c) h =
    let r = chosen_reaches w c h in
    record { numbers = r.stores; count = r.some; all = r.stored }

pub few_touched : (w : World) (core : ℕ) → HasThreads w.now → PassAtMost 4 (touches w core)
few_touched w core h = touched_by w (chosen w.now core) h

pub few_stored : (w : World) (core : ℕ) → HasThreads w.now → PassAtMost 2 (must_store w core)
few_stored w core h = stored_by w (chosen w.now core) h
