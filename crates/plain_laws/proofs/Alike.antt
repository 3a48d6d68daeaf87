-- What an instruction does depends on little of a world: on its objects, the inputs that wait, the numbers in use and the counts of
-- entries.
use Rattle.std.specs.Prelude.{◌≡◌, ℕ, ◌+◌, ◌-◌, ◌^◌, ◌==◌, ◌||◌, not, Bool, if◌then◌else◌, List, filter, find, Option, Some, None}
use Rattle.std.specs.List.{list_any}
use Rattle.std.proofs.Common.{refl, ap, ◌∙◌, subst}
use mathlib.Core.Path.{fun_ext}
use Rattle.rv_table.specs.declared.Instr.{Instr}
use Rattle.rv_table.specs.Decoded.{decoded}
use Rattle.rv_core.specs.declared.registers.Plan.{Plan}
use Rattle.rv_core.specs.declared.registers.Plan.TheVariants.{Set, Load, Store, Call as CallOf, Stop as StopOf}
use Rattle.rv_core.specs.Effect.{effect}
use Rattle.sls_base.specs.declared.limits.TheConstants.{RING_ENTRIES, INSTRUCTION_BYTES}
use Rattle.sls_base.specs.declared.rights.TheConstants.{EXECUTE}
use Rattle.sls_base.specs.declared.causes.TheConstants.{NO_ACCESS}
use Rattle.sls_base.specs.declared.thread.Thread.{Thread as ThreadRecord}
use Rattle.plain_state.specs.declared.calls.Need.{Need}
use Rattle.plain_state.specs.declared.calls.Refusal.{Refusal}
use Rattle.plain_state.specs.declared.calls.Refusal.TheVariants.{NoCap, WrongKind, NoRight, NoObjects, NoPages, Full}
use Rattle.plain_state.specs.declared.calls.Call.{Call}
use Rattle.plain_state.specs.declared.calls.Call.TheVariants.{Put, MemNew, SpaceNew, GroupNew, ThreadNew, NoteNew, ConnNew}
use Rattle.plain_model.specs.Objects.{Object, OutputRing, every_object, every_page}
use Rattle.plain_model.specs.Memory.{is_covered}
use Rattle.plain_model.specs.Worlds.{World, accepted_count, put_count, is_ring_full, is_used_object, is_used_page, free_objects, free_pages}
use Rattle.plain_model.specs.Effects.{Effect, stops, regs_of}
use Rattle.plain_model.specs.Refusals.{refusal_order}
use Rattle.plain_model.specs.Calls.{needs, named, call_named}
use Rattle.plain_model.specs.CallRefusals.{is_unmet, is_refused_besides, is_refused_by, is_full_ring, refusal_of, no_room}
use Rattle.plain_model.specs.CallEffects.{effect_of_call, called, unless_refused}
use Rattle.plain_model.specs.Instructions.{instruction, obeyed, carried_out, with_fetch, fetched, seen_by, value_at}
use Rattle.plain_laws.specs.Ticks.{IsAlike}

-- A world with the objects and the inputs of another.

abbrev pub likened : World → (ℕ → Option Object) → List (List ℕ) → World
likened w objects inputs = record w { now = record w.now { objects = objects; inputs = inputs } }

abbrev pub like : World → World → World
like w v = likened w v.now.objects v.now.inputs

pub is_like : (w v : World) → w.now.objects ≡ v.now.objects → w.now.inputs ≡ v.now.inputs → w ≡ like w v
is_like w v objects inputs =
    ap (λ (o : ℕ → Option Object). likened w o w.now.inputs) objects ∙ ap (λ (i : List (List ℕ)). likened w v.now.objects i) inputs

-- Two worlds have the same free numbers, and the same rings are full.
pub record HaveSame (w v : World) : Type 0 where
  pub free : free_objects w ≡ free_objects v
  pub pages : free_pages w ≡ free_pages v
  pub full : (channel : ℕ) → is_ring_full w channel ≡ is_ring_full v channel

pub same_objects : (w v : World) → ((i : ℕ) → is_used_object w i ≡ is_used_object v i) → free_objects w ≡ free_objects v
unfolding free_objects
same_objects w v h = ap (λ (p : ℕ → Bool). filter p every_object) (fun_ext (λ i. ap not (h i)))

pub same_pages : (w v : World) → ((page : ℕ) → is_used_page w page ≡ is_used_page v page) → free_pages w ≡ free_pages v
unfolding free_pages
same_pages w v h = ap (λ (p : ℕ → Bool). filter p every_page) (fun_ext (λ page. ap not (h page)))

-- whether a ring is full, by the counts of its entries
abbrev pub is_full_by : ℕ → ℕ → Bool
is_full_by put accepted = (put == accepted + RING_ENTRIES) || (put == 2 ^ 64 - 1)

pub have_same : (w v : World) → IsAlike w v → HaveSame w v
have_same w v h = record {
  free = same_objects w v h.used_objects;
  pages = same_pages w v h.used_pages;
  full = λ channel. ap (λ (put : ℕ). is_full_by put (accepted_count w channel)) (h.put channel) ∙ ap (is_full_by (put_count v channel)) (h.accepted channel);
}

-- Refusals.

pub same_unmet : (w v : World) (thread : ThreadRecord) (refusal : Refusal) (need : Need) → is_unmet (like w v).now thread refusal need ≡ is_unmet v.now thread refusal need
same_unmet w v thread NoCap need = refl
same_unmet w v thread WrongKind need = refl
same_unmet w v thread NoRight need = refl
same_unmet w v thread refusal need = refl

pub same_full : (w v : World) → HaveSame (like w v) v → (o : Option Object) → is_full_ring (like w v) o ≡ is_full_ring v o
same_full w v h (Some (OutputRing channel)) = h.full channel
same_full w v h o = refl

pub same_room : (w v : World) → HaveSame (like w v) v → (thread : ThreadRecord) (refusal : Refusal) → no_room (like w v) thread refusal ≡ no_room v thread refusal
same_room w v h thread NoObjects = rw h.free refl
same_room w v h thread refusal = refl

pub same_memory : (w v : World) → HaveSame (like w v) v → (id : ℕ) (thread : ThreadRecord) (refusal : Refusal)
    → is_refused_besides (like w v) id thread MemNew refusal ≡ is_refused_besides v id thread MemNew refusal
same_memory w v h id thread NoPages = rw h.pages refl
same_memory w v h id thread NoObjects = rw h.free refl
same_memory w v h id thread refusal = refl

pub same_put : (w v : World) → HaveSame (like w v) v → (id : ℕ) (thread : ThreadRecord) (refusal : Refusal)
    → is_refused_besides (like w v) id thread Put refusal ≡ is_refused_besides v id thread Put refusal
same_put w v h id thread Full = same_full w v h (named v.now thread 0)
same_put w v h id thread refusal = refl

pub same_new_thread : (w v : World) → HaveSame (like w v) v → (id : ℕ) (thread : ThreadRecord) (refusal : Refusal)
    → is_refused_besides (like w v) id thread ThreadNew refusal ≡ is_refused_besides v id thread ThreadNew refusal
same_new_thread w v h id thread NoObjects = rw h.free refl
same_new_thread w v h id thread refusal = refl

pub same_besides : (w v : World) → HaveSame (like w v) v → (id : ℕ) (thread : ThreadRecord) (call : Call) (refusal : Refusal)
    → is_refused_besides (like w v) id thread call refusal ≡ is_refused_besides v id thread call refusal
same_besides w v h id thread Put refusal = same_put w v h id thread refusal
same_besides w v h id thread MemNew refusal = same_memory w v h id thread refusal
same_besides w v h id thread SpaceNew refusal = same_room w v h thread refusal
same_besides w v h id thread GroupNew refusal = same_room w v h thread refusal
same_besides w v h id thread ThreadNew refusal = same_new_thread w v h id thread refusal
same_besides w v h id thread NoteNew refusal = same_room w v h thread refusal
same_besides w v h id thread ConnNew refusal = same_room w v h thread refusal
same_besides w v h id thread call refusal = refl

pub same_refused : (w v : World) → HaveSame (like w v) v → (id : ℕ) (thread : ThreadRecord) (call : Call) (refusal : Refusal)
    → is_refused_by (like w v) id thread call refusal ≡ is_refused_by v id thread call refusal
same_refused w v h id thread call refusal =
    ap (λ (p : Need → Bool). list_any p (needs thread call) || is_refused_besides (like w v) id thread call refusal) (fun_ext (same_unmet w v thread refusal))
    ∙ ap (λ (b : Bool). list_any (is_unmet v.now thread refusal) (needs thread call) || b) (same_besides w v h id thread call refusal)

pub same_refusal : (w v : World) → HaveSame (like w v) v → (id : ℕ) (thread : ThreadRecord) (call : Call) → refusal_of (like w v) id thread call ≡ refusal_of v id thread call
unfolding refusal_of
same_refusal w v h id thread call = ap (λ (p : Refusal → Bool). find p refusal_order) (fun_ext (same_refused w v h id thread call))

-- Effects.

pub same_call : (w v : World) → HaveSame (like w v) v → (id : ℕ) (thread : ThreadRecord) (call : Call) → effect_of_call (like w v) id thread call ≡ effect_of_call v id thread call
unfolding effect_of_call
same_call w v h id thread MemNew = rw (h.free, h.pages) refl
same_call w v h id thread SpaceNew = rw h.free refl
same_call w v h id thread GroupNew = rw h.free refl
same_call w v h id thread ThreadNew = rw h.free refl
same_call w v h id thread NoteNew = rw h.free refl
same_call w v h id thread ConnNew = rw h.free refl
same_call w v h id thread call = refl

pub same_unless : (w v : World) → HaveSame (like w v) v → (id : ℕ) (thread : ThreadRecord) (call : Call) (refusal : Option Refusal)
    → unless_refused (like w v) id thread call refusal ≡ unless_refused v id thread call refusal
same_unless w v h id thread call None = same_call w v h id thread call
same_unless w v h id thread call (Some refusal) = refl

pub same_called : (w v : World) → HaveSame (like w v) v → (id : ℕ) (thread : ThreadRecord) (call : Option Call) → called (like w v) id thread call ≡ called v id thread call
same_called w v h id thread None = refl
same_called w v h id thread (Some call) =
    ap (unless_refused (like w v) id thread call) (same_refusal w v h id thread call) ∙ same_unless w v h id thread call (refusal_of v id thread call)

pub same_plan : (w v : World) → HaveSame (like w v) v → (id : ℕ) (thread : ThreadRecord) (plan : Plan) → carried_out (like w v) id thread plan ≡ carried_out v id thread plan
same_plan w v h id thread CallOf = same_called w v h id thread (call_named thread)
same_plan w v h id thread (Set rd value pc) = refl
same_plan w v h id thread (Load op rd at) = refl
same_plan w v h id thread (Store op at value) = refl
same_plan w v h id thread (StopOf cause) = refl

pub same_obeyed : (w v : World) → HaveSame (like w v) v → (id : ℕ) (thread : ThreadRecord) (instr : Option Instr) → obeyed (like w v) id thread instr ≡ obeyed v id thread instr
same_obeyed w v h id thread None = refl
same_obeyed w v h id thread (Some instr) = same_plan w v h id thread (effect instr (regs_of thread))

pub same_instruction : (w v : World) → HaveSame (like w v) v → (id : ℕ) (thread : ThreadRecord) → instruction (like w v) id thread ≡ instruction v id thread
unfolding instruction
same_instruction w v h id thread =
    ap (λ (e : Effect). if is_covered (seen_by v.now thread) EXECUTE thread.pc INSTRUCTION_BYTES then with_fetch (fetched v.now thread) e else stops thread NO_ACCESS)
    (same_obeyed w v h id thread (decoded (value_at v.now (fetched v.now thread))))

pub alike_instruction : (w v : World) (id : ℕ) (thread : ThreadRecord) → IsAlike w v → instruction w id thread ≡ instruction v id thread
alike_instruction w v id thread h =
    let is = is_like w v h.objects h.inputs in
    ap (λ (u : World). instruction u id thread) is
    ∙ same_instruction w v (have_same (like w v) v (subst (λ (u : World). IsAlike u v) is h)) id thread
