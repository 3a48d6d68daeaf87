-- What holds of each instruction, and of each label: said once for all laws that go through the cases.
use Rattle.std.specs.Prelude.{◌≡◌, ℕ, Bool, true, false, if◌then◌else◌, List, [], ◌∷◌, Option, Some, None}
use Rattle.std.proofs.Common.{refl}
use Rattle.arrayvec.specs.ArrayVec.{ArrayVec}
use Rattle.rv_table.specs.declared.Instr.{Instr}
use Rattle.rv_table.specs.Decoded.{decoded}
use Rattle.rv_core.specs.declared.registers.Plan.{Plan}
use Rattle.rv_core.specs.declared.registers.Plan.TheVariants.{Set, Load, Store, Call as CallOf, Stop as StopOf}
use Rattle.rv_core.specs.Effect.{effect, size_of, extended, with_register}
use Rattle.sls_base.specs.declared.limits.TheConstants.{INSTRUCTION_BYTES}
use Rattle.sls_base.specs.declared.rights.TheConstants.{READ, WRITE, EXECUTE}
use Rattle.sls_base.specs.declared.causes.TheConstants.{NO_ACCESS, ILLEGAL_WORD}
use Rattle.sls_base.specs.declared.thread.Thread.{Thread as ThreadRecord}
use Rattle.plain_state.specs.declared.calls.Call.{Call}
use Rattle.plain_state.specs.declared.calls.Refusal.{Refusal}
use Rattle.plain_state.specs.declared.calls.Refusal.TheVariants.{BadCall}
use Rattle.plain_state.specs.declared.label.Label.{Label}
use Rattle.plain_state.specs.declared.label.Label.TheVariants.{Tick, Commit, Cut, Accept, Input}
use Rattle.plain_model.specs.Memory.{is_covered, places_of, stores_at, bytes_of_number}
use Rattle.plain_model.specs.Worlds.{World}
use Rattle.plain_model.specs.Effects.{Effect, goes_on, stops, answers, regs_of, next_pc}
use Rattle.plain_model.specs.Refusals.{refusal_number}
use Rattle.plain_model.specs.Calls.{call_named}
use Rattle.plain_model.specs.CallRefusals.{refusal_of}
use Rattle.plain_model.specs.CallEffects.{effect_of_call, called, unless_refused}
use Rattle.plain_model.specs.Instructions.{instruction, obeyed, carried_out, with_fetch, fetched, seen_by, value_at}
use Rattle.plain_model.specs.Ticks.{Chosen, chosen, ticked, world_of_effect, effect_for}
use Rattle.plain_model.specs.Play.{after, play, is_offered, has_input_room, with_input, with_released, next_bytes}
use Rattle.plain_model.specs.MayStep.{MayStep, MayPlay}

-- Instructions.

-- the word at a thread's pc is this instruction, and its row has this effect
pub record Does (w : World) (thread : ThreadRecord) (plan : Plan) : Type 0 where
  pub instr : Instr
  pub word : decoded (value_at w.now (fetched w.now thread)) ≡ Some instr
  pub row : effect instr (regs_of thread) ≡ plan

-- what a load gives
abbrev pub loaded : World → ThreadRecord → ℕ → ℕ → ℕ → Effect
loaded w thread op rd at =
    let places = places_of (seen_by w.now thread) READ at (size_of op) in
    record (goes_on (record { pc = next_pc thread; x = with_register thread.x rd (extended op (value_at w.now places)) })) { loads = places }

-- what a store does
abbrev pub stored : World → ThreadRecord → ℕ → ℕ → ℕ → Effect
stored w thread op at value =
    record (goes_on (record { pc = next_pc thread; x = thread.x })) {
      stores = stores_at (places_of (seen_by w.now thread) WRITE at (size_of op)) (bytes_of_number (size_of op) value);
    }

-- Something holds of each effect that the instruction of a thread can have: case by case, with what is known in the case.
pub record HoldsOfEach (P : Effect → Type 0) (w : World) (id : ℕ) (thread : ThreadRecord) : Type 0 where
  -- where it can't be fetched, and where it can
  pub unfetched : P (stops thread NO_ACCESS)
  pub fetches : (e : Effect) → is_covered (seen_by w.now thread) EXECUTE thread.pc INSTRUCTION_BYTES ≡ true → P e → P (with_fetch (fetched w.now thread) e)
  -- no instruction, and one that sets a register, loads, stores or stops
  pub illegal : P (stops thread ILLEGAL_WORD)
  pub sets : (rd value pc : ℕ) → Does w thread (Set rd value pc) → P (goes_on (record { pc = pc; x = with_register thread.x rd value }))
  pub loads : (op rd at : ℕ) → Does w thread (Load op rd at) → is_covered (seen_by w.now thread) READ at (size_of op) ≡ true → P (loaded w thread op rd at)
  pub stores : (op at value : ℕ) → Does w thread (Store op at value) → is_covered (seen_by w.now thread) WRITE at (size_of op) ≡ true → P (stored w thread op at value)
  pub stops_there : (cause : ℕ) → Does w thread (StopOf cause) → P (stops thread cause)
  -- a call that is refused, and one that isn't
  pub refuses : (refusal : Refusal) → P (answers thread (refusal_number refusal))
  pub calls : (call : Call) → call_named thread ≡ Some call → refusal_of w id thread call ≡ None → P (effect_of_call w id thread call)

either_of : (P : Effect → Type 0) (b : Bool) (e f : Effect) → (b ≡ true → P e) → P f → P (if b then e else f)
either_of P true e f h k = h refl
either_of P false e f h k = k

unless_of : (P : Effect → Type 0) (w : World) (id : ℕ) (thread : ThreadRecord) → HoldsOfEach P w id thread → (call : Call) (refusal : Option Refusal)
    → call_named thread ≡ Some call → refusal_of w id thread call ≡ refusal → P (unless_refused w id thread call refusal)
unless_of P w id thread h call None e f = h.calls call e f
unless_of P w id thread h call (Some refusal) e f = h.refuses refusal

called_of : (P : Effect → Type 0) (w : World) (id : ℕ) (thread : ThreadRecord) → HoldsOfEach P w id thread → (call : Option Call) → call_named thread ≡ call → P (called w id thread call)
called_of P w id thread h None e = h.refuses BadCall
called_of P w id thread h (Some call) e = unless_of P w id thread h call (refusal_of w id thread call) e refl

plan_of : (P : Effect → Type 0) (w : World) (id : ℕ) (thread : ThreadRecord) → HoldsOfEach P w id thread → (plan : Plan) → Does w thread plan → P (carried_out w id thread plan)
plan_of P w id thread h (Set rd value pc) d = h.sets rd value pc d
plan_of P w id thread h (Load op rd at) d =
    either_of P (is_covered (seen_by w.now thread) READ at (size_of op)) (loaded w thread op rd at) (stops thread NO_ACCESS) (h.loads op rd at d) h.unfetched
plan_of P w id thread h (Store op at value) d =
    either_of P (is_covered (seen_by w.now thread) WRITE at (size_of op)) (stored w thread op at value) (stops thread NO_ACCESS) (h.stores op at value d) h.unfetched
plan_of P w id thread h CallOf d = called_of P w id thread h (call_named thread) refl
plan_of P w id thread h (StopOf cause) d = h.stops_there cause d

obeyed_of : (P : Effect → Type 0) (w : World) (id : ℕ) (thread : ThreadRecord) → HoldsOfEach P w id thread → (instr : Option Instr)
    → decoded (value_at w.now (fetched w.now thread)) ≡ instr → P (obeyed w id thread instr)
obeyed_of P w id thread h None e = h.illegal
obeyed_of P w id thread h (Some instr) e =
    plan_of P w id thread h (effect instr (regs_of thread)) (record { instr = instr; word = e; row = refl })

-- So it holds of the instruction.
pub holds_of_instruction : (P : Effect → Type 0) (w : World) (id : ℕ) (thread : ThreadRecord) → HoldsOfEach P w id thread → P (instruction w id thread)
unfolding instruction
holds_of_instruction P w id thread h =
    let done = obeyed w id thread (decoded (value_at w.now (fetched w.now thread))) in
    either_of P (is_covered (seen_by w.now thread) EXECUTE thread.pc INSTRUCTION_BYTES) (with_fetch (fetched w.now thread) done) (stops thread NO_ACCESS)
    (λ covered. h.fetches done covered (obeyed_of P w id thread h (decoded (value_at w.now (fetched w.now thread))) refl))
    h.unfetched

-- Labels.

-- Something of a world is kept by the labels that pass: by the tick of a thread that is chosen, a commit, a cut, an entry that the
-- device takes, and an input for which there is room. Where nothing comes of a label the world stays.
pub record IsKept (P : World → Type 0) (Passes : Label → Type 0) (w : World) : Type 0 where
  pub ticks : (core : ℕ) (c : Chosen) → Passes (Tick core) → chosen w.now core ≡ Some c → P (world_of_effect w core c (effect_for w c))
  pub commits : Passes Commit → P (after w Commit)
  pub cuts : Passes Cut → P (after w Cut)
  pub accepts : (channel : ℕ) → Passes (Accept channel) → is_offered w channel ≡ true → P (record w { released = with_released w.released channel (next_bytes w channel) })
  pub inputs : (bytes : ArrayVec ℕ) → Passes (Input bytes) → has_input_room w ≡ true → P (record w { now = with_input w.now bytes.items })

either_world : (P : World → Type 0) (b : Bool) (v w : World) → (b ≡ true → P v) → P w → P (if b then v else w)
either_world P true v w h k = h refl
either_world P false v w h k = k

pub ticked_of : (P : World → Type 0) (w : World) (core : ℕ) → ((c : Chosen) → chosen w.now core ≡ Some c → P (world_of_effect w core c (effect_for w c))) → P w
    → (c : Option Chosen) → chosen w.now core ≡ c → P (ticked w core c)
ticked_of P w core h k None e = k
ticked_of P w core h k (Some c) e = h c e

pub kept_after : (P : World → Type 0) (Passes : Label → Type 0) (w : World) → IsKept P Passes w → P w → (label : Label) → Passes label → P (after w label)
kept_after P Passes w h k (Tick core) passes = ticked_of P w core (λ c. h.ticks core c passes) k (chosen w.now core) refl
kept_after P Passes w h k Commit passes = h.commits passes
kept_after P Passes w h k Cut passes = h.cuts passes
kept_after P Passes w h k (Accept channel) passes =
    either_world P (is_offered w channel) (record w { released = with_released w.released channel (next_bytes w channel) }) w (h.accepts channel passes) k
kept_after P Passes w h k (Input bytes) passes =
    either_world P (has_input_room w) (record w { now = with_input w.now bytes.items }) w (h.inputs bytes passes) k

-- Plays.

-- what each label keeps, a play keeps; and what each label keeps that may befall the world, a play of such labels
pub played : (P : World → Type 0) → ((w : World) (label : Label) → P w → P (after w label)) → (w : World) (labels : List Label) → P w → P (play w labels)
played P keeps w [] h = h
played P keeps w (label ∷ labels) h = played P keeps (after w label) labels (keeps w label h)

pub may_played : (P : World → Type 0) → ((w : World) (label : Label) → MayStep w label → P w → P (after w label)) → (w : World) (labels : List Label)
    → MayPlay w labels → P w → P (play w labels)
may_played P keeps w [] may h = h
may_played P keeps w (label ∷ labels) may h = may_played P keeps (after w label) labels may.1 (keeps w label may.0 h)
