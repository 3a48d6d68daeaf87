-- A call that is refused answers alone.
use Rattle.std.specs.Prelude.{◌≡◌, ◌≢◌, ℕ, ◌-◌, List, ◌++◌, Option, Some, slice_set}
use Rattle.std.proofs.Common.{ap, sym, ◌∙◌, inl, inr, append-nil}
use Rattle.std.proofs.lemmas.Bool.{cond-true, ne_eqb}
use Rattle.sls_base.specs.declared.fixed.TheConstants.{SCHEDULER}
use Rattle.sls_base.specs.declared.limits.TheConstants.{INSTRUCTION_BYTES}
use Rattle.sls_base.specs.declared.rights.TheConstants.{EXECUTE}
use Rattle.sls_base.specs.declared.causes.TheConstants.{NO_ACCESS}
use Rattle.sls_base.specs.declared.thread.Thread.{Thread as ThreadRecord}
use Rattle.rv_table.specs.declared.Instr.{Instr}
use Rattle.rv_table.specs.Decoded.{decoded}
use Rattle.plain_state.specs.declared.calls.Refusal.{Refusal}
use Rattle.plain_state.specs.declared.effect.Goes.{Goes}
use Rattle.plain_state.specs.declared.effect.Goes.TheVariants.{On}
use Rattle.plain_model.specs.Objects.{Thread}
use Rattle.plain_model.specs.Memory.{is_covered}
use Rattle.plain_model.specs.Worlds.{World}
use Rattle.plain_model.specs.Effects.{Effect, answers, stops}
use Rattle.plain_model.specs.Refusals.{refusal_number}
use Rattle.plain_model.specs.CallEffects.{ecall, called, unless_refused}
use Rattle.plain_model.specs.Instructions.{instruction, obeyed, with_fetch, fetched, seen_by, value_at}
use Rattle.plain_model.specs.Ticks.{Chosen, chosen, effect_for, world_of_effect, state_of_effect, at_slice_end, at_back, on_core, thread_after}
use Rattle.plain_laws.specs.Ticks.{RefusedBy, IsRefused, OnlyAnswers, answered, goes_for, thread_of, queue_left}
use Rattle.std.proofs.Math.Bool.{or-false}
use Rattle.plain_laws.proofs.Changes.{tick_is, other_object, effect_queue}
use Rattle.plain_laws.proofs.PlacedObjects.{there_now}

pub refused_answers : (w : World) (id : ℕ) (thread : ThreadRecord) (refusal : Refusal) → RefusedBy w id thread refusal → ecall w id thread ≡ answers thread (refusal_number refusal)
refused_answers w id thread refusal (inl h) = ap (called w id thread) h.0 ∙ ap (λ (r : Refusal). answers thread (refusal_number r)) (sym h.1)
refused_answers w id thread refusal (inr h) = ap (called w id thread) h.1 ∙ ap (unless_refused w id thread h.0) h.2

-- the effect of an answer, with its fetch
abbrev pub answer_of : World → Chosen → ℕ → Effect
answer_of w c answer = with_fetch (fetched w.now (thread_of w c)) (answers (thread_of w c) answer)

pub refused_effect : (w : World) (c : Chosen) (refusal : Refusal) → IsRefused w c refusal → effect_for w c ≡ answer_of w c (refusal_number refusal)
unfolding instruction
refused_effect w c refusal h =
    let thread = thread_of w c in
    let id = c.occupant.thread in
    let places = fetched w.now thread in
    cond-true (is_covered (seen_by w.now thread) EXECUTE thread.pc INSTRUCTION_BYTES) (with_fetch places (obeyed w id thread (decoded (value_at w.now places)))) (stops thread NO_ACCESS) h.covered
    ∙ ap (λ (instr : Option Instr). with_fetch places (obeyed w id thread instr)) h.ecall
    ∙ ap (with_fetch places) (refused_answers w id thread refusal h.refused)

-- What the world is after an answer.

pub answer_thread : (w : World) (core : ℕ) (c : Chosen) (answer : ℕ)
    → (world_of_effect w core c (answer_of w c answer)).now.objects c.occupant.thread ≡ Some (Thread (answered core (thread_of w c) (at_slice_end (c.occupant.slice - 1) On) answer))
unfolding state_of_effect
answer_thread w core c answer =
    there_now w.now.objects c.occupant.thread (Thread (thread_after core (thread_of w c) (at_slice_end (c.occupant.slice - 1) On) (answer_of w c answer)))

pub answer_others : (w : World) (core : ℕ) (c : Chosen) (answer i : ℕ) → i ≢ c.occupant.thread → (world_of_effect w core c (answer_of w c answer)).now.objects i ≡ w.now.objects i
unfolding state_of_effect
answer_others w core c answer i ne =
    other_object w.now.objects c.occupant.thread (Thread (thread_after core (thread_of w c) (at_slice_end (c.occupant.slice - 1) On) (answer_of w c answer))) i ne

pub answer_changed : (w : World) (core : ℕ) (c : Chosen) (answer i : ℕ) → i ≢ c.occupant.thread → i ≢ SCHEDULER → (world_of_effect w core c (answer_of w c answer)).changed i ≡ w.changed i
answer_changed w core c answer i ne other =
    let a = ne_eqb i c.occupant.thread ne in
    let b = ne_eqb i SCHEDULER other in
    rw (a, b) (or-false (w.changed i))

pub answers_only : (w : World) (core : ℕ) (c : Chosen) (answer : ℕ) → chosen w.now core ≡ Some c → effect_for w c ≡ answer_of w c answer → OnlyAnswers w core c answer
unfolding state_of_effect
answers_only w core c answer e is =
    let after = tick_is w core c e ∙ ap (world_of_effect w core c) is in
    let goes : goes_for w c ≡ at_slice_end (c.occupant.slice - 1) On = ap (λ (done : Effect). at_slice_end (c.occupant.slice - 1) done.goes) is in
    record {
      goes = goes;
      thread = ap (λ (v : World). v.now.objects c.occupant.thread) after ∙ answer_thread w core c answer
          ∙ ap (λ (g : Goes). Some (Thread (answered core (thread_of w c) g answer))) (sym goes);
      others = λ i ne. ap (λ (v : World). v.now.objects i) after ∙ answer_others w core c answer i ne;
      queue = ap (λ (v : World). v.now.queue) after ∙ effect_queue w core c (answer_of w c answer) e
          ∙ ap (λ (queue : List ℕ). queue ++ at_back c.occupant.thread (at_slice_end (c.occupant.slice - 1) On)) (append-nil (queue_left w.now core))
          ∙ ap (λ (g : Goes). queue_left w.now core ++ at_back c.occupant.thread g) (sym goes);
      cores = ap (λ (v : World). v.now.cores) after ∙ ap (λ (g : Goes). slice_set w.now.cores core (on_core c.occupant.thread (c.occupant.slice - 1) g)) (sym goes);
      out = λ channel. ap (λ (v : World). v.now.out channel) after;
      inputs = ap (λ (v : World). v.now.inputs) after;
      saved = ap (λ (v : World). v.saved) after;
      released = ap (λ (v : World). v.released) after;
      base = ap (λ (v : World). v.base) after;
      version = ap (λ (v : World). v.version) after;
      stored = λ page. ap (λ (v : World). v.stored page) after ∙ or-false (w.stored page);
      changed = λ i ne other. ap (λ (v : World). v.changed i) after ∙ answer_changed w core c answer i ne other;
    }

pub refused_tick : (w : World) (core : ℕ) (c : Chosen) (refusal : Refusal) → chosen w.now core ≡ Some c → IsRefused w c refusal → OnlyAnswers w core c (refusal_number refusal)
refused_tick w core c refusal e h = answers_only w core c (refusal_number refusal) e (refused_effect w c refusal h)
