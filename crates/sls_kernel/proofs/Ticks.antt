-- A tick on the machine: only the running pages change.
use Rattle.std.proofs.Common.{arith, ◌≡◌, inl, inr, ℕ, ◌-◌, ◌<◌, ◌==◌, ◌∙◌, sym, refl, subst, List, [], ◌∷◌, ◌++◌, true, false, Bool, if◌then◌else◌, not, Option, Some, None}
use Rattle.std.proofs.lemmas.Bool.Decides.{nat_tests}
use Rattle.sls_base.specs.declared.limits.TheConstants.{CORE_SLICE}
use Rattle.pmem_model.specs.Words.{Word}
use Rattle.pmem_model.specs.Memory.{word_at}
use Rattle.pmem_model.specs.Events.{Clean, WordCalm, calm_same, calm_word}
use Rattle.sls_kernel.specs.Plain.{State, World, Outcome, GoesOn, Stops, tick, ticked, ticked_by, sliced, instruction, obeyed, carried_out, call, put_done, put_refusal, answered, refusal_number, set_register, next_pc, number_at, bytes_at, stored_at, covers, register, with_entry, accepted_count}
use Rattle.sls_kernel.specs.Words.{Holds, RunsAs, running_words, running_place, area_place, area_of, record_word, Tells, IsOffPages}
use Rattle.sls_kernel.specs.Counts.{SameCounts}
use Rattle.sls_kernel.specs.Shows.{Shows, WordsShow, AreState, IsPrefixOf, AtStage, put_count}
use Rattle.rv_table.specs.declared.Instr.{Instr}
use Rattle.rv_table.specs.Decoded.{decoded}
use Rattle.rv_core.specs.Effect.{effect, size_of, extended}
use Rattle.rv_core.specs.declared.registers.Plan.{Plan}
use Rattle.rv_core.specs.declared.registers.Plan.TheVariants.{Set, Load, Store, Call, Stop}
use Rattle.sls_kernel.specs.declared.calls.Refusal.{Refusal}
use Rattle.sls_kernel.specs.declared.calls.Refusal.TheVariants.{BadCall}
use Rattle.sls_kernel.specs.declared.thread.Status.{Status}
use Rattle.sls_kernel.specs.declared.thread.Status.TheVariants.{Ready, Running, Stopped}
use Rattle.sls_kernel.specs.declared.stage.Stage.{Stage}
use Rattle.sls_kernel.specs.declared.machine.Machine.{Machine}
use Rattle.sls_kernel.specs.declared.stage.Stage.TheVariants.{Up}
use Rattle.sls_kernel.proofs.Facts.{words_at, stage_at, parts_calm, rest_calm, prefix_all, prefix_of_prefix}
use Rattle.sls_kernel.proofs.Durable.{holds_along}

-- the words of the state that runs: its pages, and the record that its thread would have
abbrev pub words_of : (ℕ → Word) → State → ℕ → ℕ → ℕ
words_of f s part i = (if part == 5 then record_word s.thread (put_count s) i else (f (running_place part i)).cached)

page_word : (f : ℕ → Word) (s : State) (page i : ℕ) → page < 5 → words_of f s page i ≡ (f (running_place page i)).cached
page_word f s page i lt = let test : (page == 5) ≡ false = grind (arith, nat_tests) in rw test refl

words_state : (f : ℕ → Word) (s : State) (accepted : ℕ → ℕ) → Holds (running_words f) accepted s → AreState (words_of f s) accepted s
words_state f s accepted holds = record {
  holds = holds_along (running_words f) (words_of f s) accepted s (λ page i p lt. page_word f s page i p) holds;
  thread_record = λ i lt. refl;
}

-- what runs is the running state
pub runs : (m : Machine) (w : World) (s : Shows m w) → m.stage ≡ Up → RunsAs m.thread m.put (word_at m.nvm) (accepted_count w) w.now
runs m w s up =
    let known = words_at m w s Up up in
    let at = stage_at m w s Up up in
    record {
      thread_is = at.thread_is;
      put_is = at.put_is;
      holds = holds_along s.now_words (running_words (word_at m.nvm)) (accepted_count w) w.now (λ page i p lt. known.running page i p lt) s.now_is.holds;
    }

off_calm : (f g : ℕ → Word) → ((i : ℕ) → IsOffPages i → g i ≡ f i) → (i : ℕ) → IsOffPages i → WordCalm (f i) (g i)
off_calm f g rest i off = calm_same (f i) (g i) (rest i off)

ticked_words : (f g : ℕ → Word) (v : ℕ) (now saved : ℕ → ℕ → ℕ) (s : State) → ((i : ℕ) → IsOffPages i → g i ≡ f i) → WordsShow Up f v now saved → WordsShow Up g v (words_of g s) saved
ticked_words f g v now saved s rest known =
    let calm = off_calm f g rest in
    let version = calm_word 0 Clean (f 1) (g 1) v (calm 1 (inl (omega arith))) known.version in
    record {
      format = calm_word 0 Clean (f 0) (g 0) _ (calm 0 (inl (omega arith))) known.format;
      version = version;
      version_durable = version.1;
      table = λ i low high. calm_word 0 Clean (f i) (g i) 0 (calm i (inl high)) (known.table i low high);
      saved_area = parts_calm (λ part. Clean) f g (area_place (area_of v)) saved (λ part i p lt. calm (area_place (area_of v) part i) (inr (omega arith))) known.saved_area;
      other_area = λ part i p lt. tt;
      running = λ page i p lt. sym (page_word g s page i p);
      record_rest = rest_calm f g (λ area i a low high. calm (area_place area 5 i) (inr (omega arith))) known.record_rest;
    }

-- What was put stays put.

prefix_entry : (out : ℕ → List (List ℕ)) (channel : ℕ) (entry : List ℕ) (c : ℕ) → IsPrefixOf (out c) (with_entry out channel entry c)
prefix_entry out channel entry c = by_test (c == channel) where
  by_test : (b : Bool) → IsPrefixOf (out c) (if b then out c ++ entry ∷ [] else out c)
  by_test true = (entry ∷ [], refl)
  by_test false = prefix_all (out c)

abbrev pub Extends : State → State → Type 0
Extends old new = (c : ℕ) → IsPrefixOf (old.out c) (new.out c)

abbrev pub OutcomeExtends : State → Outcome → Type 0
OutcomeExtends s (GoesOn next) = Extends s next
OutcomeExtends s (Stops cause) = Unit {0}

either : (s : State) (b : Bool) (x y : Outcome) → OutcomeExtends s x → OutcomeExtends s y → OutcomeExtends s (if b then x else y)
either s true x y p q = p
either s false x y p q = q

put_extends : (s : State) (refusal : Option Refusal) → Extends s (put_done s refusal)
put_extends s (Some refusal) = λ c. prefix_all (s.out c)
put_extends s None = λ c. prefix_entry s.out (register s 10 - 2) (bytes_at s.byte (register s 11) (register s 12)) c

call_extends : (accepted : ℕ → ℕ) (s : State) → OutcomeExtends s (call accepted s)
call_extends accepted s =
    either s (register s 17 == 1) (Stops 0) (if register s 17 == 2 then GoesOn (put_done s (put_refusal accepted s)) else GoesOn (answered s (refusal_number BadCall))) tt
    (either s (register s 17 == 2) (GoesOn (put_done s (put_refusal accepted s))) (GoesOn (answered s (refusal_number BadCall))) (put_extends s (put_refusal accepted s)) (λ c. prefix_all (s.out c)))

carried_extends : (accepted : ℕ → ℕ) (s : State) (plan : Plan) → OutcomeExtends s (carried_out accepted s plan)
carried_extends accepted s (Set rd value pc) = λ c. prefix_all (s.out c)
carried_extends accepted s (Load op rd at) =
    either s (covers at (size_of op)) (GoesOn (set_register s rd (extended op (number_at s.byte at (size_of op))) (next_pc s))) (Stops 4) (λ c. prefix_all (s.out c)) tt
carried_extends accepted s (Store op at value) =
    either s (covers at (size_of op)) (GoesOn (record { thread = (set_register s 0 0 (next_pc s)).thread; byte = stored_at s.byte at (size_of op) value; out = s.out })) (Stops 4) (λ c. prefix_all (s.out c)) tt
carried_extends accepted s Call = call_extends accepted s
carried_extends accepted s (Stop cause) = tt

obeyed_extends : (accepted : ℕ → ℕ) (s : State) (instr : Option Instr) → OutcomeExtends s (obeyed accepted s instr)
obeyed_extends accepted s None = tt
obeyed_extends accepted s (Some instr) = carried_extends accepted s (effect instr s.thread.regs)

instruction_extends : (accepted : ℕ → ℕ) (s : State) → OutcomeExtends s (instruction accepted s)
instruction_extends accepted s =
    let instr = decoded (number_at s.byte s.thread.regs.pc 4) in
    either s (covers s.thread.regs.pc 4) (obeyed accepted s instr) (Stops 4) (obeyed_extends accepted s instr) tt

sliced_extends : (s : State) (slice : ℕ) (outcome : Outcome) → OutcomeExtends s outcome → Extends s (sliced s slice outcome)
sliced_extends s slice (GoesOn next) h = h
sliced_extends s slice (Stops cause) h = λ c. prefix_all (s.out c)

ticked_by_extends : (accepted : ℕ → ℕ) (s : State) (status : Status) → Extends s (ticked_by accepted s status)
ticked_by_extends accepted s Ready = sliced_extends s CORE_SLICE (instruction accepted s) (instruction_extends accepted s)
ticked_by_extends accepted s (Running slice) = sliced_extends s slice (instruction accepted s) (instruction_extends accepted s)
ticked_by_extends accepted s (Stopped cause) = λ c. prefix_all (s.out c)

-- a tick on the machine is the plain machine's
pub shows_ticked : (m n : Machine) (w : World) (s : Shows m w) → m.stage ≡ Up → n.stage ≡ Up → n.accepted ≡ m.accepted → SameCounts m.nvm n.nvm → ((i : ℕ) → IsOffPages i → word_at n.nvm i ≡ word_at m.nvm i)
    → RunsAs n.thread n.put (word_at n.nvm) (accepted_count w) (ticked (accepted_count w) w.now) → Shows n (tick w)
shows_ticked m n w s up still accepted counts rest run =
    let now = ticked (accepted_count w) w.now in
    let known = words_at m w s Up up in
    let words = ticked_words (word_at m.nvm) (word_at n.nvm) w.version s.now_words s.saved_words now rest known in
    record {
      now_words = words_of (word_at n.nvm) now;
      saved_words = s.saved_words;
      now_is = words_state (word_at n.nvm) now (accepted_count w) run.holds;
      saved_is = s.saved_is;
      words = subst (λ (t : Stage). WordsShow t (word_at n.nvm) w.version (words_of (word_at n.nvm) now) s.saved_words) (sym still) words;
      counted = record {
        count = subst (λ (a : List ℕ). Tells a (accepted_count w)) (sym accepted) s.counted.count;
        released = s.counted.released;
        saved = λ c. prefix_of_prefix (w.saved.out c) (w.now.out c) (now.out c) (s.counted.saved c) (ticked_by_extends (accepted_count w) w.now w.now.thread.status c);
        version = s.counted.version;
      };
      counts = record { commits = counts.commits ∙ s.counts.commits; cuts = counts.cuts ∙ s.counts.cuts };
      stage = subst (λ (t : Stage). AtStage t n (tick w) (words_of (word_at n.nvm) now) s.saved_words) (sym still) (record { thread_is = run.thread_is; put_is = run.put_is });
    }

pub not_true : (b : Bool) → true ≡ not b → b ≡ false
not_true true e = cc
not_true false e = refl

pub not_false : (b : Bool) → false ≡ not b → b ≡ true
not_false true e = refl
not_false false e = cc
