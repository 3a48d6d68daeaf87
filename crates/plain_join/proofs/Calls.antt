-- What a call does, in both machines.
use Rattle.std.specs.Prelude.{◌≡◌, ℕ, zero, suc, ◌+◌, ◌-◌, ◌≤◌, ◌==◌, ◌||◌, not, nat_lt, min, Bool, true, false, if◌then◌else◌, List, [], length, map, replicate, find, Option, Some, None, is_none, option_map, slice_get, slice_index_or}
use Rattle.std.proofs.Common.{refl, ap, sym, ◌∙◌, subst, arith, inl, inr}
use Rattle.std.proofs.lemmas.Bool.{lt-ltb, ne_eqb, not-false}
use Rattle.std.proofs.lemmas.Bool.Decides.{nat_tests}
use Rattle.std.proofs.lemmas.Option.{slice_get_past}
use mathlib.Core.Path.{fun_ext}
use Rattle.sls_base.specs.declared.limits.TheConstants.{ENTRY_BYTES}
use Rattle.sls_base.specs.declared.causes.TheConstants.{HALTED}
use Rattle.sls_base.specs.declared.rights.TheConstants.{READ, WRITE}
use Rattle.sls_kernel.specs.declared.calls.Refusal.{Refusal as ProgramRefusal}
use Rattle.sls_kernel.specs.declared.calls.Refusal.TheVariants.{BadCall as NoCall, NoCap as NoCapability, WrongKind as OtherKind, BadAddress as NoAddress, BadSize as NoSize, Full as NoRoom}
use Rattle.sls_kernel.specs.Plain.{State as ProgramState, World as ProgramWorld, Outcome, GoesOn, Stops, covers as is_in_page, bytes_at, register, answered, refusal_number as program_number, is_empty_slot, is_output_slot, is_full, put_refusal, put_done, call as program_call, accepted_count}
use Rattle.plain_state.specs.declared.objects.Capability.{Capability}
use Rattle.plain_state.specs.declared.objects.Kind.TheVariants.{OutputKind}
use Rattle.plain_state.specs.declared.effect.Goes.TheVariants.{On, Stop}
use Rattle.plain_state.specs.declared.effect.Output.{Output}
use Rattle.plain_state.specs.declared.calls.Call.TheVariants.{Put}
use Rattle.plain_state.specs.declared.calls.Refusal.{Refusal}
use Rattle.plain_state.specs.declared.calls.Refusal.TheVariants.{BadCall, NoCap, WrongKind, NoRight, BadAddress, BadSize, Overlap, NoSlot, NoObjects, NoPages, NoRegions, Full, Empty, Taken}
use Rattle.plain_model.specs.Objects.{Object, OutputRing, is_kind, includes}
use Rattle.plain_model.specs.Memory.{byte_at, places_of}
use Rattle.plain_model.specs.Effects.{Effect, answers, stops}
use Rattle.plain_model.specs.Refusals.{refusal_number, refusal_order}
use Rattle.plain_model.specs.Calls.{calls, cap_in, object_of_cap, rights_of_cap}
use Rattle.plain_model.specs.CallRefusals.{is_refused_by, is_full_ring, is_entry_length, refusal_of}
use Rattle.plain_model.specs.CallEffects.{channel_of, effect_of_call, unless_refused, called, ecall}
use Rattle.plain_model.specs.Ticks.{with_output}
use Rattle.plain_join.specs.Joined.{IsKnownCall, thread_object}
use Rattle.plain_join.proofs.Canon.{code_slots, code_state}
use Rattle.plain_join.proofs.Buffers.{code_regions, covered, bytes_read}
use Rattle.plain_join.proofs.Effects.{thread_of, Makes, Gives, sets_registers}
use Rattle.plain_join.proofs.Worlds.{code_world}

-- Answers.

-- a thread that stops, and one that gets its answer

pub stopped_gives : (s : ProgramState) (cause : ℕ) → Makes s s (Stop cause) (stops (thread_of s.thread) cause)
stopped_gives s cause = sets_registers s s.thread (Stop cause) []

pub answered_gives : (s : ProgramState) (answer : ℕ) → Makes s (answered s answer) On (answers (thread_of s.thread) answer)
answered_gives s answer = sets_registers s (answered s answer).thread On []

-- The same refusals have the same numbers.

abbrev pub same_refusal : ProgramRefusal → Refusal
same_refusal NoCall = BadCall
same_refusal NoCapability = NoCap
same_refusal OtherKind = WrongKind
same_refusal NoAddress = BadAddress
same_refusal NoSize = BadSize
same_refusal NoRoom = Full

same_number : (refusal : ProgramRefusal) → refusal_number (same_refusal refusal) ≡ program_number refusal
same_number NoCall = refl
same_number NoCapability = refl
same_number OtherKind = refl
same_number NoAddress = refl
same_number NoSize = refl
same_number NoRoom = refl

-- The first refusal of put.

-- by its tests, in order
abbrev first_refusal : Bool → Bool → Bool → Bool → Bool → Option ProgramRefusal
first_refusal cap kind address size full =
    if cap then Some NoCapability
    else (if kind then Some OtherKind
    else (if address then Some NoAddress
    else (if size then Some NoSize
    else (if full then Some NoRoom
    else None))))

-- refusals that don't come of put
record NeverPut (refused : Refusal → Bool) : Type 0 where
  overlap : refused Overlap ≡ false
  slot : refused NoSlot ≡ false
  objects : refused NoObjects ≡ false
  pages : refused NoPages ≡ false
  regions : refused NoRegions ≡ false
  empty : refused Empty ≡ false
  taken : refused Taken ≡ false

found_first : (refused : Refusal → Bool) (kind address size full : Bool) → refused NoCap ≡ false → refused NoRight ≡ false → NeverPut refused
    → refused WrongKind ≡ kind → refused BadAddress ≡ address → refused BadSize ≡ size → (kind ≡ false → refused Full ≡ full)
    → find refused refusal_order ≡ option_map same_refusal (first_refusal false kind address size full)
found_first refused true address size full cap right never k a s f = rw (cap, k) refl
found_first refused false true size full cap right never k a s f = rw (cap, k, right, a) refl
found_first refused false false true full cap right never k a s f = rw (cap, k, right, a, s) refl
found_first refused false false false true cap right never k a s f =
    let room = f refl in
    rw (cap, k, right, a, s, never.overlap, never.slot, never.objects, never.pages, never.regions, room) refl
found_first refused false false false false cap right never k a s f =
    let room = f refl in
    rw (cap, k, right, a, s, never.overlap, never.slot, never.objects, never.pages, never.regions, room, never.empty, never.taken) refl

found_cap : (refused : Refusal → Bool) → refused NoCap ≡ true → find refused refusal_order ≡ Some NoCap
found_cap refused cap = rw cap refl

-- Slots.

none_at : (n k : ℕ) → slice_index_or (replicate n (let none : Option Capability = None in none)) k None ≡ None
none_at zero k = refl
none_at (suc n) zero = refl
none_at (suc n) (suc k) = none_at n k

empty_slot : (slot : ℕ) → is_none (cap_in code_slots slot) ≡ is_empty_slot slot
empty_slot zero = refl
empty_slot (suc zero) = refl
empty_slot (suc (suc zero)) = refl
empty_slot (suc (suc (suc zero))) = refl
empty_slot (suc (suc (suc (suc zero)))) = refl
empty_slot (suc (suc (suc (suc (suc zero))))) = refl
empty_slot (suc (suc (suc (suc (suc (suc zero)))))) = refl
empty_slot (suc (suc (suc (suc (suc (suc (suc zero))))))) = refl
empty_slot (suc (suc (suc (suc (suc (suc (suc (suc zero)))))))) = refl
empty_slot (suc (suc (suc (suc (suc (suc (suc (suc (suc zero))))))))) = refl
empty_slot (suc (suc (suc (suc (suc (suc (suc (suc (suc (suc k)))))))))) =
    ap is_none (none_at 22 k) ∙ sym (lt-ltb 9 (suc (suc (suc (suc (suc (suc (suc (suc (suc (suc k)))))))))) (omega arith))

abbrev object_in : ProgramState → ℕ → Option Object
object_in s slot = (code_state s).objects (object_of_cap (cap_in code_slots slot))

-- a slot that isn't empty: an output ring stands in the slots of the channels alone, and each capability has all rights
record IsSlot (s : ProgramState) (slot : ℕ) : Type 0 where
  kind : is_kind OutputKind (object_in s slot) ≡ is_output_slot slot
  rights : includes (rights_of_cap (cap_in code_slots slot)) WRITE ≡ true
  ring : is_output_slot slot ≡ true → object_in s slot ≡ Some (OutputRing (slot - 2))

slot_is : (s : ProgramState) (slot : ℕ) → is_empty_slot slot ≡ false → IsSlot s slot
slot_is s zero e = record { kind = refl; rights = refl; ring = λ e. absurd (cc) }
slot_is s (suc zero) e = record { kind = refl; rights = refl; ring = λ e. absurd (cc) }
slot_is s (suc (suc zero)) e = record { kind = refl; rights = refl; ring = λ e. refl }
slot_is s (suc (suc (suc zero))) e = record { kind = refl; rights = refl; ring = λ e. refl }
slot_is s (suc (suc (suc (suc zero)))) e = record { kind = refl; rights = refl; ring = λ e. refl }
slot_is s (suc (suc (suc (suc (suc zero))))) e = record { kind = refl; rights = refl; ring = λ e. refl }
slot_is s (suc (suc (suc (suc (suc (suc zero)))))) e = record { kind = refl; rights = refl; ring = λ e. absurd (cc) }
slot_is s (suc (suc (suc (suc (suc (suc (suc zero))))))) e = record { kind = refl; rights = refl; ring = λ e. absurd (cc) }
slot_is s (suc (suc (suc (suc (suc (suc (suc (suc zero)))))))) e = record { kind = refl; rights = refl; ring = λ e. absurd (cc) }
slot_is s (suc (suc (suc (suc (suc (suc (suc (suc (suc zero))))))))) e = record { kind = refl; rights = refl; ring = λ e. absurd (cc) }
slot_is s (suc (suc (suc (suc (suc (suc (suc (suc (suc (suc k)))))))))) e =
    let full = lt-ltb 9 (suc (suc (suc (suc (suc (suc (suc (suc (suc (suc k)))))))))) (omega arith) in absurd (cc)

-- Tests.

or_none : (b : Bool) → ((b || false) || false) ≡ b
or_none true = refl
or_none false = refl

size_test : (n : ℕ) → not (is_entry_length n) ≡ (n == 0 || nat_lt ENTRY_BYTES n)
size_test n = grind (arith, nat_tests)

-- where no test holds
record AllMet (cap kind address size : Bool) : Type 0 where
  there : cap ≡ false
  output : kind ≡ false
  readable : address ≡ false
  sized : size ≡ false

none_met : (cap kind address size full : Bool) → first_refusal cap kind address size full ≡ None → AllMet cap kind address size
none_met true kind address size full e = absurd (cc)
none_met false true address size full e = absurd (cc)
none_met false false true size full e = absurd (cc)
none_met false false false true full e = absurd (cc)
none_met false false false false full e = record { there = refl; output = refl; readable = refl; sized = refl }

short_enough : (n : ℕ) → (n == 0 || nat_lt ENTRY_BYTES n) ≡ false → min n ENTRY_BYTES ≡ n
short_enough n e = (let most : n ≤ ENTRY_BYTES = grind (arith, nat_tests) in omega arith)

module _ (v : ProgramWorld) (stored changed : ℕ → Bool) where
  abbrev slot_of : ℕ
  slot_of = register v.now 10

  -- the tests of put, in order

  abbrev no_output : Bool
  no_output = not (is_output_slot slot_of)

  abbrev is_unreadable : Bool
  is_unreadable = not (is_in_page (register v.now 11) (min (register v.now 12) ENTRY_BYTES))

  abbrev is_no_length : Bool
  is_no_length = register v.now 12 == 0 || nat_lt ENTRY_BYTES (register v.now 12)

  abbrev has_no_room : Bool
  has_no_room = is_full (length (v.now.out (slot_of - 2))) (accepted_count v (slot_of - 2))

  abbrev refused : Refusal → Bool
  refused = is_refused_by (code_world v stored changed) 10 (thread_of v.now.thread) Put

  never_put : NeverPut refused
  never_put = record { overlap = refl; slot = refl; objects = refl; pages = refl; regions = refl; empty = refl; taken = refl }

  cap_test : refused NoCap ≡ is_empty_slot slot_of
  cap_test = or_none (is_none (cap_in code_slots slot_of)) ∙ empty_slot slot_of

  kind_test : is_empty_slot slot_of ≡ false → refused WrongKind ≡ no_output
  kind_test there = or_none (not (is_kind OutputKind (object_in v.now slot_of))) ∙ ap not (slot_is v.now slot_of there).kind

  right_test : is_empty_slot slot_of ≡ false → refused NoRight ≡ false
  right_test there = or_none (not (includes (rights_of_cap (cap_in code_slots slot_of)) WRITE)) ∙ ap not (slot_is v.now slot_of there).rights

  address_test : refused BadAddress ≡ is_unreadable
  address_test = ap not (covered READ (register v.now 11) (min (register v.now 12) ENTRY_BYTES) refl)

  full_test : is_empty_slot slot_of ≡ false → no_output ≡ false → refused Full ≡ has_no_room
  full_test there output =
      let ring = (slot_is v.now slot_of there).ring (not-false (is_output_slot slot_of) output) in
      let accepted : 0 + length (v.released (slot_of - 2)) ≡ length (v.released (slot_of - 2)) = omega arith in
      let put : 0 + length (v.now.out (slot_of - 2)) ≡ length (v.now.out (slot_of - 2)) = omega arith in
      ap (is_full_ring (code_world v stored changed)) ring
      ∙ ap (λ (n : ℕ). is_full n (0 + length (v.released (slot_of - 2)))) put
      ∙ ap (λ (n : ℕ). is_full (length (v.now.out (slot_of - 2))) n) accepted

  abbrev put_by : Bool → Option ProgramRefusal
  put_by cap = first_refusal cap no_output is_unreadable is_no_length has_no_room

  -- put is refused alike
  refused_by : (cap : Bool) → is_empty_slot slot_of ≡ cap → find refused refusal_order ≡ option_map same_refusal (put_by cap)
  refused_by true e = (let first : refused NoCap ≡ true = cap_test ∙ e in found_cap refused first)
  refused_by false e =
      found_first refused no_output is_unreadable is_no_length has_no_room
      (cap_test ∙ e) (right_test e) never_put (kind_test e) address_test (size_test (register v.now 12)) (full_test e)

  same_refused : refusal_of (code_world v stored changed) 10 (thread_of v.now.thread) Put ≡ option_map same_refusal (put_refusal (accepted_count v) v.now)
  unfolding refusal_of
  same_refused = refused_by (is_empty_slot slot_of) refl

  -- What put does.

  refused_gives : (refusal : ProgramRefusal)
      → Makes v.now (answered v.now (program_number refusal)) On (answers (thread_of v.now.thread) (refusal_number (same_refusal refusal)))
  refused_gives refusal =
      subst (λ (n : ℕ). Makes v.now (answered v.now (program_number refusal)) On (answers (thread_of v.now.thread) n))
      (sym (same_number refusal)) (answered_gives v.now (program_number refusal))

  abbrev entry_put : ℕ → List ℕ → Option Output
  entry_put channel bytes = Some (record { channel = channel; bytes = record { items = bytes } })

  abbrev bytes_put : List ℕ
  bytes_put = map (byte_at (code_state v.now).objects) (places_of code_regions READ (register v.now 11) (register v.now 12))

  accepted_gives : is_output_slot slot_of ≡ true → is_empty_slot slot_of ≡ false
      → is_in_page (register v.now 11) (register v.now 12) ≡ true
      → Makes v.now (put_done v.now None) On (effect_of_call (code_world v stored changed) 10 (thread_of v.now.thread) Put)
  unfolding effect_of_call
  accepted_gives output there fits =
      let channel : channel_of (object_in v.now slot_of) ≡ slot_of - 2 = ap channel_of ((slot_is v.now slot_of there).ring output) in
      let bytes : bytes_put ≡ bytes_at v.now.byte (register v.now 11) (register v.now 12) =
      bytes_read v.now.byte (thread_object v.now.thread) READ (register v.now 11) (register v.now 12) refl fits in
      record {
        goes_so = refl;
        regs = refl;
        objects = refl;
        wakes = refl;
        out = ap (λ (c : ℕ). with_output v.now.out (entry_put c bytes_put)) channel
            ∙ ap (λ (b : List ℕ). with_output v.now.out (entry_put (slot_of - 2) b)) bytes
            ∙ fun_ext (λ c. refl);
        takes = refl;
        wishes = refl;
      }

  abbrev put_effect_by : Option Refusal → Effect
  put_effect_by refusal = unless_refused (code_world v stored changed) 10 (thread_of v.now.thread) Put refusal

  done_gives : (refusal : Option ProgramRefusal) → put_refusal (accepted_count v) v.now ≡ refusal
      → Makes v.now (put_done v.now refusal) On (put_effect_by (option_map same_refusal refusal))
  done_gives (Some refusal) e = refused_gives refusal
  done_gives None e =
      let met = none_met (is_empty_slot slot_of) (not (is_output_slot slot_of)) (not (is_in_page (register v.now 11) (min (register v.now 12) ENTRY_BYTES)))
      (register v.now 12 == 0 || nat_lt ENTRY_BYTES (register v.now 12)) (is_full (length (v.now.out (slot_of - 2))) (accepted_count v (slot_of - 2))) e in
      let length_is = short_enough (register v.now 12) met.sized in
      let fits = not-false (is_in_page (register v.now 11) (min (register v.now 12) ENTRY_BYTES)) met.readable in
      accepted_gives (not-false (is_output_slot slot_of) met.output) met.there (subst (λ (n : ℕ). is_in_page (register v.now 11) n ≡ true) length_is fits)

  put_gives : Makes v.now (put_done v.now (put_refusal (accepted_count v) v.now)) On
      (put_effect_by (refusal_of (code_world v stored changed) 10 (thread_of v.now.thread) Put))
  put_gives =
      let refused = put_refusal (accepted_count v) v.now in
      subst (λ (refusal : Option Refusal). Makes v.now (put_done v.now refused) On (put_effect_by refusal)) (sym same_refused)
      (done_gives refused refl)

  -- What a call does.

  abbrev called_by : ℕ → Effect
  called_by n = called (code_world v stored changed) 10 (thread_of v.now.thread) (slice_get calls n)

  abbrev call_by : ℕ → Outcome
  call_by n =
      if n == 1 then Stops HALTED
      else (if n == 2 then GoesOn (put_done v.now (put_refusal (accepted_count v) v.now))
      else GoesOn (answered v.now (program_number NoCall)))

  halt_gives : Gives v.now (call_by 1) (called_by 1)
  unfolding refusal_of effect_of_call
  halt_gives = stopped_gives v.now HALTED

  other_gives : (n : ℕ) → length calls ≤ n → Gives v.now (call_by n) (called_by n)
  other_gives n past =
      let none = slice_get_past calls n past in
      let halt : (n == 1) ≡ false = ne_eqb n 1 (λ e. absurd (omega arith)) in
      let put : (n == 2) ≡ false = ne_eqb n 2 (λ e. absurd (omega arith)) in
      rw (none, halt, put) (refused_gives NoCall)

  known_gives : (n : ℕ) → IsKnownCall n → Gives v.now (call_by n) (called_by n)
  known_gives n (inl one) = subst (λ (m : ℕ). Gives v.now (call_by m) (called_by m)) (sym one) halt_gives
  known_gives n (inr (inl two)) = subst (λ (m : ℕ). Gives v.now (call_by m) (called_by m)) (sym two) put_gives
  known_gives n (inr (inr past)) = other_gives n past

  pub call_gives : IsKnownCall (register v.now 17)
      → Gives v.now (program_call (accepted_count v) v.now) (ecall (code_world v stored changed) 10 (thread_of v.now.thread))
  call_gives known = known_gives (register v.now 17) known
