-- What an instruction reaches in memory, place by place.
use Rattle.std.specs.Prelude.{◌≡◌, ℕ, ◌==◌, ◌||◌, Bool, true, false, List, [], ◌∷◌, ◌++◌, map, if◌then◌else◌, Option, Some, None, unwrap_or}
use Rattle.std.specs.List.{list_any}
use Rattle.std.proofs.Common.{refl, ap, sym, ◌∙◌}
use Rattle.plain_state.specs.declared.effect.Place.{Place}
use Rattle.plain_state.specs.declared.effect.ByteStore.{ByteStore}
use Rattle.sls_base.specs.declared.rights.TheConstants.{READ, WRITE, EXECUTE}
use Rattle.sls_base.specs.declared.causes.TheConstants.{NO_ACCESS}
use Rattle.rv_table.specs.Decoded.{decoded}
use Rattle.sls_base.specs.declared.thread.Thread.{Thread as ThreadRecord}
use Rattle.plain_state.specs.declared.reach.Reach.{Reach}
use Rattle.plain_state.specs.States.{State}
use Rattle.plain_state.specs.Memory.{places_of, page_at, is_covered}
use Rattle.plain_state.specs.Worlds.{World}
use Rattle.sls_base.specs.declared.limits.TheConstants.{INSTRUCTION_BYTES}
use Rattle.plain_state.specs.Effects.{Effect, stops}
use Rattle.plain_state.specs.Instructions.{seen_by, instruction, fetched, value_at, with_fetch, obeyed}
use Rattle.plain_state.specs.Ticks.{loads_from, stores_to, puts_to_page}
use Rattle.plain_state.specs.SlowReach.{IsReach, is_any_on, word_at_pc}

or_both : (a b c d : Bool) → b ≡ (c || d) → (a || b) ≡ ((a || c) || d)
or_both true b c d e = refl
or_both false b c d e = e

pub any_stored : (test : Place → Bool) (stores : List ByteStore) → list_any (λ (store : ByteStore). test store.place) stores ≡ list_any test (map (λ (store : ByteStore). store.place) stores)
any_stored test [] = refl
any_stored test (store ∷ stores) = ap (λ b. test store.place || b) (any_stored test stores)

pub any_both : (test : Place → Bool) (xs ys : List Place) → list_any test (xs ++ ys) ≡ (list_any test xs || list_any test ys)
any_both test [] ys = refl
any_both test (x ∷ xs) ys = or_both (test x) _ _ _ (any_both test xs ys)

pub is_stored : (s : State) (thread : ThreadRecord) (r : Reach) (e : Effect) (page : ℕ) → IsReach s thread r e →
    (is_any_on s page (places_of (seen_by s thread) WRITE r.stores.at r.stores.count) || puts_to_page e.output page) ≡ stores_to s e page
is_stored s thread r e page is =
    let test : Place → Bool = λ place. (page_at s.objects place).number == page in
    ap (λ b. b || puts_to_page e.output page) (ap (list_any test) (sym is.stores) ∙ sym (any_stored test e.stores))

-- a test that is one or another

pub either_first : (a b r : Bool) → r ≡ a → r ≡ true → r ≡ (a || b)
either_first a b r e t = (let u : a ≡ true = sym e ∙ t in rw (t, u) refl)

pub either_second : (a b r q : Bool) → r ≡ a → r ≡ false → q ≡ b → q ≡ (a || b)
either_second a b r q e f g = (let u : a ≡ false = sym e ∙ f in rw u g)

-- The instruction, where it can be fetched and where not.

fetched_one : (b : Bool) (value word : ℕ) (some : ℕ → Effect) (none : Effect) → (if b then Some value else None) ≡ Some word → (if b then some value else none) ≡ some word
fetched_one true value word some none e = ap some (ap (λ (o : Option ℕ). unwrap_or o 0) e)
fetched_one false value word some none e = absurd (cc)

fetched_none : (b : Bool) (value : ℕ) (some : ℕ → Effect) (none : Effect) → (if b then Some value else None) ≡ None → (if b then some value else none) ≡ none
fetched_none true value some none e = absurd (cc)
fetched_none false value some none e = refl

pub instruction_at : (w : World) (id : ℕ) (thread : ThreadRecord) (word : ℕ) → Some word ≡ word_at_pc w.now thread →
    instruction w id thread ≡ with_fetch (fetched w.now thread) (obeyed w id thread (decoded word))
unfolding instruction
instruction_at w id thread word e =
    fetched_one (is_covered (seen_by w.now thread) EXECUTE thread.pc INSTRUCTION_BYTES) (value_at w.now (fetched w.now thread)) word (λ n. with_fetch (fetched w.now thread) (obeyed w id thread (decoded n))) (stops thread NO_ACCESS) (sym e)

pub no_instruction_at : (w : World) (id : ℕ) (thread : ThreadRecord) → None ≡ word_at_pc w.now thread → instruction w id thread ≡ stops thread NO_ACCESS
unfolding instruction
no_instruction_at w id thread e =
    fetched_none (is_covered (seen_by w.now thread) EXECUTE thread.pc INSTRUCTION_BYTES) (value_at w.now (fetched w.now thread)) (λ n. with_fetch (fetched w.now thread) (obeyed w id thread (decoded n))) (stops thread NO_ACCESS) (sym e)

-- where it stores and loads

pub stores_there : (w : World) (id : ℕ) (thread : ThreadRecord) (word page : ℕ) → Some word ≡ word_at_pc w.now thread →
    stores_to w.now (obeyed w id thread (decoded word)) page ≡ stores_to w.now (instruction w id thread) page
stores_there w id thread word page e = rw (instruction_at w id thread word e) refl

pub stores_nowhere : (w : World) (id : ℕ) (thread : ThreadRecord) (page : ℕ) → None ≡ word_at_pc w.now thread → false ≡ stores_to w.now (instruction w id thread) page
stores_nowhere w id thread page e = rw (no_instruction_at w id thread e) refl

pub loads_there : (w : World) (id : ℕ) (thread : ThreadRecord) (word page : ℕ) (r : Reach) → Some word ≡ word_at_pc w.now thread → IsReach w.now thread r (obeyed w id thread (decoded word)) →
    (is_any_on w.now page (fetched w.now thread) || is_any_on w.now page (places_of (seen_by w.now thread) READ r.loads.at r.loads.count))
    ≡ loads_from w.now (instruction w id thread) page
loads_there w id thread word page r e is =
    let test : Place → Bool = λ place. (page_at w.now.objects place).number == page in
    rw (instruction_at w id thread word e)
    (ap (λ l. list_any test (fetched w.now thread) || list_any test l) (sym is.loads)
    ∙ sym (any_both test (fetched w.now thread) (obeyed w id thread (decoded word)).loads))

pub loads_nowhere : (w : World) (id : ℕ) (thread : ThreadRecord) (page : ℕ) → None ≡ word_at_pc w.now thread → false ≡ loads_from w.now (instruction w id thread) page
loads_nowhere w id thread page e = rw (no_instruction_at w id thread e) refl
