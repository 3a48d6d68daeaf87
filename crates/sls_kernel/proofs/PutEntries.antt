-- Entries, and the rings that hold them.
use Rattle.std.proofs.Common.{◌≡◌, ℕ, zero, suc, ◌+◌, ◌-◌, ◌*◌, ◌/◌, ◌%◌, ◌^◌, ◌<◌, ◌≤◌, ◌==◌, ◌||◌, ◌⊎◌, inl, inr, nat_lt, true, false, if◌then◌else◌, List, [], ◌∷◌, ◌++◌, length, replicate, slice_index, slice_index_or, set, min, None, subst, arith, refl, ap, sym, ◌∙◌, ⊎_elim}
use Rattle.std.proofs.lemmas.Bool.{cases_eq, cases_lt, eq-eqb, ne_eqb, or_parts, eqb-false}
use Rattle.std.proofs.lemmas.Bool.Decides.{nat_tests}
use Rattle.std.proofs.lemmas.List.{get_or-replicate, get_or_past, get_or_append_left, get_or_push, length_push, length-replicate, get_or-set_other}
use Rattle.std.proofs.lemmas.Grind.{get_or-set_at}
use Rattle.pmem_model.specs.Words.{Word, is_within}
use Rattle.sls_kernel.specs.Plain.{State, bytes_at, with_entry, register, is_full, is_empty_slot, is_output_slot, covers, put_refusal}
use Rattle.sls_kernel.specs.Words.{RunsAs, IsPage, IsRing, IsEntry, byte_of, running_words, running_place}
use Rattle.sls_kernel.specs.Steps.{AreEntry, IsOutside}
use Rattle.sls_kernel.specs.declared.thread.RunThread.{RunThread}

pub zero_at : (n i : ℕ) → slice_index (replicate n 0) i ≡ 0
zero_at n i =
    ⊎_elim (λ (inside : i < n). get_or-replicate n i 0 0 inside)
    (λ (past : n ≤ i). get_or_past (replicate n 0) i 0 (let e = length-replicate {A = ℕ} n 0 in omega arith))
    (cases_lt i n)

pub bytes_at-length : (byte : ℕ → ℕ) (at count : ℕ) → length (bytes_at byte at count) ≡ count
bytes_at-length byte at zero = refl
bytes_at-length byte at (suc count) = ap suc (bytes_at-length byte (at + 1) count)

pub bytes_at-within : (byte : ℕ → ℕ) (at count k : ℕ) → k < count → slice_index (bytes_at byte at count) k ≡ byte (at + k)
bytes_at-within byte at zero k h = absurd (omega arith)
bytes_at-within byte at (suc count) zero h = ap byte (omega arith)
bytes_at-within byte at (suc count) (suc k) h = bytes_at-within byte (at + 1) count k (omega arith) ∙ ap byte (omega arith)

pub bytes_at-past : (byte : ℕ → ℕ) (at count k : ℕ) → count ≤ k → slice_index (bytes_at byte at count) k ≡ 0
bytes_at-past byte at count k h = get_or_past (bytes_at byte at count) k 0 (let e = bytes_at-length byte at count in omega arith)

-- an entry stands where its words are alike
pub IsEntry-same : (f g : ℕ → ℕ) (number : ℕ) (entry : List ℕ) → ((r : ℕ) → r < 8 → g (8 * (number % 64) + r) ≡ f (8 * (number % 64) + r)) → IsEntry f number entry → IsEntry g number entry
IsEntry-same f g number entry same is = record {
  some = is.some;
  most = is.most;
  size = (let e = same 0 (omega arith) in let z : 8 * (number % 64) + 0 ≡ 8 * (number % 64) = omega arith in (rw z at e) ∙ is.size);
  bytes = λ k h.
      let e = same (1 + k / 8) (omega arith) in
      let z : 8 * (number % 64) + (1 + k / 8) ≡ 8 * (number % 64) + 1 + k / 8 = omega arith in
      ap (λ (w : ℕ). byte_of w (k % 8)) (rw z at e) ∙ is.bytes k h;
}

pub IsRing-same : (f g : ℕ → ℕ) (accepted : ℕ) (out : List (List ℕ)) → ((i : ℕ) → i < 512 → g i ≡ f i) → IsRing f accepted out → IsRing g accepted out
IsRing-same f g accepted out same ring = record {
  entries = λ number low high. IsEntry-same f g number (slice_index_or out number []) (λ r h. same (8 * (number % 64) + r) (omega arith)) (ring.entries number low high);
  room = ring.room;
  number = ring.number;
}

pub IsPage-same : (f g byte : ℕ → ℕ) → ((i : ℕ) → i < 512 → g i ≡ f i) → IsPage f byte → IsPage g byte
IsPage-same f g byte same page a h = page a h ∙ ap (λ (w : ℕ). byte_of w (a % 8)) (sym (same (a / 8) (omega arith)))

-- the words of an entry in its place
pub IsEntry-put : (words : List ℕ) (g byte : ℕ → ℕ) (at count number : ℕ) → 1 ≤ count → count ≤ 56 → AreEntry words byte at count → ((r : ℕ) → r < 8 → g (8 * (number % 64) + r) ≡ slice_index words r) → IsEntry g number (bytes_at byte at count)
IsEntry-put words g byte at count number some most are stands =
    let size = bytes_at-length byte at count in
    record {
      some = omega arith;
      most = omega arith;
      size = (let e = stands 0 (omega arith) in let z : 8 * (number % 64) + 0 ≡ 8 * (number % 64) = omega arith in (rw z at e) ∙ are.size ∙ sym size);
      bytes = λ k h.
          let e = stands (1 + k / 8) (omega arith) in
          let z : 8 * (number % 64) + (1 + k / 8) ≡ 8 * (number % 64) + 1 + k / 8 = omega arith in
          ap (λ (w : ℕ). byte_of w (k % 8)) (rw z at e) ∙ are.bytes k h;
    }

-- a ring after one more entry
pub IsRing-put : (f g : ℕ → ℕ) (accepted : ℕ) (out : List (List ℕ)) (entry : List ℕ) → IsRing f accepted out → is_full (length out) accepted ≡ false → IsEntry g (length out) entry → ((i : ℕ) → (i < 8 * (length out % 64)) ⊎ (8 * (length out % 64) + 8 ≤ i) → g i ≡ f i) → IsRing g accepted (out ++ entry ∷ [])
IsRing-put f g accepted out entry ring room is other =
    let sized = length_push out entry in
    let parts = or_parts (length out == accepted + 64) (length out == 2 ^ 64 - 1) room in
    let not_full = eqb-false (length out) (accepted + 64) parts.0 in
    let not_last = eqb-false (length out) (2 ^ 64 - 1) parts.1 in
    let had = ring.room in
    let below = ring.number in
    record {
      entries = λ number low high.
          ⊎_elim
          (λ (here : length out ≡ number). let e = get_or_push out entry [] number here in rw (e, ← here) is)
          (λ (before : length out ≡ number → ⊥).
          let less : number < length out = omega arith in
          let e = get_or_append_left out (entry ∷ []) [] number less in
          let apart : number % 64 ≡ length out % 64 → ⊥ = λ same. omega arith in
          rw e (IsEntry-same f g number (slice_index_or out number [])
          (λ r h. other (8 * (number % 64) + r)
          (⊎_elim (λ (lower : number % 64 < length out % 64). inl (omega arith)) (λ (upper : length out % 64 ≤ number % 64). inr (omega arith)) (cases_lt (number % 64) (length out % 64))))
          (ring.entries number low less)))
          (cases_eq (length out) number);
      room = omega arith;
      number = omega arith;
    }

-- the state with an entry of so many bytes from an address on
abbrev pub with_bytes : State → ℕ → ℕ → ℕ → State
with_bytes s channel at size = record { thread = s.thread; byte = s.byte; out = with_entry s.out channel (bytes_at s.byte at size) }

pub pages_apart : (f g : ℕ → Word) (channel page : ℕ) → ((i : ℕ) → IsOutside (2 * channel) i → g i ≡ f i) → (page ≡ channel → ⊥) → (i : ℕ) → i < 512 → running_words g page i ≡ running_words f page i
pages_apart f g channel page outside apart i h =
    ap (λ (w : Word). w.cached)
    (outside (running_place page i)
    (⊎_elim (λ (low : page < channel). inl (omega arith)) (λ (high : channel ≤ page). inr (omega arith)) (cases_lt page channel)))

module _ (t : RunThread) (p : List ℕ) (f g : ℕ → Word) (count : ℕ → ℕ) (s : State) (channel at size number : ℕ) (words : List ℕ)
    (runs : RunsAs t p f count s) (low : channel < 4) (sized : length p ≡ 4) (is : number ≡ length (s.out channel)) (room : is_full (length (s.out channel)) (count channel) ≡ false)
    (some : 1 ≤ size) (most : size ≤ 56) (are : AreEntry words s.byte at size)
    (each : (i : ℕ) → running_words g channel i ≡ (if is_within (8 * (number % 64)) 8 i then slice_index words (i - 8 * (number % 64)) else running_words f channel i))
    (outside : (i : ℕ) → IsOutside (2 * channel) i → g i ≡ f i) where
  stands : (r : ℕ) → r < 8 → running_words g channel (8 * (number % 64) + r) ≡ slice_index words r
  stands r h =
      let within : is_within (8 * (number % 64)) 8 (8 * (number % 64) + r) ≡ true = grind (arith, nat_tests) in
      let off : 8 * (number % 64) + r - 8 * (number % 64) ≡ r = omega arith in
      each (8 * (number % 64) + r) ∙ rw (within, off) refl

  others : (i : ℕ) → (i < 8 * (number % 64)) ⊎ (8 * (number % 64) + 8 ≤ i) → running_words g channel i ≡ running_words f channel i
  others i h =
      let without : is_within (8 * (number % 64)) 8 i ≡ false = grind (arith, nat_tests) in
      each i ∙ rw without refl

  ring_here : IsRing (running_words g channel) (count channel) (s.out channel ++ bytes_at s.byte at size ∷ [])
  ring_here =
      IsRing-put (running_words f channel) (running_words g channel) (count channel) (s.out channel) (bytes_at s.byte at size) (runs.holds.rings channel low) room
      (IsEntry-put words (running_words g channel) s.byte at size (length (s.out channel)) some most are (rw is at stands))
      (rw is at others)

  pub RunsAs-put : RunsAs t (set p channel (number + 1)) g count (with_bytes s channel at size)
  RunsAs-put = record {
    thread_is = runs.thread_is;
    put_is = λ c h.
        ⊎_elim
        (λ (here : c ≡ channel).
        let test : (c == channel) ≡ true = eq-eqb c channel here in
        let more = length_push (s.out c) (bytes_at s.byte at size) in
        rw (test, more) (get_or-set_at p channel c (number + 1) 0 here (omega arith) ∙ ap (λ n. n + 1) (is ∙ ap (λ k. length (s.out k)) (sym here))))
        (λ (other : c ≡ channel → ⊥).
        let test : (c == channel) ≡ false = ne_eqb c channel other in
        rw test (get_or-set_other p channel c (number + 1) 0 other ∙ runs.put_is c h))
        (cases_eq c channel);
    holds = record {
      page = IsPage-same (running_words f 4) (running_words g 4) s.byte (pages_apart f g channel 4 outside (λ e. omega arith)) runs.holds.page;
      rings = λ c h.
          ⊎_elim
          (λ (here : c ≡ channel).
          let test : (c == channel) ≡ true = eq-eqb c channel here in
          rw (test, here) ring_here)
          (λ (other : c ≡ channel → ⊥).
          let test : (c == channel) ≡ false = ne_eqb c channel other in
          rw test (IsRing-same (running_words f c) (running_words g c) (count c) (s.out c) (pages_apart f g channel c outside other) (runs.holds.rings c h)))
          (cases_eq c channel);
      thread = runs.holds.thread;
    };
  }

-- nothing refuses a put
pub refused-none : (count : ℕ → ℕ) (s : State) (channel : ℕ) → is_empty_slot (register s 10) ≡ false → is_output_slot (register s 10) ≡ true → channel ≡ register s 10 - 2 → covers (register s 11) (min (register s 12) 56) ≡ true → (register s 12 == 0 || nat_lt 56 (register s 12)) ≡ false → is_full (length (s.out channel)) (count channel) ≡ false → put_refusal count s ≡ None
refused-none count s channel empty output is covered sized room =
    let room' : is_full (length (s.out (register s 10 - 2))) (count (register s 10 - 2)) ≡ false = subst (λ (c : ℕ). is_full (length (s.out c)) (count c) ≡ false) is room in
    rw (empty, output, covered, sized, room') refl
