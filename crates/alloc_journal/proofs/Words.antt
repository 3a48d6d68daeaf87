-- Which words are the numbers' own, and what one operation does to them.
use Rattle.std.proofs.Common.{◌≡◌, ◌≢◌, ℕ, ◌+◌, ◌<◌, ◌∙◌, sym, ap, subst, refl, arith, Bool, [], ◌∷◌, slice_index, inl, inr}
use Rattle.std.proofs.lemmas.Bool.Decides.{nat_tests}
use Rattle.pmem_model.specs.Words.{Word, bursts, flushes, fences}
use Rattle.pmem_model.specs.Events.{Kind, Cached, Over, WordIs, WordCalm, burst_apart, burst_one, burst_in, flush_calm, fence_all, in_flight, flush_in}
use Rattle.pmem_layout.specs.declared.places.TheConstants.{LOG_HEAD_AT, OBJECT_BASE_AT, NUMBERS}
use Rattle.pmem_layout.specs.Places.{log_entry_at}
use Rattle.pmem_layout.specs.Owners.{Numbers, owner}
use Rattle.pmem_layout.specs.Rooms.{StoresOnlyIn, CalmIn}
use Rattle.alloc_journal.specs.declared.bits.TheConstants.{BASE_WORDS}
use Rattle.alloc_journal.specs.Sets.{bit_of}

pub owner_head : owner LOG_HEAD_AT ≡ Numbers
unfolding owner
owner_head = grind (arith, nat_tests)

pub owner_base : (k : ℕ) → k < BASE_WORDS → owner (OBJECT_BASE_AT + k) ≡ Numbers
unfolding owner
owner_base k h = grind (arith, nat_tests)

pub owner_entry : (i : ℕ) → i < NUMBERS → owner (log_entry_at i) ≡ Numbers
unfolding owner
owner_entry i h = grind (arith, nat_tests)

-- a store of one word
abbrev pub IsStored : (ℕ → Word) → (ℕ → Word) → ℕ → ℕ → Type 0
IsStored f g at x = (i : ℕ) → g i ≡ bursts at 1 (slice_index (x ∷ [])) f i

pub stored_apart : (f g : ℕ → Word) (at x i : ℕ) → IsStored f g at x → i ≢ at → WordCalm (f i) (g i)
stored_apart f g at x i e ne = burst_apart f g at i (slice_index (x ∷ [])) e ne

pub stored_only : (f g : ℕ → Word) (at x : ℕ) → owner at ≡ Numbers → IsStored f g at x → StoresOnlyIn Numbers f g
stored_only f g at x own e = record {
  at = λ i other. stored_apart f g at x i e (λ (same : i ≡ at). other (ap owner same ∙ own));
}

pub stored_over : (f g : ℕ → Word) (at x d : ℕ) → IsStored f g at x → (f at).durable ≡ d → WordIs 0 (Over d) (g at) x
stored_over f g at x d e was = burst_one 0 f g at d x (slice_index (x ∷ [])) e refl was

pub stored_reads : (f g : ℕ → Word) (at x : ℕ) → IsStored f g at x → WordIs 0 Cached (g at) x
stored_reads f g at x e = (stored_over f g at x ((f at).durable) e refl).0

-- what is durable of the word that is stored stays
pub stored_durable : (f g : ℕ → Word) (at x : ℕ) → IsStored f g at x → (g at).durable ≡ (f at).durable
stored_durable f g at x e =
    let z : at + 0 ≡ at = omega arith in
    let here = burst_in f g at 1 0 (slice_index (x ∷ [])) e (omega arith) in
    ap (λ (w : Word). w.durable) (rw z at here)

-- flushes and fences store nothing
pub flush_only : (f g : ℕ → Word) (core at n : ℕ) → ((i : ℕ) → g i ≡ flushes core at n f i) → StoresOnlyIn Numbers f g
flush_only f g core at n e = record { at = λ i other. flush_calm f g core at n e i }

pub flush_in_calm : (f g : ℕ → Word) (core at n : ℕ) → ((i : ℕ) → g i ≡ flushes core at n f i) → CalmIn Numbers f g
flush_in_calm f g core at n e = record { at = λ i own. flush_calm f g core at n e i }

pub fence_in_calm : (f g : ℕ → Word) (core : ℕ) → ((i : ℕ) → g i ≡ fences core f i) → CalmIn Numbers f g
fence_in_calm f g core e = record { at = λ i own. (fence_all f g core e i).calm }

-- a bit that a word reads and has durable stays so
pub durable_calm : (w u : Word) (x n : ℕ) (b : Bool) → WordCalm w u → w.cached ≡ x → bit_of x n ≡ b
    → bit_of (w.durable) n ≡ b → bit_of (u.durable) n ≡ b
durable_calm w u x n b calm reads now was = elim calm.durable [
  | inl same ↦ ap (λ (y : ℕ). bit_of y n) same ∙ was
  | inr new ↦ ap (λ (y : ℕ). bit_of y n) (new ∙ reads) ∙ now
]

-- a flush of words puts the first of them in flight
pub flush_first : (core : ℕ) (k : Kind) (f g : ℕ → Word) (at n x : ℕ) → 0 < n → ((i : ℕ) → g i ≡ flushes core at n f i)
    → WordIs core k (f at) x → WordIs core (in_flight k) (g at) x
flush_first core k f g at n x some e is =
    let z : at + 0 ≡ at = omega arith in
    subst (λ (p : ℕ). WordIs core (in_flight k) (g p) x) z
    (flush_in core k f g at n 0 x e some (subst (λ (p : ℕ). WordIs core k (f p) x) (sym z) is))
