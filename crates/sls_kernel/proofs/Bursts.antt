-- The cached words after a burst.
use Rattle.std.proofs.Common.{◌≡◌, ℕ, ◌+◌, ◌-◌, ◌*◌, ◌==◌, [], ◌∷◌, slice_index, if◌then◌else◌, true, false, refl, ap, ◌∙◌, ⊎_elim, arith}
use Rattle.std.proofs.lemmas.Bool.Decides.{nat_tests}
use Rattle.sls_kernel.specs.Words.{frame_place, running_words}
use Rattle.std.proofs.lemmas.Bool.{cases_Bool, cases_eq, eq-eqb, ne_eqb}
use Rattle.pmem_model.specs.Words.{Word, bursts, is_within}

pub burst-cached : (f g : ℕ → Word) (at count : ℕ) (value : ℕ → ℕ) → ((p : ℕ) → g p ≡ bursts at count value f p) → (p : ℕ) → (g p).cached ≡ (if is_within at count p then value (p - at) else (f p).cached)
burst-cached f g at count value each p =
    ap (λ (w : Word). w.cached) (each p) ∙ ⊎_elim (λ (yes : is_within at count p ≡ true). rw yes refl) (λ (none : is_within at count p ≡ false). rw none refl) (cases_Bool (is_within at count p))

pub burst-outside : (f g : ℕ → Word) (at count : ℕ) (value : ℕ → ℕ) → ((p : ℕ) → g p ≡ bursts at count value f p) → (p : ℕ) → is_within at count p ≡ false → g p ≡ f p
burst-outside f g at count value each p none = each p ∙ rw none refl

-- the words of a running page after a burst into it
pub running_words-burst : (f g : ℕ → Word) (page at count : ℕ) (value : ℕ → ℕ) → ((p : ℕ) → g p ≡ bursts (frame_place (2 * page) + at) count value f p) → (i : ℕ) → running_words g page i ≡ (if is_within at count i then value (i - at) else running_words f page i)
running_words-burst f g page at count value each i =
    let start = frame_place (2 * page) in
    let within : is_within (start + at) count (start + i) ≡ is_within at count i = grind (arith, nat_tests) in
    let off : start + i - (start + at) ≡ i - at = omega arith in
    burst-cached f g (start + at) count value each (start + i) ∙ rw (within, off) refl

-- the words of a running page after a store of one
pub running_words-stored : (f g : ℕ → Word) (page at word : ℕ) → ((p : ℕ) → g p ≡ bursts (frame_place (2 * page) + at) 1 (slice_index (word ∷ [])) f p) → (i : ℕ) → running_words g page i ≡ (if i == at then word else running_words f page i)
running_words-stored f g page at word each i =
    running_words-burst f g page at 1 (slice_index (word ∷ [])) each i
    ∙ ⊎_elim
    (λ (here : i ≡ at).
    let within : is_within at 1 i ≡ true = grind (arith, nat_tests) in
    let same : (i == at) ≡ true = eq-eqb i at here in
    let off : i - at ≡ 0 = omega arith in
    rw (within, same, off) refl)
    (λ (other : i ≡ at → ⊥).
    let without : is_within at 1 i ≡ false = grind (arith, nat_tests) in
    let same : (i == at) ≡ false = ne_eqb i at other in
    rw (without, same) refl)
    (cases_eq i at)
