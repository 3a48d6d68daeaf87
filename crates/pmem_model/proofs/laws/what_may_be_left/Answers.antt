use Rattle.std.proofs.Common.{◌≡◌, ℕ, Bool, true, false, cond, inl, inr, sym}
use Rattle.pmem_model.specs.Words.{Word, lost, written_back}
use Rattle.pmem_model.specs.Events.{Left}
use Rattle.pmem_model.proofs.laws.what_may_be_left.Goals as goal

-- the word is written back where its cached value is left
is_cached : (w : Word) (y : ℕ) → Left w y → Bool
is_cached w y h = elim h [ inl d ↦ false | inr c ↦ true ]

left_is : (w : Word) (y : ℕ) (h : Left w y) → (lost (cond (is_cached w y h) (written_back w) w)).durable ≡ y
unfolding is_cached
left_is w y h = elim h as (λ v. (lost (cond (is_cached w y v) (written_back w) w)).durable ≡ y) [ inl d ↦ sym d | inr c ↦ sym c ]

pub returns-clause-can : goal.returns-clause-can
returns-clause-can c = λ f left may. (λ i. is_cached (f i) (left i) (may i), λ i. left_is (f i) (left i) (may i))
