-- A turn of a machine that isn't up yet.
use Rattle.std.specs.Prelude.{◌≡◌, ◌↔◌, ℕ, ◌+◌, ◌<◌, ◌≤◌, ◌⊎◌, Bool, true, false, if◌then◌else◌, IsTrue, List}
use Rattle.std.proofs.Common.{refl, ap, sym, subst, ◌∙◌, arith, inl, inr}
use Rattle.std.proofs.lemmas.Bool.{cases_eq, eq-eqb}
use Rattle.sls_base.specs.declared.fixed.TheConstants.{LEADER}
use Rattle.sls_base.specs.declared.limits.TheConstants.{VERSION_AT}
use Rattle.pmem_model.specs.Words.{Word}
use Rattle.pmem_model.specs.Memory.{KeepsCounts, Memory, count_up, word_at}
use Rattle.pmem_operations.specs.Operations.{AreOperations, IsAtMostOne}
use Rattle.machine_contract.specs.declared.answers.Did.TheVariants as did
use Rattle.machine_contract.specs.declared.answers.Why.{Why}
use Rattle.machine_contract.specs.Courses.{Course}
use Rattle.machine_contract.specs.Goes.{TurnGoes}
use Rattle.machine_contract.specs.Lawful.{IsLawfulInner}
use Rattle.machine_contract.specs.Operations.{inner_operations}
use Rattle.kernel_machine.specs.declared.kernel.Kernel.{Kernel}
use Rattle.kernel_machine.specs.Formats.{format}
use Rattle.kernel_machine.specs.Sides.{seen_of, side_of}

-- Counts.

pub one_operation : (core : ℕ) (f g : ℕ → Word) → IsAtMostOne core f g → AreOperations core 1 f g
one_operation core f g one = elim one [ inl same ↦ inl same | inr operation ↦ inr (g, operation, λ i. refl) ]

pub one_more_at_most : (old new : Memory) → (new.ops ≡ count_up old.ops) ⊎ (new.ops ≡ old.ops)
    → new.ops ≤ old.ops + 1
one_more_at_most old new one = elim one [ inl more ↦ omega (arith, more) | inr same ↦ omega (arith, same) ]

-- where the durable version stays no commit is counted
pub no_commit : (old new : Memory) → KeepsCounts old new
    → (word_at new VERSION_AT).durable ≡ (word_at old VERSION_AT).durable → new.commits ≡ old.commits
no_commit old new kept same =
    kept.commits
    ∙ ap (λ (b : Bool). if b then old.commits else count_up old.commits)
    (eq-eqb (word_at new VERSION_AT).durable (word_at old VERSION_AT).durable same)

-- a turn that isn't the last one leaves some
pub some_left : (last : Bool) (left : ℕ) → last ≡ false → IsTrue last ↔ (left ≡ 0) → 0 < left
some_left last left goes_on is = elim (cases_eq left 0) [
  | inl none ↦ absurd (let both : true ≡ false = sym (is.1 none) ∙ goes_on in cc)
  | inr some ↦ omega (arith, some)
]

-- A turn of formatting or of recovery of which a program sees nothing.
pub start_goes : (old new : Kernel) (c : Course) (why : Why)
    → IsLawfulInner c.world (side_of old) LEADER why (side_of new)
    → inner_operations why LEADER (side_of old) (side_of new) ≡ 1
    → IsAtMostOne LEADER (word_at old.nvm) (word_at new.nvm) → new.nvm.ops ≤ old.nvm.ops + 1
    → new.accepted ≡ old.accepted → new.nvm.cuts ≡ old.nvm.cuts
    → TurnGoes format LEADER (did.Inner why) (seen_of old) c (seen_of new)
start_goes old new c why lawful count one ops accepted cuts = record {
  lawful = lawful;
  words = subst (λ (n : ℕ). AreOperations LEADER n (word_at old.nvm) (word_at new.nvm)) (sym count)
      (one_operation LEADER (word_at old.nvm) (word_at new.nvm) one);
  ops = subst (λ (n : ℕ). new.nvm.ops ≤ old.nvm.ops + n) (sym count) ops;
  renewed = λ renews. absurd renews;
  board = λ closed opened. absurd (cc);
  opened = λ commits. absurd commits;
  rest =
      ap (λ (a : List ℕ). record (seen_of new) { accepted = a }) accepted
      ∙ ap (λ (n : ℕ). record (seen_of new) { accepted = old.accepted; cuts = n }) cuts;
}
