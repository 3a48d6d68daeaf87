-- The three operations on a word that is made durable.
use Rattle.std.proofs.Common.{◌≡◌, ◌≢◌, ℕ, ◌∙◌, ap, arith, true, refl, slice_index, [], ◌∷◌}
use Rattle.std.proofs.lemmas.Bool.Decides.{nat_tests}
use Rattle.sls_base.specs.declared.limits.TheConstants.{LINE_WORDS}
use Rattle.pmem_model.specs.Words.{Word, is_within, bursts, flushes, fences, flushed}
use Rattle.pmem_model.specs.Events.{WordCalm, WordIs, Clean, Over, ReadyOver, burst_one, fence_all, fence_word, marked_word}
use Rattle.pmem_layout.specs.Places.{line_at}
use Rattle.pmem_layout.specs.Owners.{Owner, owner}
use Rattle.pmem_layout.specs.Rooms.{StoresOnlyIn}
use Rattle.version_commit.specs.OnWay.{IsOnWay}
use Rattle.sls_base.specs.declared.fixed.TheConstants.{LEADER}
use Rattle.version_commit.specs.declared.step.Step.TheVariants.{Store, Flush, Fence}

within_one : (at : ℕ) → is_within at 1 at ≡ true
within_one at = grind (arith, nat_tests)

within_line : (at : ℕ) → is_within (line_at at) LINE_WORDS at ≡ true
within_line at = grind (arith, nat_tests)

pub stored_on : (f g : ℕ → Word) (at was reads value : ℕ) → ((i : ℕ) → g i ≡ bursts at 1 (slice_index (value ∷ [])) f i)
    → IsOnWay Store (f at) was reads → IsOnWay Flush (g at) was value
stored_on f g at was reads value e h = record {
  durable = ap (λ (w : Word). w.durable) (rw (within_one at) at (e at)) ∙ h.durable;
  known = burst_one LEADER f g at was value (slice_index (value ∷ [])) e refl h.durable;
}

pub flushed_on : (f g : ℕ → Word) (at was reads : ℕ) → ((i : ℕ) → g i ≡ flushes LEADER (line_at at) 8 f i)
    → IsOnWay Flush (f at) was reads → IsOnWay Fence (g at) was reads
flushed_on f g at was reads e h =
    let now : g at ≡ flushed LEADER (f at) = rw (within_line at) at (e at) in
    rw now (record { durable = h.durable; known = marked_word LEADER (Over was) (f at) reads h.known })

pub fenced_on : (f g : ℕ → Word) (at was reads : ℕ) → ((i : ℕ) → g i ≡ fences LEADER f i)
    → IsOnWay Fence (f at) was reads → IsOnWay Store (g at) reads reads
fenced_on f g at was reads e h =
    let clean : WordIs LEADER Clean (g at) reads = fence_word LEADER (ReadyOver was) (f at) (g at) reads (fence_all f g LEADER e at) h.known in
    record { durable = clean.1; known = clean }

-- what stores in one word stores only in the words of its owner
pub one_owner : (o : Owner) (f g : ℕ → Word) (at : ℕ) → owner at ≡ o → ((i : ℕ) → i ≢ at → WordCalm (f i) (g i)) → StoresOnlyIn o f g
one_owner o f g at own others = record { at = λ i other. others i (λ same. other (ap owner same ∙ own)) }
