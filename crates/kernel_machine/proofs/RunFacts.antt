-- What a turn of a running machine needs of its worlds and of its memory.
use Rattle.std.specs.Prelude.{◌≡◌, ◌⊎◌, ℕ, ◌+◌, ◌<◌, ◌≤◌, ◌==◌, Bool, true, false, if◌then◌else◌, List, length, Option, Some, None}
use Rattle.std.specs.List.{list_any}
use Rattle.std.proofs.Common.{refl, ap, sym, subst, ◌∙◌, inl, inr, arith}
use Rattle.std.proofs.lemmas.Bool.{eqb-true, eq-eqb}
use Rattle.sls_base.specs.declared.fixed.TheConstants.{SCHEDULER}
use Rattle.sls_base.specs.declared.limits.TheConstants.{PAGES, VERSION_AT}
use Rattle.sls_base.proofs.ListTests.{in_any}
use Rattle.pmem_model.specs.Words.{Word}
use Rattle.pmem_model.specs.Memory.{Memory, KeepsCounts, count_up, word_at}
use Rattle.pmem_operations.specs.Operations.{AreOperations, IsAtMostOne}
use Rattle.plain_state.specs.declared.label.Label.TheVariants.{Tick}
use Rattle.plain_state.specs.declared.label.Reply.TheVariants as reply
use Rattle.plain_state.specs.Objects.{every_object, page_numbers}
use Rattle.plain_state.specs.States.{State}
use Rattle.plain_state.specs.Ticks.{Chosen, chosen, effect_for, reply_for, tick, tick_reply}
use Rattle.plain_state.specs.Worlds.{World, has_page}
use Rattle.kobj_table.specs.Slots.{cores_of}
use Rattle.kobj_table.specs.Objects.{slot_at, state_of}
use Rattle.plain_laws.specs.Sound.{AreApart}
use Rattle.plain_laws.proofs.Cores.{stays_with_cores}
use Rattle.plain_laws.proofs.Free.{in_contains}
use Rattle.kernel_calls.specs.Instructions.{AtMostTwo}
use Rattle.core_turns.specs.declared.running.Running.{Running}
use Rattle.core_turns.specs.Runs.{Runs, objects_of}

-- Worlds.

-- a page that an object has is in range
pub page_in_range : (s : State) (page : ℕ) → AreApart s → has_page s page ≡ true → page < PAGES
unfolding has_page
page_in_range s page apart is =
    let owner = in_any (λ i. list_any (λ number. number == page) (page_numbers (s.objects i))) every_object is in
    let numbers = page_numbers (s.objects owner.0) in
    let found = in_any (λ number. number == page) numbers owner.2 in
    subst (λ (p : ℕ). p < PAGES) (eqb-true found.0 page found.2)
    (apart.in_range owner.0 found.0 (in_contains numbers found.0 found.1))

-- a tick is idle, retired, or retired with a wish
retired_or_wished : (wishes : Bool)
    → ((if wishes then reply.Wished else reply.Retired) ≡ reply.Retired)
    ⊎ ((if wishes then reply.Wished else reply.Retired) ≡ reply.Wished)
retired_or_wished true = inr refl
retired_or_wished false = inl refl

answers_for : (w : World) (c : Option Chosen)
    → (reply_for w c ≡ reply.Idle) ⊎ ((reply_for w c ≡ reply.Retired) ⊎ (reply_for w c ≡ reply.Wished))
answers_for w None = inl refl
answers_for w (Some c) = inr (retired_or_wished (effect_for w c).wishes)

pub tick_answers : (w : World) (core : ℕ)
    → (tick_reply w core ≡ reply.Idle) ⊎ ((tick_reply w core ≡ reply.Retired) ⊎ (tick_reply w core ≡ reply.Wished))
tick_answers w core = answers_for w (chosen w.now core)

-- a tick keeps the number of cores
pub tick_cores : (w : World) (core cores : ℕ) → length w.now.cores ≡ cores → length w.saved.cores ≡ cores
    → (length (tick w core).now.cores ≡ cores) × (length (tick w core).saved.cores ≡ cores)
tick_cores w core cores now saved = stays_with_cores w (Tick core) cores (now, saved)

-- The memory.

pub one_more_at_most : (n : ℕ) → count_up n ≤ n + 1
one_more_at_most n = omega arith

pub two_more_at_most : (old new : Memory) → AtMostTwo old new → new.ops ≤ old.ops + 2
two_more_at_most old new (inl e) = omega (arith, e)
two_more_at_most old new (inr (inl e)) = omega (arith, e, one_more_at_most old.ops)
two_more_at_most old new (inr (inr e)) =
    omega (arith, e, one_more_at_most old.ops, one_more_at_most (count_up old.ops))

pub one_operation : (core : ℕ) (f g : ℕ → Word) → IsAtMostOne core f g → AreOperations core 1 f g
one_operation core f g (inl same) = inl same
one_operation core f g (inr operation) = inr (g, operation, λ i. refl)

-- what is durable as version
pub durable_version : (r : Running) (accepted : List ℕ) (m : Memory) (w : World) → Runs r accepted m w
    → (word_at m VERSION_AT).durable ≡ w.version
durable_version r accepted m w h = (h.at_rest.shows (λ i. None)).version.durable

-- a memory in which the version stays has counted no commit
pub no_commit : (old new : Memory) → KeepsCounts old new
    → (word_at new VERSION_AT).durable ≡ (word_at old VERSION_AT).durable → new.commits ≡ old.commits
no_commit old new keeps same =
    keeps.commits
    ∙ ap (λ (b : Bool). if b then old.commits else count_up old.commits)
    (eq-eqb (word_at new VERSION_AT).durable (word_at old VERSION_AT).durable same)

-- the scheduler's slot tells as many cores as the world has
pub scheduled_cores : (r : Running) (accepted : List ℕ) (m : Memory) (w : World) (cores : ℕ) → Runs r accepted m w
    → length w.now.cores ≡ cores → length (cores_of (slot_at (objects_of r) SCHEDULER)) ≡ cores
unfolding state_of
scheduled_cores r accepted m w cores h count = ap (λ (s : State). length s.cores) (sym h.holds.now) ∙ count
