-- The arms of a turn of a running machine.
use Rattle.std.specs.Prelude.{◌≡◌, ◌≢◌, ℕ, ◌<◌, ◌||◌, Bool, true, false, length}
use Rattle.std.proofs.Common.{refl, ap, sym, subst, ◌∙◌, inl, inr}
use Rattle.sls_base.specs.declared.limits.TheConstants.{PAGES}
use Rattle.pmem_model.specs.Memory.{Memory}
use Rattle.plain_state.specs.declared.label.Reply.{Reply}
use Rattle.plain_state.specs.declared.label.Reply.TheVariants as reply
use Rattle.plain_state.specs.Worlds.{World}
use Rattle.plain_state.specs.Ticks.{tick_reply}
use Rattle.core_turns.specs.declared.running.Running.{Running}
use Rattle.core_turns.specs.Runs.{Runs}
use Rattle.core_turns.specs.Turns.{Prepares, Ticks, Waits}
use Rattle.machine_contract.specs.declared.answers.Did.{Did}
use Rattle.machine_contract.specs.declared.answers.Did.TheVariants as did
use Rattle.machine_contract.specs.declared.answers.Why.TheVariants as why
use Rattle.machine_contract.specs.Lawful.{is_wished}
use Rattle.machine_contract.specs.Courses.{Course}
use Rattle.kernel_machine.specs.declared.work.Work.{Work}
use Rattle.kernel_machine.specs.declared.work.Work.TheVariants as work
use Rattle.kernel_machine.specs.declared.kernel.Kernel.{Kernel}
use Rattle.kernel_machine.specs.Shows.{IsAt}
use Rattle.kernel_machine.specs.Turns.{TakesTurn}
use Rattle.kernel_machine.proofs.RunFacts.{tick_answers}
use Rattle.kernel_machine.proofs.RunTicked.{running_as, ticked_as, idle_turn, retired_turn, or_false}
use Rattle.kernel_machine.proofs.RunPrepared.{prepared_as, prepared_turn}
use Rattle.kernel_machine.proofs.RunWaits.{waited_as, waiting_turn}

-- the machine, and the machine with its running cores

is_running : (k : Kernel) (r : Running) → k.work ≡ work.Runs r → k ≡ running_as k r
is_running k r e = ap (λ (x : Work). record k { work = x }) e

pub as_running : (k : Kernel) (r : Running) (c : Course) → k.work ≡ work.Runs r → IsAt k c → IsAt (running_as k r) c
as_running k r c e h = subst (λ (x : Kernel). IsAt x c) (is_running k r e) h

or_true : (b : Bool) → (b || true) ≡ true
or_true true = refl
or_true false = refl

module _ (k : Kernel) (r n : Running) (m : Memory) (core : ℕ) (e : k.work ≡ work.Runs r) where
  -- a turn of the one is one of the other
  from : (c : Course) (answer : Did) (new : Kernel) → TakesTurn (running_as k r) c core answer new
      → TakesTurn k c core answer new
  from c answer new t = subst (λ (x : Kernel). TakesTurn x c core answer new) (sym (is_running k r e)) t

  pub idle_arm : ((w : World) → Runs r k.accepted k.nvm w → Ticks r k.accepted k.nvm w core reply.Idle n m)
      → (c : Course) → IsAt k c → TakesTurn k c core did.Idle (ticked_as k n m k.wish)
  idle_arm goes c h =
      let at = as_running k r c e h in
      from c did.Idle (ticked_as k n m k.wish)
      (idle_turn k r n m c at core reply.Idle (goes c.world at.work) k.wish refl refl)

  pub wished_arm : ((w : World) → Runs r k.accepted k.nvm w → Ticks r k.accepted k.nvm w core reply.Wished n m)
      → (c : Course) → IsAt k c → TakesTurn k c core did.Retired (ticked_as k n m true)
  wished_arm goes c h =
      let at = as_running k r c e h in
      from c did.Retired (ticked_as k n m true)
      (retired_turn k r n m c at core reply.Wished (goes c.world at.work) true (λ no. cc) (sym (or_true k.wish)))

  -- a tick that is neither idle nor one with a wish is retired
  unwished : (w : World) (answer : Reply) → answer ≢ reply.Idle → answer ≢ reply.Wished
      → tick_reply w core ≡ answer → k.wish ≡ (k.wish || is_wished answer)
  unwished w answer busy silent told = elim (tick_answers w core) [
    | inl idle ↦ absurd (busy (sym told ∙ idle))
    | inr (inl retired) ↦
        sym (ap (λ (x : Reply). k.wish || is_wished x) (sym told ∙ retired) ∙ or_false k.wish)
    | inr (inr wished) ↦ absurd (silent (sym told ∙ wished))
  ]

  pub retired_arm : (answer : Reply) → answer ≢ reply.Idle → answer ≢ reply.Wished
      → ((w : World) → Runs r k.accepted k.nvm w → Ticks r k.accepted k.nvm w core answer n m)
      → (c : Course) → IsAt k c → TakesTurn k c core did.Retired (ticked_as k n m k.wish)
  retired_arm answer busy silent goes c h =
      let at = as_running k r c e h in
      let t = goes c.world at.work in
      from c did.Retired (ticked_as k n m k.wish)
      (retired_turn k r n m c at core answer t k.wish busy (unwished c.world answer busy silent t.reply_is))

  pub prepared_arm : (page : ℕ) → core < k.cores → length k.spent ≡ PAGES
      → ((w : World) → Runs r k.accepted k.nvm w → Prepares r k.accepted k.nvm w core page n m)
      → (c : Course) → IsAt k c → TakesTurn k c core (did.Inner (why.Prepare page)) (prepared_as k n m page)
  prepared_arm page below size goes c h =
      let at = as_running k r c e h in
      from c (did.Inner (why.Prepare page)) (prepared_as k n m page)
      (prepared_turn k r n m c at core page below size (goes c.world at.work))

  pub waits_arm : (page other : ℕ)
      → ((w : World) → Runs r k.accepted k.nvm w → Waits r k.nvm w core page other n m)
      → (c : Course) → IsAt k c → TakesTurn k c core (did.Inner (why.Wait page other)) (waited_as k n m)
  waits_arm page other goes c h =
      let at = as_running k r c e h in
      from c (did.Inner (why.Wait page other)) (waited_as k n m)
      (waiting_turn k r n m c at core page other (goes c.world at.work))
