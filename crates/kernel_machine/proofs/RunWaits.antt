-- A turn of a running machine by which a core waits for a page.
use Rattle.std.specs.Prelude.{◌≡◌, ℕ}
use Rattle.std.proofs.Common.{refl, ap, sym, subst, ◌∙◌, inl, arith}
use Rattle.pmem_model.specs.Memory.{Memory}
use Rattle.core_turns.specs.declared.running.Running.{Running}
use Rattle.core_turns.specs.Turns.{Waits}
use Rattle.machine_contract.specs.declared.answers.Did.TheVariants as did
use Rattle.machine_contract.specs.declared.answers.Why.TheVariants as why
use Rattle.machine_contract.specs.Side.{CoreSide, core_at}
use Rattle.machine_contract.specs.Courses.{Course}
use Rattle.kernel_machine.specs.declared.work.Work.TheVariants as work
use Rattle.kernel_machine.specs.declared.kernel.Kernel.{Kernel}
use Rattle.kernel_machine.specs.Sides.{hand_of, side_of}
use Rattle.kernel_machine.specs.Shows.{IsAt}
use Rattle.kernel_machine.specs.Turns.{TakesTurn}
use Rattle.kernel_machine.proofs.HandsSeen.{hand_each}
use Rattle.kernel_machine.proofs.RunTicked.{running_as}

-- behind a turn of which the cores and the memory are these
abbrev pub waited_as : Kernel → Running → Memory → Kernel
waited_as k n m = record k { nvm = m; work = work.Runs n }

module _ (k : Kernel) (r n : Running) (m : Memory) (c : Course) (h : IsAt (running_as k r) c) (core page other : ℕ)
    (t : Waits r k.nvm c.world core page other n m) where
  own_hand : (number : ℕ) → core_at (side_of (running_as k r)) number ≡ hand_of r number
  own_hand number = hand_each r k.cores number h.hands.below

  stays : TakesTurn (running_as k r) c core (did.Inner (why.Wait page other)) (running_as k r)
  stays = record {
    goes = record {
      lawful = record {
        at_tick = record {
          runs = refl;
          free = (
            ap (λ (hand : CoreSide). hand.prepares) (own_hand core) ∙ t.free,
            ap (λ (hand : CoreSide). hand.holds) (own_hand core),
          );
        };
        touched = t.touched;
        why = inl (ap (λ (hand : CoreSide). hand.prepares) (own_hand other) ∙ t.prepares);
        rest = refl;
      };
      words = λ i. refl;
      ops = omega arith;
      renewed = λ no. absurd no;
      board = λ closed opened. absurd (cc);
      opened = λ no. absurd no;
      rest = refl;
    };
    is_at = h;
  }

  pub waiting_turn : TakesTurn (running_as k r) c core (did.Inner (why.Wait page other)) (waited_as k n m)
  waiting_turn =
      subst (λ (next : Running). TakesTurn (running_as k r) c core (did.Inner (why.Wait page other)) (waited_as k next m))
      (sym t.same)
      (subst (λ (now : Memory). TakesTurn (running_as k r) c core (did.Inner (why.Wait page other)) (waited_as k r now))
      (sym t.memory) stays)
