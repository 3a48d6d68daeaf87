-- A turn of a running machine that is a whole tick.
use Rattle.std.specs.Prelude.{◌≡◌, ◌≢◌, ◌⊎◌, ℕ, ◌+◌, ◌≤◌, ◌||◌, Bool, true, false, List, Option, None, slice_index_or}
use Rattle.std.proofs.Common.{refl, ap, sym, subst, ◌∙◌, inl, inr, arith}
use Rattle.std.proofs.Math.Path.{fun_ext}
use Rattle.pmem_model.specs.Memory.{Memory, word_at}
use Rattle.plain_state.specs.declared.label.Reply.{Reply}
use Rattle.plain_state.specs.declared.label.Reply.TheVariants as reply
use Rattle.plain_state.specs.Worlds.{has_page}
use Rattle.plain_state.specs.Ticks.{tick, tick_reply, touches, must_store}
use Rattle.page_store.specs.Stages.{stage_of, state_at, state_of}
use Rattle.cow_fault.specs.Faults.{steps_left}
use Rattle.core_turns.specs.declared.running.Running.{Running}
use Rattle.core_turns.specs.Runs.{prepared_by}
use Rattle.core_turns.specs.Turns.{StaysOrIsStored, Ticks}
use Rattle.machine_contract.specs.declared.answers.Did.TheVariants as did
use Rattle.machine_contract.specs.declared.bounds.TheConstants.{MOST_PREPARES}
use Rattle.machine_contract.specs.Side.{Side, CoreSide, core_at}
use Rattle.machine_contract.specs.Lawful.{IsAtHand, IsAtTick, MayTick, is_wished}
use Rattle.machine_contract.specs.Courses.{Course}
use Rattle.kernel_machine.specs.declared.work.Work.TheVariants as work
use Rattle.kernel_machine.specs.declared.kernel.Kernel.{Kernel}
use Rattle.kernel_machine.specs.Sides.{hand_of, seen_of, side_of, spent_at, writable_by}
use Rattle.kernel_machine.specs.Worlds.{AreHands}
use Rattle.kernel_machine.specs.Shows.{IsAt}
use Rattle.kernel_machine.specs.Turns.{TakesTurn}
use Rattle.kernel_machine.proofs.HandsStages.{stored_state, stored_steps}
use Rattle.kernel_machine.proofs.HandsSeen.{hand_each, hand_same, hands_at, hands_same, is_writable, writable_alike}
use Rattle.kernel_machine.proofs.RunFacts.{page_in_range, tick_answers, tick_cores, two_more_at_most}

-- Stages that stay, or are of pages that were stored to.

steps_same : (r n : Running) (page : ℕ) → StaysOrIsStored r n page
    → steps_left (stage_of n.rooms.pages page) ≡ steps_left (stage_of r.rooms.pages page)
steps_same r n page (inl e) = ap steps_left e
steps_same r n page (inr e) = ap steps_left e ∙ stored_steps (stage_of r.rooms.pages page)

state_same : (r n : Running) (page : ℕ) → StaysOrIsStored r n page
    → state_of n.rooms.pages page ≡ state_of r.rooms.pages page
state_same r n page (inl e) = ap state_at e
state_same r n page (inr e) = ap state_at e ∙ stored_state (stage_of r.rooms.pages page)

-- the machine with cores that run, with other hands and other pages that may be stored to
abbrev pub running_as : Kernel → Running → Kernel
running_as k r = record k { work = work.Runs r }

-- behind a tick
abbrev pub ticked_as : Kernel → Running → Memory → Bool → Kernel
ticked_as k n m wish = record k { nvm = m; work = work.Runs n; wish = wish }

-- a wish stays where there is none more
pub or_false : (b : Bool) → (b || false) ≡ b
or_false true = refl
or_false false = refl

module _ (k : Kernel) (r n : Running) (m : Memory) (c : Course) (h : IsAt (running_as k r) c) (core : ℕ)
    (answer : Reply) (t : Ticks r k.accepted k.nvm c.world core answer n m) where
  abbrev side : Side
  side = side_of (running_as k r)

  each : (other : ℕ) → prepared_by n other ≡ prepared_by r other
  each other = ap (λ (hands : List (Option ℕ)). slice_index_or hands other None) t.prepares

  hands_stay : hands_at n k.cores ≡ hands_at r k.cores
  hands_stay = hands_same r n k.cores (λ other. hand_same r n other (each other)
      (λ page e. steps_same r n page (t.stages page (h.work.in_range other page e))))

  writable_stay : (page : ℕ) → writable_by n page ≡ writable_by r page
  writable_stay page = writable_alike r n page (λ below. state_same r n page (t.stages page below))

  writable_same : writable_by n ≡ writable_by r
  writable_same = fun_ext writable_stay

  abbrev seen_with : List CoreSide → (ℕ → Bool) → Bool → Side
  seen_with hands writable wish = record side { cores = hands; writable = writable; wish = wish }

  side_then : (wish now : Bool) → wish ≡ now → side_of (ticked_as k n m wish) ≡ record side { wish = now }
  side_then wish now e =
      ap (λ (hands : List CoreSide). seen_with hands (writable_by n) wish) hands_stay
      ∙ ap (λ (writable : ℕ → Bool). seen_with (hands_at r k.cores) writable wish) writable_same
      ∙ ap (λ (b : Bool). seen_with (hands_at r k.cores) (writable_by r) b) e

  cuts_same : m.cuts ≡ k.nvm.cuts
  cuts_same = ap (λ (x : Memory). x.cuts) t.words.counts

  commits_same : m.commits ≡ k.nvm.commits
  commits_same = ap (λ (x : Memory). x.commits) t.words.counts

  module _ (wish : Bool) where
    abbrev new : Kernel
    new = ticked_as k n m wish

    rest_seen : seen_of new ≡ record (seen_of (running_as k r)) {
      side = side_of new;
      words = word_at m;
      ops = m.ops;
      commits = m.commits;
    }
    rest_seen =
        ap (λ (cuts : ℕ). record (seen_of (running_as k r)) {
          side = side_of new;
          words = word_at m;
          ops = m.ops;
          commits = m.commits;
          cuts = cuts;
        }) cuts_same

    hands_then : AreHands n k.cores k.spent
    hands_then = record {
      below = λ other page e. h.hands.below other page (sym (each other) ∙ e);
      seldom = λ page below.
          subst (λ (steps : ℕ). spent_at k.spent page + steps ≤ MOST_PREPARES)
          (sym (steps_same r n page (t.stages page below))) (h.hands.seldom page below);
    }

    at_next : IsAt new (record c { world = tick c.world core })
    at_next =
        let cores = tick_cores c.world core k.cores h.cores h.saved_cores in record {
          work = t.runs;
          hands = hands_then;
          some = h.some;
          most = h.most;
          cores = cores.0;
          saved_cores = cores.1;
          commits = commits_same ∙ h.commits;
          cuts = cuts_same ∙ h.cuts;
        }

  -- It was free to tick.

  own_hand : (other : ℕ) → core_at side other ≡ hand_of r other
  own_hand other = hand_each r k.cores other h.hands.below

  at_tick : IsAtTick side core
  at_tick = record {
    runs = refl;
    free = (
      ap (λ (hand : CoreSide). hand.prepares) (own_hand core) ∙ t.free,
      ap (λ (hand : CoreSide). hand.holds) (own_hand core),
    );
  }

  at_hand : (page : ℕ) → touches c.world core page ≡ true → IsAtHand side page
  at_hand page is = record {
    home = λ away. (let none = away.1 in omega arith);
    unprepared = λ other e.
        t.touched page is other (sym (ap (λ (hand : CoreSide). hand.prepares) (own_hand other)) ∙ e);
  }

  may_store : (page : ℕ) → must_store c.world core page ≡ true → has_page c.world.now page ≡ true
      → writable_by r page ≡ true
  may_store page is there =
      is_writable r page (page_in_range c.world.now page h.work.holds.sound.apart.0 there) (t.writable page is)

  may_tick : MayTick c.world side core
  may_tick = record { touched = at_hand; stored = may_store }

  -- What it answers.

  pub idle_turn : (wish : Bool) → answer ≡ reply.Idle → wish ≡ k.wish
      → TakesTurn (running_as k r) c core did.Idle (ticked_as k n m wish)
  idle_turn wish is same =
      let unmoved = t.idle is in record {
        goes = record {
          lawful = record { at_tick = at_tick; reply = t.reply_is ∙ is; rest = side_then wish k.wish same };
          words = λ i. ap (λ (x : Memory). word_at x i) unmoved;
          ops = let ops : m.ops ≡ k.nvm.ops = ap (λ (x : Memory). x.ops) unmoved in omega arith;
          renewed = λ no. absurd no;
          board = λ closed opened. absurd (cc);
          opened = λ no. absurd no;
          rest = rest_seen wish;
        };
        is_at = at_next wish;
      }

  not_idle : answer ≢ reply.Idle
      → (tick_reply c.world core ≡ reply.Retired) ⊎ (tick_reply c.world core ≡ reply.Wished)
  not_idle other = elim (tick_answers c.world core) [
    | inl idle ↦ absurd (other (sym t.reply_is ∙ idle))
    | inr retired ↦ retired
  ]

  pub retired_turn : (wish : Bool) → answer ≢ reply.Idle → wish ≡ (k.wish || is_wished answer)
      → TakesTurn (running_as k r) c core did.Retired (ticked_as k n m wish)
  retired_turn wish other same = record {
    goes = record {
      lawful = record {
        at_tick = at_tick;
        may = may_tick;
        reply = not_idle other;
        rest = side_then wish (k.wish || is_wished (tick_reply c.world core))
            (same ∙ ap (λ (x : Reply). k.wish || is_wished x) (sym t.reply_is));
      };
      words = t.words.operations core;
      ops = two_more_at_most k.nvm m t.words.ops;
      renewed = λ no. absurd no;
      board = λ closed opened. absurd (cc);
      opened = λ no. absurd no;
      rest = rest_seen wish;
    };
    is_at = at_next wish;
  }
