-- A write-back that commits: the leader goes on behind the commit, and what is seen of the machine says so.
use Rattle.std.specs.Prelude.{◌≡◌, ℕ, replicate, Some}
use Rattle.std.proofs.Common.{refl, ap, sym, subst, ◌∙◌, inl, inr, arith}
use Rattle.std.proofs.lemmas.Bool.{cases_lt}
use Rattle.std.proofs.lemmas.List.{get_or-replicate, get_or_past, length-replicate}
use mathlib.Core.Path.{fun_ext}
use Rattle.sls_base.specs.declared.limits.TheConstants.{PAGES}
use Rattle.pmem_model.specs.Memory.{Memory, count_up, word_at}
use Rattle.plain_model.specs.Play.{commit}
use Rattle.plain_laws.proofs.Cores.{sweep_keeps_cores}
use Rattle.page_store.specs.Stages.{stage_of}
use Rattle.checkpoint_turns.specs.declared.checkpoint.Checkpoint.{Checkpoint}
use Rattle.checkpoint_turns.specs.Checkpoints.{Behind, turns_left}
use Rattle.checkpoint_turns.specs.Steps.{CommitsBack}
use Rattle.checkpoint_turns.proofs.Settled.{version_applied, version_shown}
use Rattle.machine_contract.specs.Side.{AfterCommit, CoreSide, none_spent}
use Rattle.machine_contract.specs.Lawful as lawful
use Rattle.machine_contract.specs.Boards.{IsRenewed}
use Rattle.machine_contract.specs.Courses.{Course, after, back_label}
use Rattle.machine_contract.specs.Goes.{WriteBackGoes}
use Rattle.machine_contract.specs.Shown.{Seen}
use Rattle.kernel_machine.specs.declared.kernel.Kernel.{Kernel}
use Rattle.kernel_machine.specs.declared.work.Work.{Work}
use Rattle.kernel_machine.specs.declared.work.Work.TheVariants as works
use Rattle.kernel_machine.specs.Formats.{format}
use Rattle.kernel_machine.specs.Sides.{hands_of, seen_of, side_of, spent_at, writable_of}
use Rattle.kernel_machine.specs.Shows.{IsAt}
use Rattle.kernel_machine.specs.Worlds.{AreHands}
use Rattle.kernel_machine.proofs.SaveSides.{all_free, same_hands}
use Rattle.kernel_machine.proofs.SaveStages.{committed_most}
use Rattle.kernel_machine.proofs.SaveEvents.{mode_before, mode_behind, one_counted, same_side, side_with}
use Rattle.kernel_machine.proofs.AskBegins.{at_work}
use Rattle.kernel_machine.proofs.BackStays.{WroteBack}

-- No page was prepared since.

pub spent_none : (n page : ℕ) → spent_at (replicate n 0) page ≡ 0
spent_none n page = elim (cases_lt page n) [
  | inl below ↦ get_or-replicate n page 0 0 below
  | inr past ↦ get_or_past (replicate n 0) page 0 (omega (arith, past, length-replicate {A = ℕ} n 0))
]

-- the machine behind the commit
abbrev pub committed : Kernel → Memory → Work → Kernel
committed old next now = record old { nvm = next; work = now; spent = replicate PAGES 0 }

module _ (word : ℕ) (old : Kernel) (next : Memory) (c : Course) (k n : Checkpoint) (version : ℕ)
    (wrote : WroteBack word old.nvm next) (back : CommitsBack k old.accepted old.nvm c.world version n next) where
  side_is : side_of (committed old next (works.Saves n))
      ≡ side_with old.wish AfterCommit (turns_left k) (hands_of (works.Saves k) old.cores) none_spent
      (writable_of (works.Saves n))
  side_is =
      same_side old.wish (mode_behind n old.accepted next (commit c.world) back.committed.is_behind) back.left
      (same_hands k.running n.running old.cores back.free back.committed.is_behind.none) (fun_ext (spent_none PAGES))
      refl

  commits_side : lawful.CommitsBack c.world (side_of (at_work old (works.Saves k))) version
      (side_of (committed old next (works.Saves n)))
  commits_side = record {
    mode = mode_before k old.accepted old.nvm c.world back.committed.was;
    prepares = λ core. ap (λ (x : CoreSide). x.prepares) (all_free k.running old.cores core back.free);
    next = record {
      next = back.committed.version_is;
      in_range = omega (arith, back.committed.version_is, back.committed.was.writing.in_range);
    };
    rest = side_is;
  }

  -- what is seen, if nothing but words and commits is other beside the side
  abbrev seen_with : ℕ → ℕ → Seen
  seen_with ops cuts = record {
    side = side_of (committed old next (works.Saves n));
    words = word_at next;
    accepted = old.accepted;
    ops = ops;
    commits = next.commits;
    cuts = cuts;
  }

  pub commits_goes : IsRenewed format (seen_of (committed old next (works.Saves n))) (commit c.world)
      → WriteBackGoes format word (Some version) (seen_of (at_work old (works.Saves k))) c
      (seen_of (committed old next (works.Saves n)))
  commits_goes renewed = record {
    lawful = commits_side;
    words = wrote.words;
    renewed = renewed;
    opened = λ uses. absurd (cc);
    rest = ap (λ (ops : ℕ). seen_with ops next.cuts) wrote.ops
        ∙ ap (λ (cuts : ℕ). seen_with old.nvm.ops cuts) wrote.counts.cuts;
  }

  -- The course behind the commit.

  hands_behind : AreHands n.running old.cores (replicate PAGES 0)
  hands_behind = record {
    below = λ core page is. (let none = back.committed.is_behind.none core in absurd (cc));
    seldom = λ page below.
        omega (
          arith,
          spent_none PAGES page,
          committed_most (stage_of n.running.rooms.pages page) (back.committed.is_behind.stages page below),
        );
  }

  pub commits_at : IsAt (at_work old (works.Saves k)) c
      → IsAt (committed old next (works.Saves n)) (after c (back_label (Some version)))
  commits_at at = record {
    work = Behind back.committed.is_behind;
    hands = hands_behind;
    some = at.some;
    most = at.most;
    cores = sweep_keeps_cores c.world.now ∙ at.cores;
    saved_cores = sweep_keeps_cores c.world.now ∙ at.cores;
    commits =
        one_counted old.nvm next c.world.version wrote.counts (version_shown back.committed.was.writing)
        (version_applied n old.accepted next (commit c.world) back.committed.is_behind)
        ∙ ap count_up at.commits;
    cuts = wrote.counts.cuts ∙ at.cuts;
  }

  -- The same of a machine that is at the checkpoint.
  module _ (is : old.work ≡ works.Saves k) where
    pub goes_of : IsRenewed format (seen_of (committed old next (works.Saves n))) (commit c.world)
        → WriteBackGoes format word (Some version) (seen_of old) c (seen_of (committed old next (works.Saves n)))
    goes_of renewed =
        subst (λ (x : Work). WriteBackGoes format word (Some version) (seen_of (at_work old x)) c
        (seen_of (committed old next (works.Saves n)))) (sym is) (commits_goes renewed)

    pub at_of : IsAt old c → IsAt (committed old next (works.Saves n)) (after c (back_label (Some version)))
    at_of at = commits_at (subst (λ (x : Work). IsAt (at_work old x) c) is at)
