-- The leader waits for another core, and another core has nothing to do.
use Rattle.std.specs.Prelude.{◌≡◌, ◌≢◌, ℕ, List, Some, None}
use Rattle.std.proofs.Common.{refl, ap, sym, ◌∙◌}
use Rattle.sls_base.specs.declared.fixed.TheConstants.{LEADER}
use Rattle.pmem_model.specs.Memory.{Memory}
use Rattle.plain_state.specs.Worlds.{World}
use Rattle.core_turns.specs.Runs.{prepared_by}
use Rattle.checkpoint_turns.specs.declared.checkpoint.Checkpoint.{Checkpoint}
use Rattle.checkpoint_turns.specs.Checkpoints.{IsOf}
use Rattle.checkpoint_turns.specs.Steps.{Pauses, Waits}
use Rattle.checkpoint_turns.proofs.PrepareGoes.{before_of}

pub waits : (k : Checkpoint) (accepted : List ℕ) (m : Memory) (w : World) (core other page : ℕ) → core ≡ LEADER
    → prepared_by k.running core ≡ None → prepared_by k.running other ≡ Some page → IsOf k accepted m w
    → Waits k accepted m w core k m
waits k accepted m w core other page is free hand h = record {
  leader = is;
  free = free;
  was = before_of k accepted m w other page hand h;
  other = other;
  not_leader = λ e. (let same = ap (prepared_by k.running) (is ∙ sym e) in
      let no : None ≡ Some page = sym free ∙ same ∙ hand in cc);
  page = page;
  in_hand = hand;
  same = record { same = refl; memory = refl };
}

pub pauses : (k : Checkpoint) (m : Memory) (core : ℕ) → core ≢ LEADER → prepared_by k.running core ≡ None
    → Pauses k m core k m
pauses k m core other free =
    record { other = other; free = free; same = record { same = refl; memory = refl } }
