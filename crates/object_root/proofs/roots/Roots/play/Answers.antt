use Rattle.std.proofs.Common.{sym, subst, List}
use Rattle.std.proofs.lemmas.List.{take_more}
use Rattle.pmem_model.specs.Memory.{word_at}
use Rattle.object_root.specs.declared.play.Turn.{Turn}
use Rattle.object_root.specs.Turns.{Plays, unplayed, played}
use Rattle.object_root.proofs.roots.Roots.play.Goals as goal

pub loop-turn-init : goal.loop-turn-init
loop-turn-init c = (c.requires, (λ i all idle. idle), (λ v saved next fits h. h), unplayed)

pub loop-turn-preserved : goal.loop-turn-preserved
loop-turn-preserved c =
    let at = c.loop-turn.turn-index in
    let kept = c.loop-turn.invariant in (
      c.happen.ensures.home,
      (λ i off idle. c.happen.ensures.idle i (off at _ c.loop-turn-test.true) (kept.1 i off idle)),
      (λ v saved next fits h. c.happen.ensures.shows v saved next (fits at _ c.loop-turn-test.true)
          (kept.2 v saved next fits h)),
      subst (λ (turns : List Turn). Plays c.args.self.now (word_at c.args.nvm.now) turns c.happen.new.self
          (word_at c.happen.new.nvm))
          (sym (take_more c.args.turns.now at _ c.loop-turn-test.true)) (played _ kept.3 c.happen.ensures.happens),
    )
