use Rattle.std.proofs.Common.{◌≡◌, ◌∙◌, length, false, inl, inr, sym, arith, rules}
use Rattle.std.proofs.lemmas.Bool.{cases_eq, cases_lt}
use Rattle.std.proofs.lemmas.List.{length-set, get_or-set_same, get_or-set_other, get_or_past}
use Rattle.tree_walk.proofs.Past.{past_slots, nothing_changes}
use Rattle.tree_walk.proofs.reached.Reached.changes.Goals as goal

pub loop-number-preserved : goal.loop-number-preserved
loop-number-preserved c =
    let number = c.loop-number.number in
    let changes = c.loop-number.changes in
    record {
      whole = length-set changes number c.changes_at.result ∙ c.loop-number.invariant.whole;
      told = λ rest i tells below. elim (cases_eq i number) [
        | inl here ↦ rw here (get_or-set_same changes number c.changes_at.result false (omega (arith, c.loop-number.invariant.whole)) ∙ c.changes_at.ensures rest tells)
        | inr other ↦ get_or-set_other changes number i c.changes_at.result false other ∙ c.loop-number.invariant.told rest i tells (omega arith)
      ];
    }

pub returns-clause-past : goal.returns-clause-past
returns-clause-past c i past =
    let objects = c.args.objects.now in
    let whole : length objects.slots ≡ 128 = search rules in
    past_slots objects i whole past

pub returns-clause-told : goal.returns-clause-told
returns-clause-told c rest i tells =
    let objects = c.args.objects.now in
    let whole : length objects.slots ≡ 128 = search rules in
    let changes = c.loop-number.changes in
    elim (cases_lt i 128) [
      | inl below ↦ c.loop-number.invariant.told rest i tells (omega (arith, whole))
      | inr above ↦
          get_or_past changes i false (omega (arith, c.loop-number.invariant.whole))
          ∙ sym (nothing_changes objects rest i (returns-clause-past c i (omega arith)))
    ]
