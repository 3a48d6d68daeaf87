use Rattle.std.proofs.Common.{◌∙◌, sym, ap}
use Rattle.link_lists.specs.Lists.{list_at}
use Rattle.kobj_table.specs.declared.slot.Slot.{Slot}
use Rattle.kobj_table.specs.Slots.{object_of, cores_of}
use Rattle.kobj_table.proofs.States.{same_state}
use Rattle.kobj_table.proofs.Fresh.{no_cores}
use Rattle.kobj_table.proofs.objects.Objects.set_fresh.Goals as goal

pub returns-clause-state : goal.returns-clause-state
returns-clause-state c rest page is zeros =
    let taken = c.take-slot.ensures.taken in
    let emptied = c.take-slot.ensures.empty in
    let puts = c.put.ensures.puts in
    let threads = list_at c.args.self.now.links c.args.id in
    let runs_nothing = ap (λ (s : Slot). cores_of s) c.set_fresh.ensures.memory in
    same_state c.args.self.now c.put.new.self c.args.id rest
    (λ i other. puts.others i other ∙ emptied.others i other)
    (puts.links ∙ emptied.links)
    (rw puts.there (c.set_fresh.ensures.object rest.content threads page (rw taken is) zeros ∙ ap (λ (s : Slot). object_of rest.content s threads) taken))
    (rw puts.there (runs_nothing ∙ sym (no_cores _ c.args.index c.requires.there)))
