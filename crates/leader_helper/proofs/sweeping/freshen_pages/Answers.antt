use Rattle.std.specs.Prelude.{◌≡◌, ℕ, true, if◌then◌else◌}
use Rattle.std.proofs.Common.{refl, ap, sym, ◌∙◌, arith, inl, inr}
use Rattle.std.proofs.lemmas.Bool.{cases_lt}
use Rattle.sls_base.specs.declared.limits.TheConstants.{OBJECTS}
use Rattle.page_store.specs.Stages.{stage_of}
use Rattle.kobj_table.specs.declared.slot.Slot.{Slot}
use Rattle.kobj_table.specs.Objects.{slot_at}
use Rattle.object_records.specs.Marks.{marked}
use Rattle.leader_helper.specs.Sweep.{freshened, is_zeroed_alone, is_zeroed_below}
use Rattle.leader_helper.proofs.Freshens.{slot_none, slot_step}
use Rattle.leader_helper.proofs.sweeping.freshen_pages.Goals as goal

pub loop-page-init : goal.loop-page-init
loop-page-init c = record {
  slots = λ i below. sym (slot_none (λ page. is_zeroed_alone (stage_of c.args.rooms.now.pages page)) (slot_at c.args.objects.now i));
  past = λ i past. refl;
  links = refl;
  state = λ rest zeros. refl;
}

pub loop-page-preserved : goal.loop-page-preserved
loop-page-preserved c =
    let page = c.loop-page.page in
    let so_far = c.loop-page.invariant in
    let these = λ (p : ℕ). is_zeroed_alone (stage_of c.args.rooms.now.pages p) in
    record {
      slots = λ i below.
          let old = slot_at c.args.objects.now i in
          c.freshen_page.ensures.slots i below
          ∙ ap (λ (slot : Slot). if these page then marked page true slot else slot) (so_far.slots i below)
          ∙ sym (slot_step these page old);
      past = λ i past. c.freshen_page.ensures.past i past ∙ so_far.past i past;
      links = c.freshen_page.ensures.links ∙ so_far.links;
      state = λ rest zeros. c.freshen_page.ensures.state rest zeros ∙ so_far.state rest zeros;
    }

pub returns : goal.returns
returns c =
    let old = c.args.objects.now in
    let done = c.loop-page.invariant in
    let end : c.loop-page.page ≡ 512 = omega arith in
    record {
      slots = λ i. elim (cases_lt i OBJECTS) [
        | inl below ↦ done.slots i below ∙ ap (λ (n : ℕ). freshened (is_zeroed_below c.args.rooms.now n) (slot_at old i)) end
        | inr past ↦
            let empty : slot_at old i ≡ Slot.Empty = c.no_more_slots.ensures i past in
            done.past i past ∙ empty ∙ sym (ap (freshened (is_zeroed_below c.args.rooms.now 512)) empty)
      ];
      links = done.links;
      state = done.state;
    }
