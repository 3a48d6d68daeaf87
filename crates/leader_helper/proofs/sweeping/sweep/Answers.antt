use Rattle.std.specs.Prelude.{◌≡◌, ◌&&◌, not, ℕ, Bool, List, []}
use Rattle.std.proofs.Common.{ap, subst, ◌∙◌, arith}
use Rattle.std.proofs.lemmas.Bool.{lt-ltb}
use Rattle.sls_base.specs.declared.limits.TheConstants.{PAGES}
use Rattle.link_lists.specs.Lists.{list_at}
use Rattle.page_store.specs.Stages.{stage_of}
use Rattle.plain_model.specs.Sweep.{swept}
use Rattle.plain_model.specs.Worlds.{World, has_page}
use Rattle.kobj_table.specs.declared.slot.Slot.{Slot}
use Rattle.kobj_table.specs.Objects.{Rest, slot_at, state_of}
use Rattle.object_records.specs.Pages.{is_content}
use Rattle.object_records.specs.Records.{record_at, record_of}
use Rattle.plain_state.specs.declared.label.Label.{Label}
use Rattle.plain_model.specs.States.{State}
use Rattle.plain_model.specs.Play.{commit}
use Rattle.object_records.specs.Ranges.{IsSoundState}
use Rattle.leader_helper.proofs.Saving.{at_first, can_be_saved}
use Rattle.leader_helper.specs.Sweep.{freshened, is_zeroed_alone, is_zeroed_below}
use Rattle.leader_helper.proofs.Freshens.{and_all}
use Rattle.leader_helper.proofs.Contents.{content_left, rings_in_place}
use Rattle.leader_helper.proofs.Slots.{fixed_kept, strays_kept, untold_kept}
use Rattle.leader_helper.proofs.sweeping.sweep.Goals as goal

-- any rest
nothing : Rest
nothing = record { content = λ page offset. 0; out = λ channel. []; inputs = [] }

pub returns : goal.returns
returns c =
    let old = c.args.objects.now in
    let mid = c.sweep.new.objects in
    let new = c.freshen_pages.new.objects in
    let r = c.args.rooms.now in
    let these = is_zeroed_below r PAGES in
    let slots = λ (rest : Rest) (i : ℕ). c.freshen_pages.ensures.slots i ∙ ap (freshened these) (c.sweep.ensures.left rest i) in
    let reached = (c.reached_is_least.ensures.least (state_of old nothing)).fixed in
    record {
      state = λ rest zeros. c.freshen_pages.ensures.state rest zeros ∙ c.sweep.ensures.state rest;
      slots = λ rest i below. slots rest i;
      threads = λ rest i below. ap (λ (l : List (List ℕ)). list_at l i) c.freshen_pages.ensures.links ∙ c.sweep.ensures.threads rest i below;
      strays = λ none. strays_kept mid new these c.freshen_pages.ensures.slots c.freshen_pages.ensures.links (c.sweep.ensures.strays none);
      fixed = λ fixed. fixed_kept old new (state_of old nothing) these reached (slots nothing) fixed;
      untold = λ untold. untold_kept old new (state_of old nothing) these (slots nothing) untold;
      unswept = λ rest i scheduler none is.
          let told = c.sweep.ensures.told rest i ∙ is in
          ap (λ (slot : Slot). record_of slot (list_at new.links i))
          (c.freshen_pages.ensures.slots i ∙ ap (freshened these) (c.sweep.ensures.slots i told))
          ∙ ap (record_of (freshened these (slot_at old i)))
          (ap (λ (l : List (List ℕ)). list_at l i) c.freshen_pages.ensures.links ∙ c.sweep.ensures.lists scheduler none i told);
      content = λ rest page sound inside fixed.
          let below = lt-ltb page PAGES inside in
          let same : these page ≡ is_zeroed_alone (stage_of r.pages page) = rw below (and_all (is_zeroed_alone (stage_of r.pages page))) in
          content_left old new rest these page sound.apart (rings_in_place old rest sound.fixed fixed) (slots rest)
          ∙ ap (λ (b : Bool). is_content (record_at old) page && has_page (swept (state_of old rest)) page && not b) same;
      saved = λ rest pages w running zeros.
          let s = state_of old rest in
          let first : World = record w { version = 0 } in
          let after = c.worlds_are_sound.ensures.kept first Label.Commit (omega arith) tt (at_first w running.sound) in
          let sound_after : IsSoundState (swept s) = subst (λ (t : State). IsSoundState (swept t)) running.now (c.sound_objects_have_records.ensures.sound (commit first) after).0 in
          let sound : IsSoundState s = subst IsSoundState running.now (c.sound_objects_have_records.ensures.sound w running.sound).0 in
          can_be_saved old new r rest pages w running zeros sound sound_after (c.sweep_is_idempotent.ensures s)
          (c.freshen_pages.ensures.state rest zeros ∙ c.sweep.ensures.state rest)
          (fixed_kept old new (state_of old nothing) these reached (slots nothing) running.slots)
          (strays_kept mid new these c.freshen_pages.ensures.slots c.freshen_pages.ensures.links (c.sweep.ensures.strays running.strays)) (slots rest);
    }
