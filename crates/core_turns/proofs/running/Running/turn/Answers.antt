use Rattle.std.specs.Prelude.{◌≢◌, ℕ, Bool, List, All}
use Rattle.std.proofs.Common.{ap, sym, subst, inr, refl, ◌∙◌}
use Rattle.pmem_model.specs.Memory.{word_at}
use Rattle.call_readings.specs.Need.{has_page}
use Rattle.page_store.specs.declared.stage.PageState.TheVariants.{Preparing, Writable}
use Rattle.page_store.specs.Stages.{stage_of, state_of}
use Rattle.kernel_calls.specs.Needed.{IsFreshPage}
use Rattle.core_turns.specs.declared.turn.Turn.{Turn}
use Rattle.core_turns.specs.Turns.{Goes, IsPreparedOf, IsUnwritableOf, IsWritable}
use Rattle.core_turns.specs.Runs.{objects_of}
use Rattle.core_turns.proofs.Needs.{all_home, begins, first_may, needs, none_fresh, stored_below, stored_told}
use Rattle.core_turns.proofs.Needs.{stored_writable, told_below, told_by, touched_at_hand, waits}
use Rattle.core_turns.proofs.Noted.{noted}
use Rattle.core_turns.proofs.Ticked.{ticks}
use Rattle.core_turns.proofs.running.Running.turn.Goals as goal

-- It waits.

pub returns-in-Some-first_in_hand : goal.returns-in-Some-first_in_hand
returns-in-Some-first_in_hand c = record {
  goes = λ w h.
      let k = c.args.self.now in
      let accepted = c.args.accepted.now in
      let m = c.args.nvm.now in
      let core = c.args.core in
      let touched = c.need-need.result.touched.items in
      let stored = c.need-need.result.stored.items in
      let told = c.need-need.ensures in
      let need = needs k accepted m w h core touched stored told.touched told.stored told.in_range told.among in
      let found = c.in-Some-first_in_hand in
      waits k accepted m w h core touched stored need found.page found.other c.in_default.is
      (subst (λ (pages : List ℕ). IsPreparedOf k pages found.page found.other) c.deref.ensures.0 found.ensures.some);
}

-- It prepares a page first.

pub first_unwritable-requires : goal.first_unwritable-requires
first_unwritable-requires c =
    let k = c.args.self.now in
    let accepted = c.args.accepted.now in
    let m = c.args.nvm.now in
    let w = c.requires.runs.world in
    let h = c.requires.runs.runs in
    let core = c.args.core in
    let touched = c.need-need.result.touched.items in
    let stored = c.need-need.result.stored.items in
    let told = c.need-need.ensures in
    let need = needs k accepted m w h core touched stored told.touched told.stored told.in_range told.among in
    stored_below k accepted m w h core touched c.deref-2.result.now
    (told_by w core touched stored touched c.deref-2.result.now refl c.deref-2.ensures.0 need)

pub prepare-requires-in-Some-first_unwritable-clause-page :
    goal.prepare-requires-in-Some-first_unwritable-clause-page
prepare-requires-in-Some-first_unwritable-clause-page c =
    let k = c.args.self.now in
    let accepted = c.args.accepted.now in
    let m = c.args.nvm.now in
    let w = c.requires.runs.world in
    let h = c.requires.runs.runs in
    let core = c.args.core in
    let touched = c.need-need.result.touched.items in
    let stored = c.need-need.result.stored.items in
    let told = c.need-need.ensures in
    let need = told_by w core touched stored touched c.deref-2.result.now refl c.deref-2.ensures.0
    (needs k accepted m w h core touched stored told.touched told.stored told.in_range told.among) in
    let page = c.in-Some-first_unwritable.page in
    told_below k accepted m w h core touched c.deref-2.result.now need page
    (stored_told k accepted m w h core touched c.deref-2.result.now need page c.in-Some-first_unwritable.ensures.some.among)

pub prepare-requires-in-Some-first_unwritable-clause-may :
    goal.prepare-requires-in-Some-first_unwritable-clause-may
prepare-requires-in-Some-first_unwritable-clause-may c =
    let k = c.args.self.now in
    let accepted = c.args.accepted.now in
    let m = c.args.nvm.now in
    let w = c.requires.runs.world in
    let h = c.requires.runs.runs in
    let core = c.args.core in
    let touched = c.need-need.result.touched.items in
    let stored = c.need-need.result.stored.items in
    let told = c.need-need.ensures in
    let need = told_by w core touched stored c.deref.result.now c.deref-2.result.now c.deref.ensures.0 c.deref-2.ensures.0
    (needs k accepted m w h core touched stored told.touched told.stored told.in_range told.among) in
    let page = c.in-Some-first_unwritable.page in
    first_may k accepted m w h core c.deref.result.now c.deref-2.result.now need c.in_default-first_in_hand.ensures.none
    page c.in-Some-first_unwritable.ensures.some

pub returns-in-Some-first_unwritable : goal.returns-in-Some-first_unwritable
returns-in-Some-first_unwritable c = record {
  goes = λ w h.
      let k = c.args.self.now in
      let accepted = c.args.accepted.now in
      let m = c.args.nvm.now in
      let core = c.args.core in
      let touched = c.need-need.result.touched.items in
      let stored = c.need-need.result.stored.items in
      let told = c.need-need.ensures in
      let need = told_by w core touched stored c.deref.result.now c.deref-2.result.now c.deref.ensures.0 c.deref-2.ensures.0
      (needs k accepted m w h core touched stored told.touched told.stored told.in_range told.among) in
      let page = c.in-Some-first_unwritable.page in
      let why = begins k accepted m w h core c.deref.result.now c.deref-2.result.now need
      c.in_default-first_in_hand.ensures.none page c.in_default.is c.in-Some-first_unwritable.ensures.some in
      let step = c.prepare-in-Some-first_unwritable in
      subst (λ (told : Turn). Goes k accepted m w core told step.new.self step.new.nvm) (sym step.ensures.told)
      (step.ensures.prepares accepted w h (inr why));
}

-- It does its tick.

pub note_stores-requires-clause-in_range : goal.note_stores-requires-clause-in_range
note_stores-requires-clause-in_range c =
    let k = c.args.self.now in
    let accepted = c.args.accepted.now in
    let m = c.args.nvm.now in
    let w = c.requires.runs.world in
    let h = c.requires.runs.runs in
    let core = c.args.core in
    let touched = c.need-need.result.touched.items in
    let stored = c.need-need.result.stored.items in
    let told = c.need-need.ensures in
    let need = needs k accepted m w h core touched stored told.touched told.stored told.in_range told.among in
    stored_below k accepted m w h core touched c.deref-3.result.now
    (told_by w core touched stored touched c.deref-3.result.now refl c.deref-3.ensures.0 need)

pub tick-requires-clause-prepared : goal.tick-requires-clause-prepared
tick-requires-clause-prepared c = λ world rest holds.
    let k = c.args.self.now in
    let accepted = c.args.accepted.now in
    let m = c.args.nvm.now in
    let w = c.requires.runs.world in
    let h = c.requires.runs.runs in
    let core = c.args.core in
    let touched = c.need-need.result.touched.items in
    let stored = c.need-need.result.stored.items in
    let told = c.need-need.ensures in
    let need = needs k accepted m w h core touched stored told.touched told.stored told.in_range told.among in
    let ready = subst (λ (pages : List ℕ). All (λ page. IsWritable k page) pages) c.deref-2.ensures.0
    c.in_default-first_unwritable.ensures.none in
    told.prepared world rest holds (all_home k accepted m w h core touched need.in_range)
    (none_fresh k accepted m w h core touched stored need ready)

pub returns : goal.returns
returns c = record {
  goes = λ w h.
      let k = c.args.self.now in
      let accepted = c.args.accepted.now in
      let m = c.args.nvm.now in
      let core = c.args.core in
      let touched = c.need-need.result.touched.items in
      let stored = c.need-need.result.stored.items in
      let told = c.need-need.ensures in
      let need = needs k accepted m w h core touched stored told.touched told.stored told.in_range told.among in
      let ready = subst (λ (pages : List ℕ). All (λ page. IsWritable k page) pages) c.deref-2.ensures.0
      c.in_default-first_unwritable.ensures.none in
      let none = subst (λ (pages : List ℕ). All (λ page. (other : ℕ) → state_of k.rooms.pages page ≢ Preparing other) pages)
      c.deref.ensures.0 c.in_default-first_in_hand.ensures.none in
      let marks = λ (page : ℕ). c.note_stores.ensures.stages page
      ∙ ap (λ (pages : List ℕ). noted (has_page pages page) (stage_of k.rooms.pages page)) c.deref-3.ensures.0
      ∙ ap (λ (b : Bool). noted b (stage_of k.rooms.pages page)) (need.stores_are page) in
      let ticked = c.tick.ensures in
      let after = ticked.holds w h.rest h.holds in
      let rest = c.note_stores.ensures.at_rest (word_at m) w.version h.saved h.pages h.at_rest in
      ticks k accepted m w h core c.note_stores.new.rooms c.tick.new.self c.tick.new.nvm after.0 marks
      (stored_writable k accepted m w h core touched stored need ready) after.1 (ticked.words w h.rest h.holds) ticked.untold
      (λ i same. ticked.unchanged w h.rest i h.holds same) c.stored_pages_run.ensures rest.0 rest.1 c.tick.result
      c.in_default.is (touched_at_hand k accepted m w h core touched stored need none)
      (sym (ticked.reply w h.rest h.holds)) ticked.idle;
}
