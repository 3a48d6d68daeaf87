-- By a step of the page that it has in hand a core goes on with it.
use Rattle.std.specs.Prelude.{◌≡◌, ℕ, Bool, Option, slice_set}
use Rattle.std.proofs.Common.{refl, ap, sym, ◌∙◌, subst}
use Rattle.pmem_model.specs.Memory.{word_at}
use Rattle.page_store.specs.Known.{Open}
use Rattle.version_rooms.specs.declared.rooms.Rooms.{Rooms}
use Rattle.core_turns.specs.Runs.{objects_of}
use Rattle.core_turns.proofs.Preparing.{TakesStep, hand_after}
use Rattle.checkpoint_turns.specs.declared.checkpoint.Checkpoint.{Checkpoint}
use Rattle.checkpoint_turns.specs.Checkpoints.{contents_of}
use Rattle.checkpoint_turns.specs.Steps.{Prepares}
use Rattle.checkpoint_turns.proofs.LeadBefore.{led_on}
use Rattle.checkpoint_turns.proofs.PrepareGoes.{at_rest, before_of, gathers, in_range, is_held, may_fault, prepares}
use Rattle.checkpoint_turns.proofs.PrepareGoes.{shows_open}
use Rattle.checkpoint_turns.proofs.checkpoint.Checkpoint.prepare.Goals.{then-is_done, else-is_done}
use Rattle.checkpoint_turns.proofs.checkpoint.Checkpoint.prepare.Goals as goal

pub fault_step-is_done-requires-clause-rest : goal.fault_step-is_done-requires-clause-rest
fault_step-is_done-requires-clause-rest c =
    let k = c.args.self.now in
    let flight = c.requires.in_flight in
    let m = c.args.nvm.now in
    let w = flight.1.world in
    let h = before_of k flight.0 m w c.args.core c.args.page c.requires.in_hand flight.1.is_of in
    at_rest k flight.0 m w h c.args.core c.args.page c.requires.in_hand

pub fault_step-is_done-requires-clause-page : goal.fault_step-is_done-requires-clause-page
fault_step-is_done-requires-clause-page c =
    let k = c.args.self.now in
    let flight = c.requires.in_flight in
    let m = c.args.nvm.now in
    let w = flight.1.world in
    let h = before_of k flight.0 m w c.args.core c.args.page c.requires.in_hand flight.1.is_of in
    in_range k flight.0 m w h c.args.core c.args.page c.requires.in_hand

pub fault_step-is_done-requires-clause-home : goal.fault_step-is_done-requires-clause-home
fault_step-is_done-requires-clause-home c =
    let flight = c.requires.in_flight in
    let h = before_of c.args.self.now flight.0 c.args.nvm.now flight.1.world c.args.core c.args.page c.requires.in_hand
    flight.1.is_of in
    h.home

pub fault_step-is_done-requires-clause-may : goal.fault_step-is_done-requires-clause-may
fault_step-is_done-requires-clause-may c =
    let k = c.args.self.now in
    let flight = c.requires.in_flight in
    let m = c.args.nvm.now in
    let w = flight.1.world in
    let h = before_of k flight.0 m w c.args.core c.args.page c.requires.in_hand flight.1.is_of in
    may_fault k flight.0 m w h c.args.core c.args.page c.requires.in_hand

pub returns : goal.returns
returns c =
    let size = is_held c.args.self.now.running.prepares c.args.core c.args.page c.requires.in_hand in
    let told : c.if-is_done.self ≡ hand_after c.fault_step-is_done.result c.args.page =
    elim c.if-is_done.branch [
      | then-is_done y ↦ y.self-is ∙ sym (ap (λ (b : Bool). hand_after b c.args.page) y.if-is_done.true)
      | else-is_done y ↦ y.self-is ∙ sym (ap (λ (b : Bool). hand_after b c.args.page) y.if-is_done.false)
    ] in record {
      goes = λ accepted w is.
          let k = c.args.self.now in
          let m = c.args.nvm.now in
          let core = c.args.core in
          let page = c.args.page in
          let hand = c.requires.in_hand in
          let rooms = c.fault_step-is_done.new.self in
          let next = c.fault_step-is_done.new.nvm in
          let done = c.fault_step-is_done.result in
          let step = c.fault_step-is_done.ensures in
          let h = before_of k accepted m w core page hand is in
          let with_hand : Option ℕ → Checkpoint =
          λ own. led_on k k.leader rooms (slice_set k.running.prepares core own) in
          let takes : TakesStep k.running (with_hand (hand_after done page)).running core page done = record {
            in_range = in_range k accepted m w h core page hand;
            may = may_fault k accepted m w h core page hand;
            stage = step.stage;
            stages = step.others;
            last = step.last;
            size = size;
            hands = refl;
          } in
          let gathered = gathers k accepted m w h core page hand in
          let law = c.gathering.ensures in
          let contents = contents_of h.saved (objects_of k.running) h.pages in
          let shows = step.shows Open w.version contents (shows_open k accepted m w h core page hand) in
          let writing = law.fault k.leader k.running.rooms rooms (word_at m) (word_at next) w.version contents page core
          h.writing gathered step.rest step.stage step.others shows in
          let left = law.left k.leader k.running.rooms rooms page core gathered step.rest step.stage step.others in
          subst (λ (own : Option ℕ). Prepares k accepted m w core page (with_hand own) next) (sym told)
          (prepares k accepted m w h core page hand rooms (slice_set k.running.prepares core (hand_after done page))
          done takes next (ap (λ (r : Rooms). r.numbers.running) step.rest) writing left step.homes step.counts step.one
          step.operation c.records_stand_for_objects.ensures.state c.fresh_pages_are_zero.ensures.state);
    }
