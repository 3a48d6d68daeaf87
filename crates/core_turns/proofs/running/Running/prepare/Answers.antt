use Rattle.std.specs.Prelude.{◌≡◌, ◌<◌, ℕ, Bool, Option, length, slice_set}
use Rattle.std.proofs.Common.{refl, ap, sym, ◌∙◌, subst, rules}
use Rattle.page_store.specs.declared.stage.PageState.TheVariants.{Fresh}
use Rattle.page_store.specs.Known.{Open}
use Rattle.page_store.specs.Stages.{stage_of, state_at}
use Rattle.kernel_calls.specs.declared.calls.Calls.{Calls}
use Rattle.core_turns.specs.declared.running.Running.{Running}
use Rattle.core_turns.specs.Turns.{Prepares}
use Rattle.core_turns.proofs.Faulting.{fresh_of}
use Rattle.core_turns.proofs.Preparing.{hand_after, TakesStep}
use Rattle.core_turns.proofs.PreparedRuns.{ObjectsRun, rest_then, stale_run, step_prepares, zeroed_run}
use Rattle.core_turns.proofs.running.Running.prepare.Goals.{then-is_done, else-is_done, then-is_fresh, else-is_fresh}
use Rattle.core_turns.proofs.running.Running.prepare.Goals as goal

hand_told : (c : goal.Joined-is_fresh) → c.if-is_done.self ≡ hand_after c.fault_step-is_done.result c.args.page
hand_told c = elim c.if-is_done.branch [
  | then-is_done y ↦ y.self-is ∙ sym (ap (λ (b : Bool). hand_after b c.args.page) y.if-is_done.true)
  | else-is_done y ↦ y.self-is ∙ sym (ap (λ (b : Bool). hand_after b c.args.page) y.if-is_done.false)
]

state_told : (c : goal.Joined-is_fresh) → c.state.result ≡ state_at (stage_of c.args.self.now.rooms.pages c.args.page)
state_told c = c.state.ensures ∙ ap state_at c.page_stage.ensures

pub returns-clause-prepares : goal.returns-clause-prepares
returns-clause-prepares c accepted w h why =
    let k = c.args.self.now in
    let m = c.args.nvm.now in
    let core = c.args.core in
    let page = c.args.page in
    let rooms = c.fault_step-is_done.new.self in
    let next = c.fault_step-is_done.new.nvm in
    let done = c.fault_step-is_done.result in
    let step = c.fault_step-is_done.ensures in
    let with_hand : Calls → Option ℕ → Running =
    λ calls hand. record {
      calls = calls;
      rooms = rooms;
      prepares = slice_set k.prepares core hand;
      saved = k.saved;
    } in
    let then : Calls → Running = λ calls. with_hand calls (hand_after done page) in
    let size : core < length k.prepares = search rules in
    let takes : (calls : Calls) → TakesStep k (then calls) core page done = λ calls. record {
      in_range = c.requires.page;
      may = c.requires.may;
      stage = step.stage;
      stages = step.others;
      last = step.last;
      size = size;
      hands = refl;
    } in
    let prepares : (calls : Calls) → c.if-is_fresh.self ≡ with_hand calls c.if-is_done.self
    → ObjectsRun (then calls) accepted next
    (rest_then k (then calls) accepted m next w h core page done (takes calls) why step.rest (step.shows Open)) w
    h.saved
    → Prepares k accepted m w core page c.if-is_fresh.self next =
    λ calls is run. subst (λ (r : Running). Prepares k accepted m w core page r next)
    (sym (is ∙ ap (with_hand calls) (hand_told c)))
    (step_prepares k (then calls) accepted m next w h core page done (takes calls) why step.rest (step.shows Open)
    refl step.homes step.counts step.one step.operation run) in
    let of_records = c.records_stand_for_objects.ensures.state in
    let zeros = c.fresh_pages_are_zero.ensures.state in
    let decides = c.eq-is_fresh.ensures in
    elim c.if-is_fresh.branch [
      | then-is_fresh x ↦
          (let told : c.state.result ≡ Fresh = search rules in
          let calls = x.mark_page.new.self in
          let marks = x.mark_page.ensures in
          prepares calls x.self-is
          (zeroed_run k (then calls) accepted m next w h core page done (takes calls) why step.rest (step.shows Open)
          of_records zeros (fresh_of (stage_of k.rooms.pages page) (sym (state_told c) ∙ told))
          marks.slots marks.links (λ zero held. marks.holds accepted next _ w zero held)))
      | else-is_fresh x ↦
          (let told : c.state.result ≡ Fresh → ⊥ = λ e. search rules in
          prepares k.calls x.self-is
          (stale_run k (then k.calls) accepted m next w h core page done (takes k.calls) why step.rest (step.shows Open)
          of_records zeros refl (λ e. told (state_told c ∙ ap state_at e))))
    ]
