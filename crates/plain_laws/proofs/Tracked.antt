-- What wasn't changed since the last commit or cut is as it was saved: each label keeps that.
use Rattle.std.specs.Prelude.{◌≡◌, ◌≢◌, ℕ, ◌+◌, ◌<◌, ◌==◌, ◌||◌, Bool, true, false, List, [], ◌∷◌, Option, Some, None}
use Rattle.std.specs.List.{list_any}
use Rattle.std.proofs.Common.{refl, ◌∙◌, arith, inl, inr}
use Rattle.std.proofs.lemmas.Bool.{eqb-true, eqb-false, ne_eqb}
use Rattle.sls_base.specs.declared.limits.TheConstants.{OBJECTS}
use Rattle.sls_base.specs.declared.fixed.TheConstants.{SCHEDULER, FIRST_OUTPUT_RING}
use Rattle.sls_base.specs.declared.image.Image.{Image}
use Rattle.plain_state.specs.declared.effect.Output.{Output}
use Rattle.plain_state.specs.declared.label.Label.{Label}
use Rattle.plain_model.specs.Objects.{Page}
use Rattle.plain_model.specs.States.{thread_at}
use Rattle.plain_model.specs.Memory.{page_at}
use Rattle.plain_model.specs.Worlds.{World, has_page}
use Rattle.plain_model.specs.Effects.{Effect, Change}
use Rattle.plain_model.specs.Ticks.{Chosen, chosen, effect_for, world_of_effect, puts_on, puts_to_page, puts_to_ring, writes, stores_to}
use Rattle.plain_model.specs.Initial.{IsAccepted, first_world}
use Rattle.plain_model.specs.Play.{after, play, commit, with_input, with_released, next_bytes}
use Rattle.plain_laws.specs.Plays.{Both}
use Rattle.plain_laws.specs.Places.{IsPlaced}
use Rattle.plain_laws.specs.Laws.{AreInRange}
use Rattle.plain_laws.specs.Sound.{HaveForms, NameWhatIs}
use Rattle.plain_laws.specs.Kept.{IsTracked, IsAsSaved, page_of}
use Rattle.sls_base.proofs.ListTests.{or_cases, or_false}
use Rattle.plain_laws.proofs.Changes.{effect_changes, effect_out}
use Rattle.plain_laws.proofs.InRange.{ChangeBelow, stands_below}
use Rattle.plain_laws.proofs.InRangeCalls.{instruction_changes}
use Rattle.plain_laws.proofs.InRangeLabels.{first_below, stays_below}
use Rattle.plain_laws.proofs.PlacedTicks.{taken}
use Rattle.plain_laws.proofs.PlacedLabels.{stays_placed}
use Rattle.plain_laws.proofs.PlacedImages.{first_placed}
use Rattle.plain_laws.proofs.Forms.{stays_formed}
use Rattle.plain_laws.proofs.FormsImages.{first_formed}
use Rattle.plain_laws.proofs.NamesLabels.{stays_named}
use Rattle.plain_laws.proofs.NamesImages.{first_names}
use Rattle.plain_laws.proofs.Pages.{effect_has_page}
use Rattle.plain_laws.proofs.MadePages.{effect_page}
use Rattle.plain_laws.proofs.StoresThere.{instruction_there, stored_page, stored_object, ring_page, ring_object}
use Rattle.plain_laws.proofs.Walk.{kept_after, played}

-- What a tick counts as changed.

-- whether it is that thread, the scheduler or what the effect writes
abbrev pub is_changed_by : Chosen → Effect → ℕ → Bool
is_changed_by c e i = (i == SCHEDULER) || ((i == c.occupant.thread) || writes e i)

pub record IsUnchanged (w : World) (c : Chosen) (e : Effect) (i : ℕ) : Type 0 where
  pub before : w.changed i ≡ false
  pub scheduler : i ≢ SCHEDULER
  pub thread : i ≢ c.occupant.thread
  pub written : writes e i ≡ false

pub unchanged_by : (w : World) (c : Chosen) (e : Effect) (i : ℕ) → (w.changed i || is_changed_by c e i) ≡ false → IsUnchanged w c e i
unchanged_by w c e i h =
    let a = or_false (w.changed i) (is_changed_by c e i) h in
    let b = or_false (i == SCHEDULER) ((i == c.occupant.thread) || writes e i) a.1 in
    let d = or_false (i == c.occupant.thread) (writes e i) b.1 in
    record { before = a.0; scheduler = eqb-false i SCHEDULER b.0; thread = eqb-false i c.occupant.thread d.0; written = d.1 }

-- an entry that isn't put to the ring of a channel isn't put on the channel
pub put_elsewhere : (output : Option Output) (channel : ℕ) → puts_to_ring output (FIRST_OUTPUT_RING + channel) ≡ false → puts_on output channel ≡ false
put_elsewhere None channel e = refl
put_elsewhere (Some output) channel e =
    ne_eqb output.channel channel (λ same. eqb-false (FIRST_OUTPUT_RING + output.channel) (FIRST_OUTPUT_RING + channel) e (omega arith))

pub ring_unput : (e : Effect) (channel : ℕ) → writes e (FIRST_OUTPUT_RING + channel) ≡ false → puts_on e.output channel ≡ false
ring_unput e channel h =
    let i = FIRST_OUTPUT_RING + channel in
    let a = or_false (list_any (λ change. change.id == i) e.changes) (list_any (λ store. store.place.memory == i) e.stores || puts_to_ring e.output i) h in
    let b = or_false (list_any (λ store. store.place.memory == i) e.stores) (puts_to_ring e.output i) a.1 in
    put_elsewhere e.output channel b.1

pub changed_below : (changes : List Change) (i : ℕ) → ChangeBelow changes → list_any (λ change. change.id == i) changes ≡ true → i < OBJECTS
changed_below [] i h e = absurd (cc)
changed_below (change ∷ changes) i h e = elim (or_cases (change.id == i) (list_any (λ other. other.id == i) changes) e) [
  | inl is ↦ (let same = eqb-true change.id i is in let l = h.0 in omega arith)
  | inr is ↦ changed_below changes i h.1 is
]

-- Ticks.

-- what is known of a world at a tick
pub record IsSoundNow (w : World) : Type 0 where
  pub placed : IsPlaced w.now
  pub range : AreInRange w.now
  pub forms : HaveForms w.now
  pub names : NameWhatIs w.now

pub tick_changes_there : (w : World) (core : ℕ) (c : Chosen) → IsSoundNow w → chosen w.now core ≡ Some c → (i : ℕ) → is_changed_by c (effect_for w c) i ≡ true → i < OBJECTS
tick_changes_there w core c sound chose i h =
    let e = effect_for w c in
    let me = c.occupant.thread in
    let t = taken w.now core c chose sound.placed in
    let there = instruction_there w me (thread_at w.now me) sound.forms sound.names in
    elim (or_cases (i == SCHEDULER) ((i == me) || writes e i) h) [
      | inl is ↦ (let same = eqb-true i SCHEDULER is in omega arith)
      | inr h ↦ elim (or_cases (i == me) (writes e i) h) [
        | inl is ↦ (let same = eqb-true i me is in let l = stands_below w.now me t.place sound.placed sound.range t.stood in omega arith)
        | inr h ↦ elim (or_cases (list_any (λ change. change.id == i) e.changes) (list_any (λ store. store.place.memory == i) e.stores || puts_to_ring e.output i) h) [
          | inl h ↦ changed_below e.changes i (instruction_changes w me (thread_at w.now me) sound.placed sound.range) h
          | inr h ↦ elim (or_cases (list_any (λ store. store.place.memory == i) e.stores) (puts_to_ring e.output i) h) [
            | inl h ↦ stored_object w.now e.stores i sound.range there.stores h
            | inr h ↦ ring_object w.now e.output i there.output h
          ]
        ]
      ]
    ]

pub tick_stores_there : (w : World) (core : ℕ) (c : Chosen) → IsSoundNow w → (page : ℕ) → stores_to w.now (effect_for w c) page ≡ true → has_page w.now page ≡ true
tick_stores_there w core c sound page h =
    let e = effect_for w c in
    let me = c.occupant.thread in
    let there = instruction_there w me (thread_at w.now me) sound.forms sound.names in
    elim (or_cases (list_any (λ store. (page_at w.now.objects store.place).number == page) e.stores) (puts_to_page e.output page) h) [
      | inl h ↦ stored_page w.now e.stores page sound.range there.stores h
      | inr h ↦ ring_page w.now e.output page sound.range there.output h
    ]

pub tick_as_saved : (w : World) (core : ℕ) (c : Chosen) → IsTracked w → (i k : ℕ) (page : Page) → page_of (world_of_effect w core c (effect_for w c)).now i k ≡ Some page
    → (w.stored page.number || stores_to w.now (effect_for w c) page.number) ≡ false → IsAsSaved w i k page
tick_as_saved w core c h i k page is unstored =
    let parts = or_false (w.stored page.number) (stores_to w.now (effect_for w c) page.number) unstored in
    elim (effect_page w core c i k page is parts.1) [
      | inl before ↦ h.pages i k page before parts.0
      | inr new ↦ inr new
    ]

pub effect_tracked : (w : World) (core : ℕ) (c : Chosen) → IsSoundNow w → chosen w.now core ≡ Some c → IsTracked w → IsTracked (world_of_effect w core c (effect_for w c))
effect_tracked w core c sound chose h =
    let e = effect_for w c in
    let no_scheduler : (w.changed SCHEDULER || is_changed_by c e SCHEDULER) ≡ false → ⊥ = λ f. (unchanged_by w c e SCHEDULER f).scheduler refl in
    record {
      objects = λ i f. (let u = unchanged_by w c e i f in effect_changes w core c e i u.thread u.written ∙ h.objects i u.before);
      queue = λ f. absurd (no_scheduler f);
      cores = λ f. absurd (no_scheduler f);
      rings = λ channel f. (
          let u = unchanged_by w c e (FIRST_OUTPUT_RING + channel) f in
          effect_out w core c e channel (ring_unput e channel u.written) ∙ h.rings channel u.before);
      pages = λ i k page is unstored. tick_as_saved w core c h i k page is unstored;
      changed = λ i t. elim (or_cases (w.changed i) (is_changed_by c e i) t) [
        | inl before ↦ h.changed i before
        | inr now ↦ tick_changes_there w core c sound chose i now
      ];
      stored = λ page t. elim (or_cases (w.stored page) (stores_to w.now e page) t) [
        | inl before ↦ effect_has_page w core c sound.placed chose page (h.stored page before)
        | inr now ↦ effect_has_page w core c sound.placed chose page (tick_stores_there w core c sound page now)
      ];
    }

-- Labels.

-- nothing is changed since the running state was the saved copy, but for the inputs that wait
pub tracked_anew : (w : World) (inputs : List (List ℕ)) → IsTracked (record w { now = record w.saved { inputs = inputs }; stored = λ page. false; changed = λ i. false })
tracked_anew w inputs = record {
  objects = λ i f. refl;
  queue = λ f. refl;
  cores = λ f. refl;
  rings = λ channel f. refl;
  pages = λ i k page is f. inl is;
  changed = λ i t. absurd (cc);
  stored = λ page t. absurd (cc);
}

-- the inputs that wait and what the device accepted aren't tracked
pub tracked_still : (w : World) (inputs : List (List ℕ)) (released : ℕ → List (List ℕ)) → IsTracked w → IsTracked (record w { now = record w.now { inputs = inputs }; released = released })
unfolding has_page
tracked_still w inputs released h = record {
  objects = h.objects;
  queue = h.queue;
  cores = h.cores;
  rings = h.rings;
  pages = h.pages;
  changed = h.changed;
  stored = h.stored;
}

pub tracked_after : (w : World) (label : Label) → IsSoundNow w → IsTracked w → IsTracked (after w label)
tracked_after w label sound h = kept_after IsTracked (λ label. Unit {0}) w (record {
  ticks = λ core c passes chose. effect_tracked w core c sound chose h;
  commits = λ passes. tracked_anew (commit w) (commit w).now.inputs;
  cuts = λ passes. tracked_anew w [];
  accepts = λ channel passes offered. tracked_still w w.now.inputs (with_released w.released channel (next_bytes w channel)) h;
  inputs = λ bytes passes room. tracked_still w (with_input w.now bytes.items).inputs w.released h;
}) h label tt

-- Plays.

pub first_tracked : (image : Image) (cores : ℕ) → IsTracked (first_world image cores)
first_tracked image cores = tracked_anew (first_world image cores) []

-- what is so of each world that a machine comes to, so that each label keeps the rest
pub record StaysTracked (w : World) : Type 0 where
  pub placed : Both IsPlaced w
  pub range : Both AreInRange w
  pub forms : Both HaveForms w
  pub names : Both NameWhatIs w
  pub tracked : IsTracked w

pub stays_tracked : (w : World) (label : Label) → StaysTracked w → StaysTracked (after w label)
stays_tracked w label h = record {
  placed = stays_placed w label h.placed;
  range = stays_below w label h.placed.0 h.range;
  forms = stays_formed w label h.forms;
  names = stays_named w label h.placed.0 h.range.0 h.names;
  tracked = tracked_after w label (record { placed = h.placed.0; range = h.range.0; forms = h.forms.0; names = h.names.0 }) h.tracked;
}

pub always_tracked : (image : Image) (cores : ℕ) → IsAccepted image → (labels : List Label) → IsTracked (play (first_world image cores) labels)
always_tracked image cores accepted labels =
    let placed = first_placed image cores in
    let range = first_below image cores accepted in
    let forms = first_formed image cores accepted in
    let names = first_names image cores in
    (played StaysTracked stays_tracked (first_world image cores) labels
    (record { placed = (placed, placed); range = (range, range); forms = (forms, forms); names = (names, names); tracked = first_tracked image cores })).tracked
