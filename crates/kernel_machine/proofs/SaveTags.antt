-- Behind a commit no page has a slot of the version, but those that are fresh.
use Rattle.std.specs.Prelude.{◌≡◌, ◌↔◌, ℕ, ◌<◌, ◌==◌, Bool, true, false, List, [], ◌∷◌, Option, Some, None, is_some}
use Rattle.std.specs.List.{list_any}
use Rattle.std.proofs.Common.{refl, ap, sym, ◌∙◌, arith, inl, inr}
use Rattle.std.proofs.Math.Path.{fun_ext}
use Rattle.std.proofs.lemmas.Bool.{cases_Bool, cases_lt, eqb-true}
use Rattle.std.proofs.lemmas.List.Folds.{Any-from_list_any}
use Rattle.sls_base.specs.declared.limits.TheConstants.{OBJECTS, PAGES, VERSION_AT}
use Rattle.pmem_model.specs.Words.{Word}
use Rattle.pmem_model.specs.Events.{Left}
use Rattle.pmem_model.specs.Memory.{Memory, word_at}
use Rattle.pmem_layout.specs.declared.number.Number.TheVariants.{Object}
use Rattle.pmem_layout.specs.declared.places.TheConstants.{NUMBERS}
use Rattle.pmem_layout.specs.Numbers.{index_of}
use Rattle.pmem_layout.specs.Places.{runtime_frame}
use Rattle.plain_model.specs.Objects.{every_object, page_numbers}
use Rattle.plain_state.specs.States.{State}
use Rattle.plain_state.specs.Worlds.{World, has_page}
use Rattle.plain_laws.specs.Sound.{AreApart}
use Rattle.kobj_codec.specs.declared.obj.Obj.{Obj}
use Rattle.object_records.specs.Pages.{is_content}
use Rattle.page_store.specs.declared.stage.PageStage.TheVariants as stages
use Rattle.page_store.specs.declared.store.PageStore.{PageStore}
use Rattle.page_store.specs.Known.{Open, Phase}
use Rattle.page_store.specs.Shows.{PagesShow}
use Rattle.page_store.specs.Slots.{IsFrameClean, IsUntagged, Slot}
use Rattle.page_store.specs.Stages.{stage_of}
use Rattle.durable_state.specs.Parts.{Parts, PartsStand}
use Rattle.version_rooms.specs.declared.rooms.Rooms.{Rooms}
use Rattle.leader_helper.specs.declared.leader.Leader.{Leader}
use Rattle.leader_helper.specs.Leads.{IsApplying}
use Rattle.checkpoint_turns.specs.declared.checkpoint.Checkpoint.{Checkpoint}
use Rattle.checkpoint_turns.specs.Checkpoints.{IsBehind}
use Rattle.checkpoint_turns.proofs.LeadBehind.{pages_show, saved_not_fresh}
use Rattle.checkpoint_turns.proofs.LeadStages.{still_either}
use Rattle.machine_contract.specs.Shown.{durable_of}
use Rattle.kernel_machine.specs.Formats.{HaveContent, IsTagged}
use Rattle.kernel_machine.specs.Sides.{writable_by}
use Rattle.kernel_machine.proofs.SaveSides.{none_writable_at}
use Rattle.kernel_machine.proofs.SaveStages.{committed_unwritable}

-- Laws of the crates below: no slot of a protected page has the tag of the version, words say one thing alone at a
-- version, and what is durable behind a commit says the version that was saved.
pub record TagLaws : Type 0 where
  pub protected : (s : PageStore) (f : ℕ → Word) (v : ℕ) (saved now : ℕ → Option (ℕ → ℕ)) (phase : Phase) (page : ℕ)
      → page < PAGES → stage_of s page ≡ stages.Protected → PagesShow s f v saved now phase
      → IsFrameClean f (runtime_frame page) × ((slot : Slot) → IsUntagged f page slot v)
  pub numbers : (words : ℕ → ℕ) (v : ℕ) (p q : Parts) → PartsStand words v p → PartsStand words v q
      → (n : ℕ) → n < NUMBERS → p.numbers n ≡ q.numbers n
  pub objects : (words : ℕ → ℕ) (v : ℕ) (p q : Parts) → PartsStand words v p → PartsStand words v q
      → (id : ℕ) (o r : Obj) → id < OBJECTS → p.objects id ≡ Some o → q.objects id ≡ Some r → o ≡ r
  pub left : (l : Leader) (r : Rooms) (f : ℕ → Word) (left : ℕ → ℕ) (v : ℕ) (saved : Parts)
      (pages : ℕ → Option (ℕ → ℕ)) → ((i : ℕ) → Left (f i) (left i)) → IsApplying l r f v saved pages
      → (left VERSION_AT ≡ v) × PartsStand left v saved

-- Pages of a state are in range.

none_of : (p : ℕ → Bool) (xs : List ℕ) → ((x : ℕ) → p x ≡ false) → list_any p xs ≡ false
none_of p [] h = refl
none_of p (x ∷ xs) h = rw (h x, none_of p xs h) refl

has_in_range : (s : State) (page : ℕ) → AreApart s → has_page s page ≡ true → page < PAGES
unfolding has_page
has_in_range s page apart has = elim (cases_lt page PAGES) [
  | inl below ↦ below
  | inr past ↦
      let none = none_of (λ i. list_any (λ number. number == page) (page_numbers (s.objects i))) every_object
      (λ i. elim (cases_Bool (list_any (λ number. number == page) (page_numbers (s.objects i)))) [
        | inl there ↦
            let w = Any-from_list_any (λ (number : ℕ). number == page) (page_numbers (s.objects i)) there in
            let is : w.1 ≡ page = eqb-true _ _ w.4 in
            let inside = apart.in_range i w.1 (w.0, w.2, w.3) in
            absurd (omega (arith, is, inside, past))
        | inr nowhere ↦ nowhere
      ]) in
      absurd (let no : true ≡ false = sym has ∙ none in cc)
]

-- Objects of two parts that stand at one version.

same_object : (a b : Option Obj) → is_some a ≡ is_some b → ((o r : Obj) → a ≡ Some o → b ≡ Some r → o ≡ r) → a ≡ b
same_object None None some one = refl
same_object None (Some r) some one = absurd (cc)
same_object (Some o) None some one = absurd (cc)
same_object (Some o) (Some r) some one = ap Some (one o r refl refl)

module _ (laws : TagLaws) (n : Checkpoint) (accepted : List ℕ) (m : Memory) (w : World)
    (h : IsBehind n accepted m w) where
  abbrev durable : ℕ → ℕ
  durable = durable_of (word_at m)

  stand : PartsStand durable w.version h.saved
  stand =
      (laws.left n.leader n.running.rooms (word_at m) durable w.version h.saved h.pages (λ i. inl refl) h.applying).1

  module _ (page : ℕ) (told : HaveContent durable w.version page) where
    same_at : (id : ℕ) → told.parts.objects id ≡ h.saved.objects id
    same_at id = elim (cases_lt id OBJECTS) [
      | inl below ↦
          let within : index_of (Object id) < NUMBERS = omega (arith, below) in
          let numbers =
          laws.numbers durable w.version told.parts h.saved told.stand stand (index_of (Object id)) within in
          same_object (told.parts.objects id) (h.saved.objects id)
          (sym (told.used id below) ∙ numbers ∙ h.are.used_objects id below)
          (λ o r. laws.objects durable w.version told.parts h.saved told.stand stand id o r below)
      | inr past ↦ told.none id past ∙ sym (h.are.none id past)
    ]

    saved_has : is_content h.saved.objects page ≡ true
    saved_has =
        ap (λ (objects : ℕ → Option Obj). is_content objects page) (sym (fun_ext same_at)) ∙ told.content

    not_fresh : page < PAGES → stage_of n.running.rooms.pages page ≡ stages.Fresh → ⊥
    not_fresh below =
        saved_not_fresh (stage_of n.running.rooms.pages page) (word_at m) w.version page (h.saved.pages page)
        (h.pages page) Open (h.are.pages.each page below ∙ saved_has) ((pages_show n accepted m w h).each page below)

  untagged : (page : ℕ) → page < PAGES → IsTagged durable w.version page → ⊥
  untagged page below tagged = elim (still_either (stage_of n.running.rooms.pages page) (h.stages page below)) [
    | inl fresh ↦ not_fresh page tagged.content below fresh
    | inr there ↦
        let shown =
        laws.protected n.running.rooms.pages (word_at m) w.version h.saved.pages h.pages Open page below
        there (pages_show n accepted m w h) in
        (shown.1 tagged.slot).1 tagged.tagged
  ]

  -- Behind a commit the pages that may be stored to are those with such a slot: none is either.
  pub renewed : (page : ℕ) → (writable_by n.running page ≡ true)
      ↔ ((has_page w.now page ≡ true) × IsTagged durable w.version page)
  renewed page = (
    λ writable.
        let none = none_writable_at n.running page
        (λ below. committed_unwritable (stage_of n.running.rooms.pages page) (h.stages page below)) in
        absurd (let no : true ≡ false = sym writable ∙ none in cc),
    λ told. absurd (untagged page (has_in_range w.now page h.just.sound.apart.0 told.0) told.1),
  )
