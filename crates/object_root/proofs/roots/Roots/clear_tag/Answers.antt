use Rattle.std.proofs.Common.{inl, ◌≡◌, ℕ, ◌+◌, ◌<◌, ◌≤◌, ◌∙◌, sym, ap, subst, arith, refl, ⊎_elim, [], ◌∷◌, slice_index}
use Rattle.std.proofs.lemmas.Bool.{cases_lt}
use Rattle.pmem_model.specs.Events.{calm_same}
use Rattle.pmem_model.specs.Memory.{word_at}
use Rattle.pmem_layout.specs.declared.places.TheConstants.{OBJECT_TAGS_AT}
use Rattle.object_root.proofs.Owners.{burst_stores, calm_stores}
use Rattle.object_root.specs.declared.stage.Phase.TheVariants.{Clearing}
use Rattle.object_root.specs.Room.{Room}
use Rattle.object_root.proofs.Clears.{tag_owner_at, tag_cleared, tag_kept, clear_spares}
use Rattle.object_root.proofs.Steps.{shows_in, show_in, calm_spares}
use Rattle.object_root.proofs.roots.Roots.clear_tag.Goals as goal
use Rattle.object_root.proofs.roots.Roots.clear_tag.Goals.{then-is_above, else-is_above}

pub returns-clause-rest : goal.returns-clause-rest
returns-clause-rest c =
    elim c.if-is_above.branch [
      | then-is_above w ↦ rw w.nvm-is (burst_stores w.store.ensures.words
          (λ j l. tag_owner_at c.args.tag j c.requires.tag l))
      | else-is_above w ↦ rw w.nvm-is (calm_stores (record {
        at = λ i. calm_same (word_at c.args.nvm.now i)
            (word_at c.args.nvm.now i) refl;
      }))
    ]

pub returns-clause-operation : goal.returns-clause-operation
returns-clause-operation c =
    elim c.if-is_above.branch [
      | then-is_above w ↦ rw w.nvm-is w.store.ensures.operation
      | else-is_above w ↦ rw w.nvm-is (inl (λ i. refl))
    ]

pub returns-clause-shows : goal.returns-clause-shows
returns-clause-shows c = λ v saved next h.
    let f = word_at c.args.nvm.now in
    let tag = c.args.tag in
    let version : c.self.inside.version ≡ v = ap (λ (r : Room). r.version) c.self.view_is ∙ h.version in
    let word = c.from_word.ensures.read ∙ c.read.ensures in
    let clear = shows_in (Clearing tag) c.requires.phase h in
    show_in (Clearing (tag + 1)) c.pass.ensures.phase (c.pass.ensures.version ∙ h.version)
    (elim c.if-is_above.branch [
      | then-is_above w ↦ rw w.nvm-is (
          let up = rw word at (c.is_above.ensures.0 w.if-is_above.true) in
          let above : v + 1 < (f (OBJECT_TAGS_AT + tag)).cached = omega (arith, up, version) in
          tag_cleared c.args.self.now c.pass.new.self f (word_at w.store.new.nvm) v tag saved
          (slice_index (_ ∷ [])) c.pass.ensures.stages
          c.requires.tag w.store.ensures.words refl above clear)
      | else-is_above w ↦ rw w.nvm-is (
          let low : (f (OBJECT_TAGS_AT + tag)).cached ≤ v + 1 = ⊎_elim
          (λ (up : v + 1 < (f (OBJECT_TAGS_AT + tag)).cached).
          let yes = c.is_above.ensures.1 (subst (λ (x : ℕ). c.self.inside.version + 1 < x) (sym word)
          (omega (arith, up, version))) in absurd cc)
          (λ (le : (f (OBJECT_TAGS_AT + tag)).cached ≤ v + 1). le)
          (cases_lt (v + 1) (f (OBJECT_TAGS_AT + tag)).cached) in
          tag_kept c.args.self.now c.pass.new.self f v tag saved c.pass.ensures.stages low clear)
    ])

pub returns-clause-spared : goal.returns-clause-spared
returns-clause-spared c = λ v saved next h.
    let f = word_at c.args.nvm.now in
    let version : c.self.inside.version ≡ v = ap (λ (r : Room). r.version) c.self.view_is ∙ h.version in
    elim c.if-is_above.branch [
      | then-is_above w ↦ rw w.nvm-is (
          let up = rw (c.from_word.ensures.read ∙ c.read.ensures) at (c.is_above.ensures.0 w.if-is_above.true) in
          clear_spares f (word_at w.store.new.nvm) v c.args.tag
          (slice_index (_ ∷ [])) c.requires.tag w.store.ensures.words (omega (arith, up, version)))
      | else-is_above w ↦ rw w.nvm-is (calm_spares f f v (record { at = λ i. calm_same (f i) (f i) refl }))
    ]
