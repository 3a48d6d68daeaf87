-- How many objects that changed have a record at some stage.
use Rattle.std.specs.Prelude.{◌≡◌, ◌≢◌, ◌+◌, ◌<◌, ◌&&◌, ℕ, Bool, true, false}
use Rattle.std.proofs.Common.{◌∙◌, ap, inl, inr, refl, sym}
use Rattle.std.proofs.lemmas.Bool.{cases_eq}
use Rattle.sls_base.specs.declared.limits.TheConstants.{OBJECTS}
use Rattle.alloc_journal.specs.Sets.{count_of}
use Rattle.alloc_journal.proofs.SetLemmas.{count_less, count_none, count_same}
use Rattle.object_root.specs.declared.stage.Stage.{Stage as RecordStage}

both : (a b : Bool) → a ≡ true → b ≡ true → (a && b) ≡ true
both true b left right = right
both false b left right = absurd (cc)

not_both : (a b : Bool) → (a ≡ true → b ≡ false) → (a && b) ≡ false
not_both true b h = h refl
not_both false b h = refl

abbrev pub counted : (ℕ → Bool) → (ℕ → RecordStage) → (RecordStage → Bool) → ℕ
counted changed stages so = count_of (λ id. changed id && so (stages id)) OBJECTS

pub one_less : (changed : ℕ → Bool) (old new : ℕ → RecordStage) (so : RecordStage → Bool) (id : ℕ) → id < OBJECTS
    → changed id ≡ true → so (old id) ≡ true → so (new id) ≡ false → ((i : ℕ) → i ≢ id → new i ≡ old i)
    → counted changed old so ≡ counted changed new so + 1
one_less changed old new so id inside is set clear others =
    count_less (λ i. changed i && so (old i)) (λ i. changed i && so (new i)) id OBJECTS inside (both _ _ is set)
    (not_both _ _ (λ e. clear)) (λ i lt ne. ap (λ (stage : RecordStage). changed i && so stage) (others i ne))

pub as_many : (changed : ℕ → Bool) (old new : ℕ → RecordStage) (so : RecordStage → Bool) (id : ℕ)
    → so (old id) ≡ so (new id) → ((i : ℕ) → i ≢ id → new i ≡ old i)
    → counted changed old so ≡ counted changed new so
as_many changed old new so id same others =
    count_same (λ i. changed i && so (new i)) (λ i. changed i && so (old i)) OBJECTS (λ i lt. elim (cases_eq i id) [
      | inl e ↦
          let here : so (old i) ≡ so (new i) = ap (λ (k : ℕ). so (old k)) e ∙ same ∙ ap (λ (k : ℕ). so (new k)) (sym e) in
          ap (λ (b : Bool). changed i && b) here
      | inr ne ↦ ap (λ (stage : RecordStage). changed i && so stage) (sym (others i ne))
    ])

pub all_as_many : (changed : ℕ → Bool) (old new : ℕ → RecordStage) (so : RecordStage → Bool)
    → ((i : ℕ) → new i ≡ old i) → counted changed old so ≡ counted changed new so
all_as_many changed old new so same =
    count_same (λ i. changed i && so (new i)) (λ i. changed i && so (old i)) OBJECTS
    (λ i lt. ap (λ (stage : RecordStage). changed i && so stage) (sym (same i)))

pub none_left : (changed : ℕ → Bool) (stages : ℕ → RecordStage) (so : RecordStage → Bool)
    → ((i : ℕ) → i < OBJECTS → changed i ≡ true → so (stages i) ≡ false) → counted changed stages so ≡ 0
none_left changed stages so none =
    count_none (λ i. changed i && so (stages i)) OBJECTS (λ i lt. not_both _ _ (none i lt))
