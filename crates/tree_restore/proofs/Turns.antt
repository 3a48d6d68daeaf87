-- How many turns are left.
use Rattle.std.proofs.Common.{◌≡◌, ◌∙◌, ◌+◌, ◌-◌, ◌*◌, ◌≤◌, ℕ, false, true, ap, arith, inl, inr, refl}
use Rattle.pmem_model.specs.Words.{Word}
use Rattle.alloc_journal.specs.declared.journal.Stage.{Stage}
use Rattle.alloc_journal.specs.declared.journal.Stage.TheVariants as logs
use Rattle.alloc_journal.specs.Work.{Work, is_redo, redo_left, redo_left_at}
use Rattle.alloc_journal.specs.Steps.{Redoes, RedoesAt}
use Rattle.object_root.specs.Steps.{steps_left as tags_left}
use Rattle.page_store.specs.declared.recovery.Recovery.{Recovery as PageRecovery}
use Rattle.std.proofs.lemmas.Bool.{cases_Bool}
use Rattle.page_store.specs.Back.{is_back, steps_behind, steps_left as pages_left}
use Rattle.tree_restore.specs.declared.recovery.Recovery.{Recovery}
use Rattle.tree_restore.specs.Restores.{turns_left}

-- turns of the log
pub none_to_redo : (stage : Stage) (entries : ℕ) → is_redo stage ≡ false → redo_left_at stage entries ≡ 0
none_to_redo logs.Unformatted entries h = refl
none_to_redo logs.FirstStored entries h = refl
none_to_redo logs.FirstInFlight entries h = refl
none_to_redo logs.Rest entries h = refl
none_to_redo logs.StoringEntries entries h = refl
none_to_redo logs.EntriesInFlight entries h = refl
none_to_redo logs.EntriesDurable entries h = refl
none_to_redo logs.HeadStored entries h = refl
none_to_redo logs.HeadInFlight entries h = refl
none_to_redo logs.Logged entries h = refl
none_to_redo logs.Redoing entries h = absurd (cc)
none_to_redo logs.BaseInFlight entries h = absurd (cc)
none_to_redo logs.BaseDurable entries h = absurd (cc)
none_to_redo logs.HeadCleared entries h = absurd (cc)
none_to_redo logs.ClearInFlight entries h = absurd (cc)

pub all_redone : (stage : Stage) (entries : ℕ) → redo_left_at stage entries ≡ 0 → is_redo stage ≡ false
all_redone logs.Unformatted entries h = refl
all_redone logs.FirstStored entries h = refl
all_redone logs.FirstInFlight entries h = refl
all_redone logs.Rest entries h = refl
all_redone logs.StoringEntries entries h = refl
all_redone logs.EntriesInFlight entries h = refl
all_redone logs.EntriesDurable entries h = refl
all_redone logs.HeadStored entries h = refl
all_redone logs.HeadInFlight entries h = refl
all_redone logs.Logged entries h = refl
all_redone logs.Redoing entries h = absurd (omega (arith, h))
all_redone logs.BaseInFlight entries h = absurd (omega (arith, h))
all_redone logs.BaseDurable entries h = absurd (omega (arith, h))
all_redone logs.HeadCleared entries h = absurd (omega (arith, h))
all_redone logs.ClearInFlight entries h = absurd (omega (arith, h))

pub most_to_redo : (w : Work) → w.stage ≡ logs.Redoing → w.entries ≤ 640 → redo_left w ≤ 645
most_to_redo w at most =
    let is : redo_left w ≡ (w.entries - w.redone) + 5 = ap (λ (stage : Stage). redo_left_at stage (w.entries - w.redone)) at in
    omega (arith, is, most)

-- the last step of the log leaves none
ends_in : (stage : Stage) (w new : Work) (f g : ℕ → Word) → w.stage ≡ stage → is_redo stage ≡ true → RedoesAt stage w f new g
    → is_redo new.stage ≡ false → new.stage ≡ logs.Rest
ends_in logs.Unformatted w new f g at redo step done = absurd (cc)
ends_in logs.FirstStored w new f g at redo step done = absurd (cc)
ends_in logs.FirstInFlight w new f g at redo step done = absurd (cc)
ends_in logs.Rest w new f g at redo step done = absurd (cc)
ends_in logs.StoringEntries w new f g at redo step done = absurd (cc)
ends_in logs.EntriesInFlight w new f g at redo step done = absurd (cc)
ends_in logs.EntriesDurable w new f g at redo step done = absurd (cc)
ends_in logs.HeadStored w new f g at redo step done = absurd (cc)
ends_in logs.HeadInFlight w new f g at redo step done = absurd (cc)
ends_in logs.Logged w new f g at redo step done = absurd (cc)
ends_in logs.Redoing w new f g at redo (inl entry) done =
    let is : new.stage ≡ logs.Redoing = ap (λ (x : Work). x.stage) entry.work ∙ at in
    let more : is_redo new.stage ≡ true = ap is_redo is in absurd (cc)
ends_in logs.Redoing w new f g at redo (inr (inl entry)) done =
    let is : new.stage ≡ logs.Redoing = ap (λ (x : Work). x.stage) entry.work ∙ at in
    let more : is_redo new.stage ≡ true = ap is_redo is in absurd (cc)
ends_in logs.Redoing w new f g at redo (inr (inr flush)) done =
    let more : is_redo new.stage ≡ true = ap (λ (x : Work). is_redo x.stage) flush.work in absurd (cc)
ends_in logs.BaseInFlight w new f g at redo step done =
    let more : is_redo new.stage ≡ true = ap (λ (x : Work). is_redo x.stage) step.0 in absurd (cc)
ends_in logs.BaseDurable w new f g at redo step done =
    let more : is_redo new.stage ≡ true = ap (λ (x : Work). is_redo x.stage) step.0 in absurd (cc)
ends_in logs.HeadCleared w new f g at redo step done =
    let more : is_redo new.stage ≡ true = ap (λ (x : Work). is_redo x.stage) step.0 in absurd (cc)
ends_in logs.ClearInFlight w new f g at redo step done = ap (λ (x : Work). x.stage) step.0

pub ends_at_rest : (w new : Work) (f g : ℕ → Word) → is_redo w.stage ≡ true → Redoes w f new g → is_redo new.stage ≡ false → new.stage ≡ logs.Rest
ends_at_rest w new f g redo step done = ends_in w.stage w new f g refl redo step done

-- turns of the pages
pub none_to_return : (r : PageRecovery) → is_back r ≡ true → pages_left r ≡ 0
none_to_return r back = rw back refl

pub all_back : (r : PageRecovery) → pages_left r ≡ 0 → is_back r ≡ true
all_back r none = elim (cases_Bool r.is_fenced) [
  | inl so ↦ so
  | inr open_yet ↦ (let some : pages_left r ≡ 1 + (2 * (512 - r.page) - steps_behind r.next) = rw open_yet refl in absurd (omega (arith, some, none)))
]

-- at the end of recovery each room is at its own
pub record IsOver (r : Recovery) : Type 0 where
  pub log : is_redo r.numbers.work.stage ≡ false
  pub tags : tags_left r.roots.phase ≡ 0
  pub pages : is_back r.pages ≡ true

pub over : (r : Recovery) → turns_left r ≡ 0 → IsOver r
over r none = record {
  log = all_redone r.numbers.work.stage (r.numbers.work.entries - r.numbers.work.redone) (omega (arith, none));
  tags = omega (arith, none);
  pages = all_back r.pages (omega (arith, none));
}

pub is_over : (r : Recovery) → is_redo r.numbers.work.stage ≡ false → tags_left r.roots.phase ≡ 0 → is_back r.pages ≡ true → turns_left r ≡ 0
is_over r log tags pages =
    let first = none_to_redo r.numbers.work.stage (r.numbers.work.entries - r.numbers.work.redone) log in
    let last = none_to_return r.pages pages in
    omega (arith, first, tags, last)
