use Rattle.std.proofs.Common.{◌≡◌, ◌+◌, ◌∙◌, arith, ap, inl, inr, subst, sym, Bool, Option, ℕ}
use Rattle.kobj_codec.specs.declared.obj.Obj.{Obj}
use Rattle.alloc_journal.specs.Format.{NumbersStand}
use Rattle.object_root.specs.Format.{ObjectsStand}
use Rattle.page_store.specs.Known.{Fenced}
use Rattle.page_store.specs.Shows.{PagesShow}
use Rattle.durable_state.specs.Parts.{FixedStand, PartsStand}
use Rattle.version_rooms.specs.Rooms.{IsReady, Same, Next, reads_at}
use Rattle.version_commit.specs.declared.step.Step.{Step}
use Rattle.version_rooms.proofs.Parted.{reads_one}
use Rattle.version_rooms.proofs.Points.{fixed_stand, pages_kept}
use Rattle.version_rooms.proofs.laws.commit_point.Goals as goal

pub returns : goal.returns
returns c = λ r f left v cont next phase may commit h.
    let part = c.owners_take_part.ensures.left in
    let fixed = fixed_stand may h.keep.fixed in
    let saved : PartsStand left v cont.saved = record {
      in_range = h.keep.in_range;
      fixed = fixed;
      numbers = c.stands.ensures r.numbers.work f left v cont.saved.numbers (part _ f left may) h.keep.numbers;
      objects = c.room.ensures.stands r.roots f v cont.saved.objects cont.objects left (part _ f left may) h.keep.objects;
      pages = c.page_versions.ensures.stands r.pages f left v cont.saved.pages cont.pages phase (part _ f left may) h.keep.pages;
    } in
    let written = λ (ready : IsReady r v cont next) (fenced : phase ≡ Fenced).
    let below = ready.in_range in
    let pages = subst (λ p. PagesShow r.pages f v cont.saved.pages cont.pages p) fenced h.keep.pages in
    let stand : PartsStand left (v + 1) next = record {
      in_range = omega (arith, below);
      fixed = subst (λ cores. FixedStand left cores) (sym ready.cores) fixed;
      numbers = subst (λ (numbers : ℕ → Bool). NumbersStand left (v + 1) numbers) (sym ready.numbers) (c.commits.ensures.stands r.numbers.work f left v cont.saved.numbers ready.logged (part _ f left may) h.keep.numbers);
      objects = subst (λ (objects : ℕ → Option Obj). ObjectsStand left (v + 1) objects) (sym ready.objects)
          (c.room.ensures.stands_next r.roots f v cont.saved.objects cont.objects left ready.tagged ready.settled (part _ f left may) h.keep.objects);
      pages = pages_kept ready.pages (c.page_versions.ensures.commits r.pages f left v cont.saved.pages cont.pages ready.flushed (part _ f left may) pages);
    } in stand in
    elim (c.version_word.ensures.left r.committer f left v (reads_at r.committer.version v) (part _ f left may) h.version) [
      | inl old ↦ Same old saved
      | inr read ↦ elim commit [
        | inl rest ↦ Same (read ∙ ap (λ (step : Step). reads_at step v) rest) saved
        | inr whole ↦ elim (reads_one r.committer.version v) [
          | inl same ↦ Same (read ∙ same) saved
          | inr stored ↦ Next (read ∙ stored) (written whole.1 whole.0)
        ]
      ]
    ]
