use Rattle.std.proofs.Common.{◌≡◌, ℕ, ◌+◌, ◌∙◌, ◌≤◌, nat_lt, sym, ap, arith, Bool, true, false}
use Rattle.std.proofs.lemmas.Bool.Decides.{nat_tests}
use Rattle.pmem_model.specs.Memory.{word_at}
use Rattle.object_root.specs.Room.{Room}
use Rattle.object_root.specs.Shows.{ObjectsShow}
use Rattle.object_root.proofs.RoomLaws.{objects_cut}
use Rattle.object_root.proofs.Commits.{all_settled}
use Rattle.object_root.proofs.roots.Roots.commit_and_cut.Goals as goal
use Rattle.object_root.proofs.roots.Roots.commit_and_cut.Goals.{then-version-lt-LAST_VERSION, else-version-lt-LAST_VERSION, then-commits, else-commits}

not_later : (b : Bool) (version last : ℕ) → b ≡ nat_lt version last → last ≤ version → b ≡ true → ⊥
not_later b version last is le on =
    let off : nat_lt version last ≡ false = grind (arith, nat_tests) in
    let e : false ≡ true = sym off ∙ sym is ∙ on in cc

pub returns-clause-shows : goal.returns-clause-shows
returns-clause-shows c = λ v saved next after idle fits writes h.
    let f = word_at c.play.new.nvm in
    let shown = c.play.ensures.shows v saved next fits h in
    elim c.if-commits.branch [
      | then-commits w ↦
          let version : c.new.result.version ≡ v + 1 =
          c.new.ensures.version ∙ c.version-2.ensures.version ∙ ap
          (λ (r : Room). r.version) w.self-is ∙ w.committed.ensures.version
          ∙ ap (λ (n : ℕ). n + 1) shown.version in
          let committed : ObjectsShow w.committed.new.self f
          (v + 1) next next = elim c.if-version-lt-LAST_VERSION.branch [
            | then-version-lt-LAST_VERSION u ↦
                let yes = sym u.commits-is ∙ w.if-commits.true in
                w.committed.ensures.shows f v saved next next ((u.have_tags-commits.ensures.0 yes).0)
                (all_settled c.args.self.now c.play.new.self c.args.turns.now saved next idle c.play.ensures.idle writes
                ((u.have_tags-commits.ensures.0 yes).1)) shown
            | else-version-lt-LAST_VERSION u ↦ absurd
                (not_later _ c.version.result _ u.commits-is u.if-version-lt-LAST_VERSION.false w.if-commits.true)
          ] in
          rw w.if-commits.true (objects_cut after c.new.ensures.phase version c.new.ensures.idle
          (record { at = c.cut.ensures.words }) committed)
      | else-commits w ↦
          let version : c.new.result.version ≡ v =
          c.new.ensures.version ∙ c.version-2.ensures.version ∙ ap
          (λ (r : Room). r.version) w.self-is ∙ shown.version in
          rw w.if-commits.false (objects_cut after c.new.ensures.phase version c.new.ensures.idle
          (record { at = c.cut.ensures.words }) shown)
    ]
