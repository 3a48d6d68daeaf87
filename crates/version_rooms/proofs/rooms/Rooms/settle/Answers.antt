use Rattle.std.proofs.Common.{◌∙◌, subst, sym}
use Rattle.pmem_model.specs.Memory.{word_at}
use Rattle.page_store.specs.Known.{Phase}
use Rattle.version_rooms.specs.Rooms.{RoomsKeep}
use Rattle.version_rooms.proofs.rooms.Rooms.settle.Goals as goal

pub returns-then-version-clause-settles : goal.returns-then-version-clause-settles
returns-then-version-clause-settles c = λ f v cont next phase calm may h.
    c.settled_rooms.ensures.same c.args.self.now f (word_at c.args.nvm.now) v cont phase calm h
    (sym c.version.ensures ∙ c.if-version.true ∙ c.version-2.ensures.version ∙ h.keep.numbers.version_is)

pub returns-clause-settles : goal.returns-clause-settles
returns-clause-settles c = λ f v cont next phase calm may h.
    let g = word_at c.args.nvm.now in
    let moved = c.settled_rooms.ensures.next c.args.self.now f g v cont next phase calm may h
    (λ same. c.if-version.false (c.version.ensures ∙ same ∙ sym (c.version-2.ensures.version ∙ h.keep.numbers.version_is))) in (
      c.commit.ensures.committed v cont next moved.1,
      λ after. c.commit.ensures.shows g v cont next moved.1 (subst (λ (p : Phase). RoomsKeep c.args.self.now g v cont p) moved.0 moved.3) moved.2 after,
    )

pub returns-clause-stages : goal.returns-clause-stages
returns-clause-stages c = λ f v cont next phase calm may h last page lt.
    let g = word_at c.args.nvm.now in
    let moved = c.settled_rooms.ensures.next c.args.self.now f g v cont next phase calm may h
    (λ same. c.if-version.false (c.version.ensures ∙ same ∙ sym (c.version-2.ensures.version ∙ h.keep.numbers.version_is))) in
    c.commit.ensures.stages g v cont next moved.1 (subst (λ (p : Phase). RoomsKeep c.args.self.now g v cont p) moved.0 moved.3) page lt
