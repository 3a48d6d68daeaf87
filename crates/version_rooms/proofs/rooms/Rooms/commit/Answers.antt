use Rattle.std.proofs.Common.{◌≡◌, ◌+◌, ◌∙◌, ℕ, Bool, Option, ap, arith, subst, sym}
use Rattle.kobj_codec.specs.declared.obj.Obj.{Obj}
use Rattle.version_commit.specs.declared.committer.Committer.{Committer}
use Rattle.alloc_journal.specs.Sets.{has}
use Rattle.alloc_journal.specs.Work.{Work}
use Rattle.alloc_journal.specs.Shows.{NumbersShow}
use Rattle.object_root.specs.Shows.{ObjectsShow}
use Rattle.page_store.specs.Known.{Open}
use Rattle.page_store.specs.Shows.{PagesShow}
use Rattle.version_rooms.specs.Rooms.{IsFixed}
use Rattle.version_rooms.proofs.Parted.{from_rest}
use Rattle.version_rooms.proofs.rooms.Rooms.commit.Goals as goal

pub returns-clause-shows : goal.returns-clause-shows
returns-clause-shows c = λ f v cont next ready keep clean after.
    let r = c.args.self.now in
    let below = ready.in_range in
    let work = c.commit.ensures.work ∙ c.commits.ensures.once r.numbers.work ready.logged in
    let at : c.version.result ≡ v + 1 = c.version.ensures.version ∙ ap (λ (w : Work). w.version) work ∙ ap (λ (n : ℕ). n + 1) keep.numbers.version_is in
    let pages = c.committed-2.ensures.shows f v cont.saved.pages cont.pages at ready.flushed keep.pages in
    record {
      version = from_rest c.new-self.result.version (ap (λ (x : Committer). x.version) c.new-self.ensures.steps) (c.new-self.ensures.version f (v + 1) clean);
      keep = record {
        in_range = omega (arith, below);
        fixed = subst (λ (cores : ℕ). IsFixed f cores) (sym ready.cores) keep.fixed;
        numbers = subst (λ (numbers : ℕ → Bool). NumbersShow c.commit.new.self.work f (v + 1) numbers) (sym ready.numbers)
            (subst (λ (w : Work). NumbersShow w f (v + 1) (has r.numbers.work.logged)) (sym work) (c.commits.ensures.shows r.numbers.work f v cont.saved.numbers ready.logged keep.numbers));
        objects = subst (λ (objects : ℕ → Option Obj). ObjectsShow c.committed.new.self f (v + 1) objects after) (sym ready.objects)
            (c.committed.ensures.shows f v cont.saved.objects cont.objects after ready.tagged ready.settled keep.objects);
        pages = c.saved_pages_may_be_fewer.ensures c.committed-2.new.self f (v + 1) cont.pages cont.pages next.pages Open ready.pages
            (subst (λ (n : ℕ). PagesShow c.committed-2.new.self f n cont.pages cont.pages Open) at pages);
      };
    }

pub returns-clause-stages : goal.returns-clause-stages
returns-clause-stages c = λ f v cont next ready keep.
    let r = c.args.self.now in
    let work = c.commit.ensures.work ∙ c.commits.ensures.once r.numbers.work ready.logged in
    let at : c.version.result ≡ v + 1 = c.version.ensures.version ∙ ap (λ (w : Work). w.version) work ∙ ap (λ (n : ℕ). n + 1) keep.numbers.version_is in
    c.committed-2.ensures.stages v at keep.pages.at
