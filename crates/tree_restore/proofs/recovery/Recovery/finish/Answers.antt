use Rattle.std.proofs.Common.{◌≡◌, ◌∙◌, ℕ, List, Option, ap, subst, sym}
use Rattle.std.proofs.Math.Path.{fun_ext}
use Rattle.pmem_model.specs.Memory.{word_at}
use Rattle.kobj_codec.specs.declared.obj.Obj.{Obj}
use Rattle.alloc_journal.specs.Sets.{has}
use Rattle.alloc_journal.specs.Shows.{NumbersShow}
use Rattle.alloc_journal.specs.Work.{InUse}
use Rattle.object_root.specs.Room.{Room, stage_at}
use Rattle.object_root.specs.Shows.{ObjectsShow}
use Rattle.page_store.specs.declared.store.PageStore.{PageStore}
use Rattle.page_store.specs.Known.{Open}
use Rattle.page_store.specs.Shows.{PagesShow}
use Rattle.page_store.specs.Stages.{IsAsRecovered, stage_of}
use Rattle.object_records.specs.Pages.{is_content}
use Rattle.version_rooms.proofs.Parted.{from_rest}
use Rattle.tree_restore.specs.Whole.{CanBeRead}
use Rattle.tree_restore.proofs.Turns.{over}
use Rattle.tree_restore.proofs.Ends.{can_be_read, numbers_known}
use Rattle.tree_restore.proofs.recovery.Recovery.finish.Goals as goal

records_back : goal.returns-clause-records
records_back c = λ v saved none whole h.
    let f = word_at c.args.nvm.now in
    let at : c.version.result ≡ v = c.version.ensures.version ∙ h.numbers.version_is in
    c.put_back_all-objects.ensures.records saved
    (subst (λ (n : ℕ). CanBeRead (λ i. (f i).cached) c.args.self.numbers.work n saved) (sym at)
    (can_be_read c.known.ensures c.room.ensures.stands c.args.self f v saved none whole h))

pub returns-clause-records : goal.returns-clause-records
returns-clause-records c = records_back c

pub returns-clause-numbers : goal.returns-clause-numbers
returns-clause-numbers c = λ v saved none h n inside.
    ap (λ (u : InUse). has u.running n) c.new.ensures.numbers
    ∙ (ap (λ (numbers : List ℕ). has numbers n) h.redone.running
    ∙ numbers_known c.known.ensures c.args.self (word_at c.args.nvm.now) v saved none h n inside)

pub returns-clause-rest : goal.returns-clause-rest
returns-clause-rest c = λ v saved none whole h.
    let f = word_at c.args.nvm.now in
    let end = over c.args.self none in
    let alike = fun_ext (records_back c v saved none whole h) in
    let room = c.new.ensures.roots in
    let log = h.redone.log end.log in
    let phase = h.cleared.records end.tags in
    let pages = c.forget_others.ensures.shows f v saved.pages
    (λ page lt. whole.pages page lt ∙ sym (ap (λ (records : ℕ → Option Obj). is_content records page) alike))
    (c.finish-pages.ensures.settled f v saved.pages end.pages h.pages) (c.finish-pages.ensures.shows f v saved.pages end.pages h.pages) in
    record {
      shows = λ objects. record {
        version = from_rest c.new.result.committer.version c.new.ensures.rest (c.new.ensures.version f v h.version);
        keep = record {
          in_range = h.in_range;
          fixed = h.fixed;
          numbers = subst (λ (u : InUse). NumbersShow u.work f v saved.numbers) (sym c.new.ensures.numbers) h.numbers;
          objects = subst (λ (r : Room). ObjectsShow r f v saved.objects objects) (sym room) (h.objects objects);
          pages = subst (λ (s : PageStore). PagesShow s f v saved.pages saved.pages Open) (sym c.new.ensures.pages) pages;
        };
      };
      committer = c.new.ensures.rest;
      records = ap (λ (r : Room). r.phase) room ∙ phase;
      idle = λ i. ap (λ (r : Room). stage_at r i) room ∙ h.cleared.idle i;
      log = ap (λ (u : InUse). u.work.stage) c.new.ensures.numbers ∙ log;
    }

pub returns-clause-stages : goal.returns-clause-stages
returns-clause-stages c = λ v saved none h page lt.
    let back = (over c.args.self none).pages in
    let found = c.finish-pages.ensures.recovered (word_at c.args.nvm.now) v saved.pages back h.pages page lt in
    subst (λ (s : PageStore). IsAsRecovered (stage_of s page)) (sym c.new.ensures.pages)
    (c.forget_others.ensures.recovered page lt found)
