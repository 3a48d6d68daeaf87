use Rattle.std.specs.Prelude.{◌≡◌, ◌≢◌, ℕ, not, Option, Some, None, IfSome}
use Rattle.std.proofs.Common.{◌∙◌, inr, sym, subst}
use Rattle.kobj_codec.specs.declared.obj.Obj.{Obj}
use Rattle.kobj_codec.specs.Objects.{IsObj}
use Rattle.object_records.specs.Records.{record_at}
use Rattle.page_store.specs.Known.{Open}
use Rattle.version_rooms.specs.Rooms.{Contents}
use Rattle.alloc_journal.specs.declared.journal.Stage.TheVariants.{Redoing}
use Rattle.leader_helper.specs.Begins.{IsFound}
use Rattle.leader_helper.proofs.Founds.{found_by}
use Rattle.leader_helper.proofs.begin.has_changed.Goals as goal

pub encode-requires : goal.encode-requires
encode-requires c = subst (λ (told : Option Obj). IfSome told IsObj) (sym c.record_at.ensures.record ∙ c.in-Some.is) c.requires.record

pub returns-in-Some : goal.returns-in-Some
returns-in-Some c v saved pages may =
    let obj = c.in-Some.obj in
    let none : ℕ → Option Obj = λ i. None in
    let contents : Contents = record { saved = saved; objects = none; pages = pages } in
    let there : record_at c.args.objects.now c.args.id ≡ Some obj = sym c.record_at.ensures.record ∙ c.in-Some.is in
    let is : IsObj obj = subst (λ (told : Option Obj). IfSome told IsObj) there c.requires.record in
    let rests : c.args.rooms.now.numbers.work.stage ≢ Redoing = λ redoes. (let e = sym may.rest.log ∙ redoes in absurd (cc)) in
    let told = c.has_saved.ensures v contents Open obj (may.rest.shows none) rests (may.used c.args.id c.requires.id) is c.encode.ensures.record in
    subst (λ (now : Option Obj). IsFound (not c.has_saved.result) now (saved.objects c.args.id)) (sym there) (found_by c.has_saved.result obj (saved.objects c.args.id) told)

pub returns-in-None : goal.returns-in-None
returns-in-None c v saved pages may = inr (sym c.record_at.ensures.record ∙ c.in-None.is)
