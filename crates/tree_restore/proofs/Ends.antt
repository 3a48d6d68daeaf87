-- What recovery knows at its end.
use Rattle.std.proofs.Common.{◌≡◌, ◌≢◌, ◌∙◌, ℕ, Bool, Option, None, inr, refl, sym}
use Rattle.pmem_model.specs.Words.{Word}
use Rattle.pmem_layout.specs.Owners.{Objects}
use Rattle.pmem_layout.specs.Rooms.{LeftIn}
use Rattle.kobj_codec.specs.declared.obj.Obj.{Obj}
use Rattle.alloc_journal.specs.declared.journal.Stage.TheVariants as logs
use Rattle.alloc_journal.specs.Work.{IsExact, Work}
use Rattle.alloc_journal.specs.Shows.{NumbersShow}
use Rattle.object_root.specs.Format.{ObjectsStand}
use Rattle.object_root.specs.Room.{Room}
use Rattle.object_root.specs.Shows.{ObjectsShow}
use Rattle.durable_state.specs.Parts.{Parts}
use Rattle.tree_restore.specs.declared.recovery.Recovery.{Recovery}
use Rattle.tree_restore.specs.Restores.{RestoreShows, turns_left}
use Rattle.tree_restore.specs.Whole.{AreWhole, CanBeRead}
use Rattle.tree_restore.proofs.Turns.{over}

-- the committed numbers are known, but while a log is redone
abbrev pub KnowNumbers : Type 0
KnowNumbers = (w : Work) (f : ℕ → Word) (v : ℕ) (saved : ℕ → Bool) → w.stage ≢ logs.Redoing → NumbersShow w f v saved → IsExact w saved

-- what may be left of the objects' words stands for those that are saved
abbrev pub ObjectsStay : Type 0
ObjectsStay = (r : Room) (f : ℕ → Word) (v : ℕ) (saved next : ℕ → Option Obj) (left : ℕ → ℕ) → LeftIn Objects f left
    → ObjectsShow r f v saved next → ObjectsStand left v saved

pub numbers_known : KnowNumbers → (r : Recovery) (f : ℕ → Word) (v : ℕ) (saved : Parts) → turns_left r ≡ 0 → RestoreShows r f v saved
    → IsExact r.numbers.work saved.numbers
numbers_known know r f v saved none h =
    let rest = h.redone.log (over r none).log in
    know r.numbers.work f v saved.numbers (λ redo. let both = sym rest ∙ redo in absurd (cc)) h.numbers

pub can_be_read : KnowNumbers → ObjectsStay → (r : Recovery) (f : ℕ → Word) (v : ℕ) (saved : Parts) → turns_left r ≡ 0 → AreWhole saved
    → RestoreShows r f v saved → CanBeRead (λ i. (f i).cached) r.numbers.work v saved
can_be_read know stay r f v saved none whole h = record {
  whole = whole;
  numbers = numbers_known know r f v saved none h;
  stand = stay r.roots f v saved.objects (λ i. None) (λ i. (f i).cached) (record { at = λ i own. inr refl }) (h.objects (λ i. None));
}
