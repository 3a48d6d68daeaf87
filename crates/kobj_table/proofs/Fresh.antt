-- A page that is fresh is zero.
use Rattle.std.specs.Prelude.{◌≡◌, ℕ, suc, ◌<◌, ◌==◌, Bool, true, false, List, [], ◌∷◌, length, map, slice_get, Option, Some}
use Rattle.std.proofs.Common.{refl, ap, sym, ◌∙◌, arith}
use Rattle.std.proofs.lemmas.Option.{slice_get-map, same_Some, none-some}
use Rattle.std.proofs.lemmas.Bool.{eqb-true, eqb-false}
use Rattle.std.specs.Option.{option_map}
use mathlib.Core.Path.{fun_ext}
use Rattle.mem_space.specs.declared.memory.MemPage.{MemPage}
use Rattle.mem_space.specs.declared.memory.Memory.{Memory}
use Rattle.mem_space.specs.Memory.{MarksPage, marked}
use Rattle.plain_model.specs.Objects.{Page}
use Rattle.kobj_table.specs.declared.slot.Slot.{Slot}
use Rattle.kobj_table.specs.Slots.{bytes_of, page_of, memory_in, cores_of}

-- lists with the same members at the same places are the same
same_by_places : {X : Type 0} → (xs ys : List X) → ((k : ℕ) → slice_get xs k ≡ slice_get ys k) → xs ≡ ys
same_by_places [] [] same = refl
same_by_places [] (y ∷ ys) same = absurd (none-some y (same 0))
same_by_places (x ∷ xs) [] same = absurd (none-some x (sym (same 0)))
same_by_places {X} (x ∷ xs) (y ∷ ys) same =
    ap (λ (z : X). z ∷ xs) (same_Some x y (same 0)) ∙ ap (λ (l : List X). y ∷ l) (same_by_places xs ys (λ k. same (suc k)))

zero_bytes : (content : ℕ → ℕ → ℕ) (number : ℕ) (fresh : Bool) → ((offset : ℕ) → content number offset ≡ 0) → bytes_of content number fresh ≡ (λ offset. 0)
zero_bytes content number true zeros = refl
zero_bytes content number false zeros = fun_ext (λ offset. zeros offset)

page_with : ℕ → (ℕ → ℕ) → Page
page_with number byte = record { number = number; byte = byte }

same_page : (content : ℕ → ℕ → ℕ) (page : MemPage) (fresh : Bool) → ((offset : ℕ) → content page.page offset ≡ 0) → page_of content (marked page fresh) ≡ page_of content page
unfolding page_with
same_page content page fresh zeros =
    ap (λ (byte : ℕ → ℕ). page_with page.page byte) (zero_bytes content page.page fresh zeros ∙ sym (zero_bytes content page.page page.fresh zeros))

same_at : (content : ℕ → ℕ → ℕ) (old new : Memory) (index : ℕ) (fresh : Bool) (page : MemPage) (k : ℕ) (b : Bool) → (k == index) ≡ b → MarksPage old new index fresh →
    slice_get old.pages.items index ≡ Some page → ((offset : ℕ) → content page.page offset ≡ 0) →
    option_map (page_of content) (slice_get new.pages.items k) ≡ option_map (page_of content) (slice_get old.pages.items k)
same_at content old new index fresh page k true here marks at zeros =
    rw (eqb-true k index here) (rw marks.page (rw at (ap (λ (p : Page). Some p) (same_page content page fresh zeros))))
same_at content old new index fresh page k false there marks at zeros =
    ap (λ (p : Option MemPage). option_map (page_of content) p) (marks.others k (eqb-false k index there))

pub same_pages : (content : ℕ → ℕ → ℕ) (old new : Memory) (index : ℕ) (fresh : Bool) (page : MemPage) → MarksPage old new index fresh →
    slice_get old.pages.items index ≡ Some page → ((offset : ℕ) → content page.page offset ≡ 0) →
    map (page_of content) new.pages.items ≡ map (page_of content) old.pages.items
same_pages content old new index fresh page marks at zeros =
    same_by_places (map (page_of content) new.pages.items) (map (page_of content) old.pages.items)
    (λ k. slice_get-map (page_of content) new.pages.items k ∙ same_at content old new index fresh page k (k == index) refl marks at zeros ∙ sym (slice_get-map (page_of content) old.pages.items k))

-- a slot with a page is that of a memory object, and runs nothing
pub no_cores : (slot : Slot) (index : ℕ) → index < length (memory_in slot).pages.items → cores_of slot ≡ []
no_cores Slot.Empty index there = refl
no_cores (Slot.Group group) index there = refl
no_cores (Slot.Thread thread) index there = refl
no_cores (Slot.Space space) index there = refl
no_cores (Slot.Memory memory) index there = refl
no_cores (Slot.Connection connection) index there = refl
no_cores (Slot.Notification note) index there = refl
no_cores (Slot.Ring ring) index there = refl
no_cores (Slot.Scheduler cores) index there = absurd (omega arith)
