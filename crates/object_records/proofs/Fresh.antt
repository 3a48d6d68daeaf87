-- Of the bytes of pages, those alone matter that records read.
use Rattle.std.proofs.Common.{◌≡◌, ℕ, Bool, true, false, List, [], ◌∷◌, map, Option, Some, None, refl, ap, ◌∙◌, subst, arith}
use Rattle.std.specs.List.{Contains}
use Rattle.std.proofs.lemmas.List.Elements.{Contains-append_right}
use mathlib.Core.Path.{fun_ext}
use Rattle.mem_space.specs.declared.memory.MemPage.{MemPage}
use Rattle.plain_model.specs.Objects as plain
use Rattle.plain_model.specs.Objects.{Page}
use Rattle.kobj_table.specs.Slots.{bytes_of, page_of}
use Rattle.kobj_table.specs.Objects.{Rest}
use Rattle.kobj_codec.specs.declared.obj.Obj.{Obj}
use Rattle.object_records.specs.Records.{object_of_record, object_in, state_of_records, SameBytes}
use Rattle.object_records.proofs.Stands.{made_of, same_parts}

same_bytes : (a b : ℕ → ℕ → ℕ) (number : ℕ) (fresh : Bool) → (fresh ≡ false → (offset : ℕ) → b number offset ≡ a number offset) → bytes_of b number fresh ≡ bytes_of a number fresh
same_bytes a b number true same = refl
same_bytes a b number false same = fun_ext (λ offset. same refl offset)

page_with : ℕ → (ℕ → ℕ) → Page
page_with number byte = record { number = number; byte = byte }

marked : ℕ → Bool → MemPage
marked page fresh = record { page = page; fresh = fresh }

-- the bytes of the pages in a list are the same where they are read
abbrev SameIn : (ℕ → ℕ → ℕ) → (ℕ → ℕ → ℕ) → List MemPage → Type 0
SameIn a b pages = (page offset : ℕ) → Contains pages (record { page = page; fresh = false }) → b page offset ≡ a page offset

same_head : (a b : ℕ → ℕ → ℕ) (p : MemPage) (pages : List MemPage) → SameIn a b (p ∷ pages) → page_of b p ≡ page_of a p
unfolding page_with marked
same_head a b p pages same =
    ap (λ (byte : ℕ → ℕ). page_with p.page byte)
    (same_bytes a b p.page p.fresh
    (λ stale offset. same p.page offset (subst (Contains (p ∷ pages)) (ap (λ fresh. marked p.page fresh) stale) (0, omega arith, refl))))

same_pages : (a b : ℕ → ℕ → ℕ) (pages : List MemPage) → SameIn a b pages → map (page_of b) pages ≡ map (page_of a) pages
same_pages a b [] same = refl
same_pages a b (p ∷ pages) same =
    ap (λ (page : Page). page ∷ map (page_of b) pages) (same_head a b p pages same)
    ∙ ap (λ (rest : List Page). page_of a p ∷ rest) (same_pages a b pages (λ page offset read. same page offset (Contains-append_right (p ∷ []) pages _ read)))

pub same_object : (a b : ℕ → ℕ → ℕ) (obj : Obj) → SameBytes a b obj → object_of_record b obj ≡ object_of_record a obj
same_object a b (Obj.Group group) same = refl
same_object a b (Obj.Thread thread) same = refl
same_object a b (Obj.Space space) same = refl
same_object a b (Obj.Memory memory) same = ap (λ (pages : List Page). Some (plain.Memory pages)) (same_pages a b memory.pages.items same)
same_object a b (Obj.Connection c) same = refl
same_object a b (Obj.Notification note) same = refl
same_object a b (Obj.Ring ring) same = refl
same_object a b (Obj.Scheduler scheduler) same = refl

same_at : (a b : ℕ → ℕ → ℕ) (told : Option Obj) → ((obj : Obj) → told ≡ Some obj → SameBytes a b obj) → object_in b told ≡ object_in a told
same_at a b None same = refl
same_at a b (Some obj) same = same_object a b obj (same obj refl)

pub same_state : (records : ℕ → Option Obj) (rest : Rest) (content : ℕ → ℕ → ℕ) → ((i : ℕ) (obj : Obj) → records i ≡ Some obj → SameBytes rest.content content obj) →
    state_of_records records (record rest { content = content }) ≡ state_of_records records rest
unfolding state_of_records made_of
same_state records rest content same =
    same_parts rest _ _ _ _ _ _ (λ i. same_at rest.content content (records i) (same i)) refl refl
