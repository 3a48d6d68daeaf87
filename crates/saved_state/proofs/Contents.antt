-- The pages whose bytes a record reads are among those on which records have content.
use Rattle.std.proofs.Common.{◌≡◌, ◌==◌, ◌&&◌, ℕ, ◌<◌, not, true, false, [], Option, Some, refl, ap, sym, ◌∙◌, ◌+◌, subst, arith}
use Rattle.std.specs.List.{Contains}
use Rattle.std.proofs.lemmas.Bool.{eq-eqb}
use Rattle.std.proofs.lemmas.List.Folds.{list_any_at}
use Rattle.std.proofs.lemmas.List.FromFn.{get_or-range_with_len, length-range_with_len}
use Rattle.sls_base.specs.declared.limits.TheConstants.{OBJECTS}
use Rattle.mem_space.specs.declared.memory.MemPage.{MemPage}
use Rattle.plain_model.specs.Objects.{every_object}
use Rattle.kobj_codec.specs.declared.obj.Obj.{Obj}
use Rattle.object_records.specs.Records.{ReadsPage}
use Rattle.object_records.specs.Pages.{has_content, has_content_in, is_content}

nothing_read : (page : ℕ) (P : Type 0) → Contains {X = MemPage} [] (record { page = page; fresh = false }) → P
nothing_read page P there = absurd (omega (arith, there.1))

read_has_content : (obj : Obj) (page : ℕ) → ReadsPage obj page → has_content obj page ≡ true
read_has_content (Obj.Memory memory) page there =
    list_any_at (λ (p : MemPage). (p.page == page) && not p.fresh) memory.pages.items there.0 (record { page = page; fresh = false }) there.1
    (subst (λ (p : MemPage). ((p.page == page) && not p.fresh) ≡ true) (sym there.2) (rw (eq-eqb page page refl) refl))
read_has_content (Obj.Group group) page there = nothing_read page _ there
read_has_content (Obj.Thread thread) page there = nothing_read page _ there
read_has_content (Obj.Space space) page there = nothing_read page _ there
read_has_content (Obj.Connection c) page there = nothing_read page _ there
read_has_content (Obj.Notification note) page there = nothing_read page _ there
read_has_content (Obj.Ring ring) page there = nothing_read page _ there
read_has_content (Obj.Scheduler scheduler) page there = nothing_read page _ there

pub read_is_content : (records : ℕ → Option Obj) (i : ℕ) (obj : Obj) (page : ℕ) → i < OBJECTS → records i ≡ Some obj → ReadsPage obj page → is_content records page ≡ true
unfolding is_content every_object
read_is_content records i obj page lt e there =
    let none : 0 + i ≡ i = omega arith in
    let at = get_or-range_with_len 0 OBJECTS i 0 lt ∙ none in
    let here : has_content_in (records i) page ≡ true = ap (λ (told : Option Obj). has_content_in told page) e ∙ read_has_content obj page there in
    list_any_at (λ (k : ℕ). has_content_in (records k) page) every_object i 0 (omega (arith, lt, length-range_with_len 0 OBJECTS))
    (subst (λ (k : ℕ). has_content_in (records k) page ≡ true) (sym at) here)
