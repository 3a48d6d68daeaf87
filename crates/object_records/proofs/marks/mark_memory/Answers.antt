use Rattle.std.proofs.Common.{rules, ◌≡◌, ◌≤◌, ℕ, refl, subst, ap, ◌∙◌, List, map, ◌++◌, take, drop, length, slice_index_or, slice_set, arith, false}
use Rattle.std.proofs.lemmas.List.{get_or_default, drop_all, take_all, append-nil}
use Rattle.std.proofs.lemmas.List.Edits.{map_over_more}
use Rattle.mem_space.specs.declared.memory.MemPage.{MemPage}
use Rattle.object_records.specs.Marks as marks
use Rattle.object_records.proofs.marks.mark_memory.Goals as goal

pub loop-p-init : goal.loop-p-init
loop-p-init c = search rules

pub loop-p-preserved : goal.loop-p-preserved
loop-p-preserved c =
    let f = marks.page_marked c.args.page c.args.fresh in
    let now = c.loop-p.p-items in
    let i = c.loop-p.p-index in
    let d : MemPage = record { page = 0; fresh = false } in
    let x = slice_index_or now i d in
    let inside = c.loop-p-test.true in
    ap (λ (p : MemPage). slice_set now i p) c.page_marked.ensures
    ∙ map_over_more f c.deref_mut-p-items.result.now now i x inside c.loop-p.invariant
    (get_or_default now i d x (omega (arith, inside, c.loop-p.auto.p-items)))

pub returns : goal.returns
returns c =
    let f = marks.page_marked c.args.page c.args.fresh in
    let old = c.args.memory.now.pages.items in
    let lent = c.deref_mut-p-items.result.now in
    let now = c.loop-p.p-items in
    let i = c.loop-p.p-index in
    let same = c.deref_mut-p-items.ensures.value in
    let past = c.loop-p-test.false in
    let count : length now ≡ length old = c.loop-p.auto.p-items ∙ ap length same in
    let least : length old ≤ length now = subst (λ (n : ℕ). n ≤ length now) count (omega arith) in
    let filled : take (length old) (now ++ drop (length now) old) ≡ now =
    ap (λ (l : List MemPage). take (length old) (now ++ l)) (drop_all (length now) old least)
    ∙ ap (take (length old)) (append-nil now) ∙ take_all (length old) now (subst (λ (n : ℕ). length now ≤ n) count (omega arith)) in
    filled ∙ c.loop-p.invariant
    ∙ ap (λ (l : List MemPage). map f (take i lent) ++ l) (drop_all i lent past)
    ∙ append-nil (map f (take i lent)) ∙ ap (map f) (take_all i lent past ∙ same)
