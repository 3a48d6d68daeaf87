use Rattle.std.proofs.Common.{◌≡◌, ℕ, Bool, true, false, List, [], ◌∷◌, ◌++◌, ap, sym, ◌∙◌, subst, arith}
use Rattle.std.specs.Prelude.{if◌then◌else◌, slice_index_or}
use Rattle.std.proofs.lemmas.List.{append-nil}
use Rattle.link_lists.specs.Lists.{list_at, IsFree}
use Rattle.kobj_table.specs.declared.slot.Slot.{Slot}
use Rattle.first_state.specs.Filled.{has_thread}
use Rattle.first_state.proofs.Filled.{filled_more, still_free}
use Rattle.first_state.proofs.filling.add.Goals as goal

pub enqueue-requires-clause-free : goal.enqueue-requires-clause-free
enqueue-requires-clause-free c =
    subst (λ (l : List (List ℕ)). IsFree l c.args.id) (sym c.put.ensures.puts.links) (c.requires.free c.args.id (omega arith))

pub returns-then-is_ready-clause-filled : goal.returns-then-is_ready-clause-filled
returns-then-is_ready-clause-filled c content list object filled count is =
    let puts = c.put.ensures.puts in
    let ready : has_thread c.args.slot ≡ true = sym c.has_thread-is_ready.ensures ∙ c.if-is_ready.true in
    let slots = c.enqueue.ensures.slots in
    let at : (i : ℕ) → slice_index_or c.enqueue.new.self.slots i Slot.Empty ≡ slice_index_or c.put.new.self.slots i Slot.Empty = λ i. ap (λ (l : List Slot). slice_index_or l i Slot.Empty) slots in
    filled_more content c.args.objects.now c.enqueue.new.self list c.args.id c.args.slot object filled count is c.requires.list
    (at c.args.id ∙ puts.there) (λ i other. at i ∙ puts.others i other)
    (c.enqueue.ensures.last.last ∙ (ap (λ (l : List (List ℕ)). list_at l 1 ++ c.args.id ∷ []) puts.links
    ∙ ap (λ (b : Bool). list_at c.args.objects.now.links 1 ++ (if b then c.args.id ∷ [] else [])) (sym ready)))
    (λ i other. c.enqueue.ensures.last.others i other ∙ ap (λ (l : List (List ℕ)). list_at l i) puts.links)

pub returns-then-is_ready-clause-free : goal.returns-then-is_ready-clause-free
returns-then-is_ready-clause-free c j from =
    let free : IsFree c.put.new.self.links j = subst (λ (l : List (List ℕ)). IsFree l j) (sym c.put.ensures.puts.links) (c.requires.free j (omega arith)) in
    still_free c.put.new.self.links c.enqueue.new.self.links 1 c.args.id j c.enqueue.ensures.last (λ e. absurd (omega arith)) free

pub returns-else-is_ready-clause-filled : goal.returns-else-is_ready-clause-filled
returns-else-is_ready-clause-filled c content list object filled count is =
    let puts = c.put.ensures.puts in
    let unready : has_thread c.args.slot ≡ false = sym c.has_thread-is_ready.ensures ∙ c.if-is_ready.false in
    filled_more content c.args.objects.now c.put.new.self list c.args.id c.args.slot object filled count is c.requires.list
    puts.there puts.others
    (ap (λ (l : List (List ℕ)). list_at l 1) puts.links ∙ (sym (append-nil (list_at c.args.objects.now.links 1))
    ∙ ap (λ (b : Bool). list_at c.args.objects.now.links 1 ++ (if b then c.args.id ∷ [] else [])) (sym unready)))
    (λ i other. ap (λ (l : List (List ℕ)). list_at l i) puts.links)

pub returns-else-is_ready-clause-free : goal.returns-else-is_ready-clause-free
returns-else-is_ready-clause-free c j from =
    subst (λ (l : List (List ℕ)). IsFree l j) (sym c.put.ensures.puts.links) (c.requires.free j (omega arith))
