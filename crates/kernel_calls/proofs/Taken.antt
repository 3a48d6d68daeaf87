-- Page numbers that are taken one after another, the least first.
use Rattle.std.specs.Prelude.{◌≡◌, ℕ, zero, suc, ◌+◌, ◌<◌, ◌≤◌, ◌==◌, ◌||◌, not, Bool, true, false, List, [], ◌∷◌, ◌++◌, All, drop, filter, find, length, map, take, Option, Some, None}
use Rattle.std.specs.List.{range_with_len}
use Rattle.std.proofs.Common.{refl, ap, sym, ◌∙◌, arith, inl, inr, append_assoc}
use Rattle.std.proofs.lemmas.Bool.{cases_Bool, eqb-true, eq-eqb, ne_eqb}
use Rattle.std.proofs.Math.Seq.{take-append_seam}
use Rattle.std.proofs.lemmas.List.{length-map, length-append, map-append, append-nil, take_all}
use Rattle.std.proofs.lemmas.List.Folds.{list_any-append}
use Rattle.std.proofs.lemmas.List.Elements.{All-append, All-cons, All-nil}
use mathlib.Core.Path.{fun_ext}
use Rattle.mem_space.specs.declared.memory.MemPage.{MemPage}
use Rattle.mem_space.specs.declared.memory.Memory.{Memory}
use Rattle.mem_space.specs.Memory.{numbers_of}
use Rattle.plain_state.specs.Objects.{every_page}
use Rattle.call_readings.specs.declared.numbers.NumbersInUse.{NumbersInUse}
use Rattle.call_readings.specs.NumberSets.{uses_page}
use Rattle.kernel_calls.specs.Pages.{free_in, is_among}

-- the first that passes a test is the first of those that pass

first_found : (p : ℕ → Bool) (xs : List ℕ) (x : ℕ) → find p xs ≡ Some x → filter p xs ≡ x ∷ drop 1 (filter p xs)
first_found p [] x e = absurd (cc)
first_found p (y ∷ ys) x e =
    elim (cases_Bool (p y)) [
      | inl pass ↦ (let same : ◌≡◌ {A = Option ℕ} (Some y) (Some x) = rw pass at e in let s : y ≡ x = cc in rw pass (ap (λ (n : ℕ). n ∷ filter p ys) s))
      | inr fail ↦ (let later : find p ys ≡ Some x = rw fail at e in rw fail (first_found p ys x later))
    ]

none_found : (p : ℕ → Bool) (xs : List ℕ) → find p xs ≡ None → filter p xs ≡ []
none_found p [] e = refl
none_found p (y ∷ ys) e =
    elim (cases_Bool (p y)) [
      | inl pass ↦ absurd (let same : ◌≡◌ {A = Option ℕ} (Some y) None = rw pass at e in cc)
      | inr fail ↦ (let later : find p ys ≡ None = rw fail at e in rw fail (none_found p ys later))
    ]

-- numbers above one that is taken stay
same_above : (u : ℕ → Bool) (x a n : ℕ) → x < a → filter (λ p. not (u p || (p == x))) (range_with_len a n) ≡ filter (λ p. not (u p)) (range_with_len a n)
same_above u x a zero above = refl
same_above u x a (suc n) above =
    let other : (a == x) ≡ false = ne_eqb a x (λ same. omega arith) in
    let later = same_above u x (a + 1) n (omega arith) in
    elim (cases_Bool (u a)) [
      | inl used ↦ rw used later
      | inr free ↦ rw (free, other) (ap (λ (l : List ℕ). a ∷ l) later)
    ]

-- where the first of the numbers that aren't used is taken, the others are left
left_over : (u : ℕ → Bool) (a n x : ℕ) (rest : List ℕ) → filter (λ p. not (u p)) (range_with_len a n) ≡ x ∷ rest → filter (λ p. not (u p || (p == x))) (range_with_len a n) ≡ rest
left_over u a zero x rest e = absurd (cc)
left_over u a (suc n) x rest e =
    elim (cases_Bool (u a)) [
      | inl used ↦ (let later = rw used at e in rw used (left_over u (a + 1) n x rest later))
      | inr free ↦
          (let both : a ∷ filter (λ p. not (u p)) (range_with_len (a + 1) n) ≡ x ∷ rest = rw free at e in
          let same : a ≡ x = cc in
          let tail : filter (λ p. not (u p)) (range_with_len (a + 1) n) ≡ rest = cc in
          rw (free, eq-eqb a x same) (same_above u x (a + 1) n (omega arith) ∙ tail))
    ]

-- These pages have been taken, so many of them: those that are left of the free numbers stand behind them.
pub record Taken (old now : NumbersInUse) (memory : Memory) (count : ℕ) : Type 0 where
  pub rest : numbers_of memory ++ free_in now ≡ free_in old
  pub fresh : All (λ page. page.fresh ≡ true) memory.pages.items
  pub used : (page : ℕ) → uses_page now page ≡ (uses_page old page || is_among (numbers_of memory) page)
  pub objects : now.objects ≡ old.objects
  pub long : length memory.pages.items ≡ count

or_false : (b : Bool) → b ≡ (b || false)
or_false true = refl
or_false false = refl

pub none_taken : (numbers : NumbersInUse) (memory : Memory) → memory.pages.items ≡ [] → Taken numbers numbers memory 0
none_taken numbers memory none = record {
  rest = rw none refl;
  fresh = rw none (All-nil (λ page. page.fresh ≡ true));
  used = λ page. rw none (or_false (uses_page numbers page));
  objects = refl;
  long = rw none refl;
}

same_test : (a b : ℕ) → (a == b) ≡ (b == a)
same_test a b =
    elim (cases_Bool (a == b)) [
      | inl same ↦ same ∙ sym (eq-eqb b a (sym (eqb-true a b same)))
      | inr other ↦ other ∙ sym (ne_eqb b a (λ same. apart a b other same))
    ]
  where
    apart : (a b : ℕ) → (a == b) ≡ false → b ≡ a → ⊥
    apart a b other same = let f : (a == b) ≡ true = eq-eqb a b (sym same) in cc

or_assoc : (a b c : Bool) → ((a || b) || c) ≡ (a || (b || c))
or_assoc true b c = refl
or_assoc false b c = refl

one_more : (ns : List ℕ) (last page : ℕ) (b : Bool) → ((b || is_among ns page) || (page == last)) ≡ (b || is_among (ns ++ last ∷ []) page)
one_more ns last page b =
    or_assoc b (is_among ns page) (page == last)
    ∙ ap (λ (x : Bool). b || (is_among ns page || x)) (same_test page last ∙ or_false (last == page))
    ∙ ap (λ (x : Bool). b || x) (sym (list_any-append (λ number. number == page) ns (last ∷ [])))

-- the free numbers that are left
left_free : (now new : NumbersInUse) (page : ℕ) → find (λ p. not (uses_page now p)) every_page ≡ Some page → ((p : ℕ) → uses_page new p ≡ (uses_page now p || (p == page))) →
    free_in now ≡ page ∷ free_in new
unfolding every_page
left_free now new page first takes =
    let is = first_found (λ p. not (uses_page now p)) every_page page first in
    let left : free_in new ≡ drop 1 (free_in now) = ap (λ (u : ℕ → Bool). filter (λ p. not (u p)) every_page) (fun_ext takes) ∙ left_over (uses_page now) 0 512 page _ is in
    is ∙ ap (λ (l : List ℕ). page ∷ l) (sym left)

pub one_taken : (old now new : NumbersInUse) (memory memory' : Memory) (count page : ℕ) → Taken old now memory count → find (λ p. not (uses_page now p)) every_page ≡ Some page →
    ((p : ℕ) → uses_page new p ≡ (uses_page now p || (p == page))) → new.objects ≡ now.objects →
    memory'.pages.items ≡ memory.pages.items ++ record { page = page; fresh = true } ∷ [] → Taken old new memory' (count + 1)
one_taken old now new memory memory' count page t first takes objects items =
    let numbers : numbers_of memory' ≡ numbers_of memory ++ page ∷ [] =
    ap (λ (l : List MemPage). map (λ p. p.page) l) items ∙ map-append (λ (p : MemPage). p.page) memory.pages.items (record { page = page; fresh = true } ∷ []) in
    record {
      rest = ap (λ (l : List ℕ). l ++ free_in new) numbers ∙ append_assoc (numbers_of memory) (page ∷ []) (free_in new)
          ∙ ap (λ (l : List ℕ). numbers_of memory ++ l) (sym (left_free now new page first takes)) ∙ t.rest;
      fresh = rw items (All-append (λ page. page.fresh ≡ true) memory.pages.items _ t.fresh (All-cons (λ page. page.fresh ≡ true) _ [] refl (All-nil (λ page. page.fresh ≡ true))));
      used = λ p. takes p ∙ ap (λ (b : Bool). b || (p == page)) (t.used p) ∙ one_more (numbers_of memory) page p (uses_page old p)
          ∙ ap (λ (l : List ℕ). uses_page old p || is_among l p) (sym numbers);
      objects = objects ∙ t.objects;
      long = ap length items ∙ length-append memory.pages.items (record { page = page; fresh = true } ∷ []) ∙ ap (λ (n : ℕ). n + 1) t.long;
    }

-- so many are the first so many
pub all_taken : (old now : NumbersInUse) (memory : Memory) (count : ℕ) → Taken old now memory count → numbers_of memory ≡ take count (free_in old)
all_taken old now memory count t =
    sym (ap (λ (l : List ℕ). take count l) (sym t.rest) ∙ ap (λ (n : ℕ). take n (numbers_of memory ++ free_in now)) (sym (length-map memory.pages.items (λ page. page.page) ∙ t.long)) ∙ take-append_seam (numbers_of memory) (free_in now))

-- fewer are all that there were
pub few_taken : (old now : NumbersInUse) (memory : Memory) (count wanted : ℕ) → Taken old now memory count → count ≤ wanted → find (λ p. not (uses_page now p)) every_page ≡ None →
    numbers_of memory ≡ take wanted (free_in old)
few_taken old now memory count wanted t fewer none =
    let all : free_in old ≡ numbers_of memory = sym t.rest ∙ ap (λ (l : List ℕ). numbers_of memory ++ l) (none_found (λ p. not (uses_page now p)) every_page none) ∙ append-nil (numbers_of memory) in
    sym (ap (λ (l : List ℕ). take wanted l) all ∙ take_all wanted (numbers_of memory) (let l = length-map memory.pages.items (λ page. page.page) in let m = t.long in omega arith))
