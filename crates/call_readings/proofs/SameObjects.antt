-- Numbers in use of a world whose two states have the same objects.
use Rattle.std.specs.Prelude.{◌≡◌, ℕ, ◌<◌, ◌≤◌, ◌==◌, ◌||◌, Bool, true, false, List, [], ◌∷◌, is_some}
use Rattle.std.specs.List.{list_any}
use Rattle.std.proofs.Common.{refl, sym, ap, ◌∙◌, arith, inl, inr}
use Rattle.std.proofs.lemmas.Bool.{cases_Bool, cases_lt, eqb-true}
use Rattle.std.proofs.lemmas.List.Folds.{Any-from_list_any}
use Rattle.sls_base.specs.declared.limits.TheConstants.{OBJECTS, PAGES}
use Rattle.plain_model.specs.Objects.{page_numbers, every_object}
use Rattle.plain_model.specs.States.{State}
use Rattle.plain_model.specs.Worlds.{World, has_page}
use Rattle.plain_laws.specs.Laws.{AreInRange}
use Rattle.plain_laws.specs.Sound.{AreApart}
use Rattle.call_readings.specs.declared.numbers.NumbersInUse.{NumbersInUse}
use Rattle.call_readings.specs.NumberSets.{uses_object, uses_page}
use Rattle.call_readings.specs.Kernel.{IsCounted}

any_alike : (p q : ℕ → Bool) (xs : List ℕ) → ((x : ℕ) → p x ≡ q x) → list_any p xs ≡ list_any q xs
any_alike p q [] h = refl
any_alike p q (x ∷ xs) h = rw (h x, any_alike p q xs h) refl

any_none : (p : ℕ → Bool) (xs : List ℕ) → ((x : ℕ) → p x ≡ false) → list_any p xs ≡ false
any_none p [] h = refl
any_none p (x ∷ xs) h = rw (h x, any_none p xs h) refl

twice : (b c : Bool) → c ≡ b → b ≡ (b || c)
twice true c e = refl
twice false c e = sym e

same_pages : (s t : State) (page : ℕ) → ((id : ℕ) → t.objects id ≡ s.objects id) → has_page t page ≡ has_page s page
unfolding has_page
same_pages s t page same =
    any_alike (λ i. list_any (λ number. number == page) (page_numbers (t.objects i))) (λ i. list_any (λ number. number == page) (page_numbers (s.objects i))) every_object
    (λ i. ap (λ (o : _). list_any (λ number. number == page) (page_numbers o)) (same i))

-- no object has a page that there isn't
no_such_page : (s : State) (page : ℕ) → AreApart s → PAGES ≤ page → has_page s page ≡ false
unfolding has_page
no_such_page s page apart past =
    any_none (λ i. list_any (λ number. number == page) (page_numbers (s.objects i))) every_object
    (λ i. elim (cases_Bool (list_any (λ number. number == page) (page_numbers (s.objects i)))) [
      | inl there ↦
          let w = Any-from_list_any (λ (number : ℕ). number == page) (page_numbers (s.objects i)) there in
          let is : w.1 ≡ page = eqb-true _ _ w.4 in
          let inside = apart.in_range i w.1 (w.0, w.2, w.3) in
          absurd (omega (arith, is, inside, past))
      | inr nowhere ↦ nowhere
    ])

pub counted : (numbers : NumbersInUse) (w : World) → AreInRange w.now → AreApart w.now → ((id : ℕ) → w.saved.objects id ≡ w.now.objects id)
    → ((id : ℕ) → id < OBJECTS → uses_object numbers id ≡ is_some (w.now.objects id)) → ((id : ℕ) → OBJECTS ≤ id → uses_object numbers id ≡ false)
    → ((page : ℕ) → page < PAGES → uses_page numbers page ≡ has_page w.now page) → ((page : ℕ) → PAGES ≤ page → uses_page numbers page ≡ false)
    → IsCounted numbers w
counted numbers w in_range apart same objects no_object pages no_page = record {
  objects = λ id.
      let one : uses_object numbers id ≡ is_some (w.now.objects id) = elim (cases_lt id OBJECTS) [
        | inl l ↦ objects id l
        | inr m ↦ no_object id m ∙ sym (ap (λ (o : _). is_some o) (in_range id m))
      ] in
      one ∙ twice (is_some (w.now.objects id)) (is_some (w.saved.objects id)) (ap (λ (o : _). is_some o) (same id));
  pages = λ page.
      let one : uses_page numbers page ≡ has_page w.now page = elim (cases_lt page PAGES) [
        | inl l ↦ pages page l
        | inr m ↦ no_page page m ∙ sym (no_such_page w.now page apart m)
      ] in
      one ∙ twice (has_page w.now page) (has_page w.saved page) (same_pages w.now w.saved page same);
}
