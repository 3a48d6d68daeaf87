-- Bytes at addresses, as a space has them.
use Rattle.std.specs.Prelude.{◌≡◌, ℕ, zero, suc, ◌+◌, ◌%◌, ◌<◌, ◌≤◌, ◌&&◌, Bool, true, false, List, [], ◌∷◌, ◌++◌, find, filter_map, length, map, Option, Some, None, option_map, is_some, if◌then◌else◌}
use Rattle.std.specs.List.{list_all, range_with_len}
use Rattle.std.proofs.Common.{refl, ap, sym, ◌∙◌, arith}
use Rattle.std.proofs.lemmas.List.{map-append}
use Rattle.std.proofs.lemmas.List.Elements.{filter_map-append}
use Rattle.std.proofs.lemmas.List.Folds.{list_all-append, list_all_at}
use Rattle.std.proofs.lemmas.List.FromFn.{get_or-range_with_len, length-range_with_len}
use Rattle.sls_base.specs.declared.limits.TheConstants.{PAGE_BYTES}
use Rattle.mem_space.specs.declared.memory.MemPage.{MemPage}
use Rattle.plain_state.specs.declared.effect.Place.{Place}
use Rattle.plain_state.specs.declared.objects.Region.{Region}
use Rattle.plain_state.specs.Objects.{Object, Page}
use Rattle.plain_state.specs.Memory.{byte_at, covers, is_covered, page_at, place_in, place_of, places_of}
use Rattle.kobj_table.specs.Slots.{bytes_of, page_of}
use Rattle.call_readings.specs.Need.{page_seen}
use Rattle.page_bytes.specs.Bytes.{bytes_seen}

-- One byte.

module _ (objects : ℕ → Option Object) (content : ℕ → ℕ → ℕ) (at : ℕ) where
  seen : (found : Option Region) (page : MemPage) → Some (page_of content page) ≡ option_map (page_at objects) (option_map (place_in at) found)
      → Some (bytes_of content page.page page.fresh (at % PAGE_BYTES)) ≡ option_map (byte_at objects) (option_map (place_in at) found)
  seen None page e = absurd (cc)
  seen (Some region) page e =
      let same : page_of content page ≡ page_at objects (place_in at region) = cc in
      ap (λ (p : Page). Some (p.byte (at % PAGE_BYTES))) same

  unseen : (found : Option Region) → None ≡ option_map (page_at objects) (option_map (place_in at) found)
      → None ≡ option_map (byte_at objects) (option_map (place_in at) found)
  unseen None e = refl
  unseen (Some region) e = absurd (cc)

  number : (found : Option Region) (page : MemPage) → Some (page_of content page) ≡ option_map (page_at objects) (option_map (place_in at) found)
      → option_map (λ place. (page_at objects place).number) (option_map (place_in at) found) ≡ Some page.page
  number None page e = absurd (cc)
  number (Some region) page e =
      let same : page_of content page ≡ page_at objects (place_in at region) = cc in
      ap (λ (p : Page). Some p.number) (sym same)

  module _ (regions : List Region) (right : ℕ) where
    pub byte_seen : (page : MemPage) → Some (page_of content page) ≡ option_map (page_at objects) (place_of regions right at)
        → Some (bytes_of content page.page page.fresh (at % PAGE_BYTES)) ≡ option_map (byte_at objects) (place_of regions right at)
    byte_seen page e = seen (find (covers right at) regions) page e

    pub no_byte : None ≡ option_map (page_at objects) (place_of regions right at) → None ≡ option_map (byte_at objects) (place_of regions right at)
    no_byte e = unseen (find (covers right at) regions) e

    pub page_number : (page : MemPage) → Some (page_of content page) ≡ option_map (page_at objects) (place_of regions right at)
        → page_seen objects regions right at ≡ Some page.page
    page_number page e = number (find (covers right at) regions) page e

-- Bytes behind one another.

range_next : (at k : ℕ) → range_with_len at (suc k) ≡ range_with_len at k ++ (at + k) ∷ []
range_next at zero = let none : at ≡ at + 0 = omega arith in ap (λ (a : ℕ). a ∷ []) none
range_next at (suc k) =
    let next : at + 1 + k ≡ at + suc k = omega arith in
    ap (λ (l : List ℕ). at ∷ l) (range_next (at + 1) k ∙ ap (λ (a : ℕ). range_with_len (at + 1) k ++ a ∷ []) next)

range_more : (at k : ℕ) → range_with_len at (k + 1) ≡ range_with_len at k ++ (at + k) ∷ []
range_more at k = let next : k + 1 ≡ suc k = omega arith in ap (range_with_len at) next ∙ range_next at k

module _ (objects : ℕ → Option Object) (regions : List Region) (right at : ℕ) where
  -- what is known of the first k bytes
  pub record AreFirst (k : ℕ) (bytes : List ℕ) : Type 0 where
    pub covered : is_covered regions right at k ≡ true
    pub bytes_are : bytes ≡ map (byte_at objects) (places_of regions right at k)

  pub none_yet : AreFirst 0 []
  none_yet = record { covered = refl; bytes_are = refl }

  one_place : (o : Option Place) (value : ℕ) → Some value ≡ option_map (byte_at objects) o → (place : Place) × (o ≡ Some place) × (value ≡ byte_at objects place)
  one_place None value e = absurd (cc)
  one_place (Some place) value e = (place, refl, cc)

  more_at : (k value : ℕ) (bytes : List ℕ) (place : Place) → place_of regions right (at + k) ≡ Some place → value ≡ byte_at objects place
      → AreFirst k bytes → AreFirst (k + 1) (bytes ++ value ∷ [])
  more_at k value bytes place there is first =
      let test : ℕ → Bool = λ address. is_some (place_of regions right address) in
      let found : is_some (place_of regions right (at + k)) ≡ true = ap (λ (o : Option Place). is_some o) there in
      let covered : list_all test (range_with_len at k ++ (at + k) ∷ []) ≡ true =
      list_all-append test (range_with_len at k) ((at + k) ∷ []) ∙ rw (first.covered, found) refl in
      let places : filter_map (place_of regions right) (range_with_len at k ++ (at + k) ∷ []) ≡ places_of regions right at k ++ place ∷ [] =
      filter_map-append (place_of regions right) (range_with_len at k) ((at + k) ∷ []) ∙ rw there refl in
      record {
        covered = ap (list_all test) (range_more at k) ∙ covered;
        bytes_are = ap (λ (l : List ℕ). l ++ value ∷ []) first.bytes_are
            ∙ ap (λ (v : ℕ). map (byte_at objects) (places_of regions right at k) ++ v ∷ []) is
            ∙ sym (map-append (byte_at objects) (places_of regions right at k) (place ∷ []))
            ∙ sym (ap (map (byte_at objects)) (ap (filter_map (place_of regions right)) (range_more at k) ∙ places));
      }

  pub one_more : (k value : ℕ) (bytes : List ℕ) → Some value ≡ option_map (byte_at objects) (place_of regions right (at + k)) → AreFirst k bytes → AreFirst (k + 1) (bytes ++ value ∷ [])
  one_more k value bytes e first =
      let found = one_place (place_of regions right (at + k)) value e in
      more_at k value bytes found.0 found.1 found.2 first

  -- one that isn't there
  pub not_covered : (k count : ℕ) → k < count → None ≡ option_map (byte_at objects) (place_of regions right (at + k)) → is_covered regions right at count ≡ false
  not_covered k count inside e =
      let test : ℕ → Bool = λ address. is_some (place_of regions right address) in
      list_all_at test (range_with_len at count) k 0 (omega (arith, length-range_with_len at count, inside))
      (ap test (get_or-range_with_len at count k 0 inside) ∙ none_there (place_of regions right (at + k)) e)
    where
      none_there : (o : Option Place) → None ≡ option_map (byte_at objects) o → is_some o ≡ false
      none_there None e = refl
      none_there (Some place) e = absurd (cc)

pub all_seen : (objects : ℕ → Option Object) (regions : List Region) (right at count : ℕ) (bytes : List ℕ) → AreFirst objects regions right at count bytes
    → Some bytes ≡ bytes_seen objects regions right at count
all_seen objects regions right at count bytes first = rw first.covered (ap (λ (l : List ℕ). Some l) first.bytes_are)

pub none_seen : (objects : ℕ → Option Object) (regions : List Region) (right at count : ℕ) → is_covered regions right at count ≡ false
    → None ≡ bytes_seen objects regions right at count
none_seen objects regions right at count miss = rw miss refl
