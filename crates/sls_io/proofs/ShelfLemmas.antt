-- What stands under a name of a map in memory.
use Rattle.std.proofs.Common.{◌≡◌, ◌≢◌, ◌≤◌, ◌<◌, ℕ, Bool, true, false, cond, List, [], ◌∷◌, Some, None, String, Vec, Global, BTreeMap, string_bytes, length, map, refl, sym, ap, ◌∙◌}
use Rattle.std.specs.declared.option.Option.{Option}
use Rattle.std.specs.BTreeMap.{get_by_text, is_at, UpdatesBy}
use Rattle.std.specs.Map.{lookup}
use Rattle.std.specs.Option.{option_map}
use Rattle.std.specs.Ordering.{nat_cmp}
use Rattle.std.specs.Str.{bytes_eq}
use Rattle.std.specs.String.{string_cmp}
use Rattle.std.specs.Cmp.Lexicographic.{slice_cmp}
use Rattle.std.proofs.lemmas.Bool.{false_from_ne_true}
use Rattle.std.proofs.lemmas.Map.{update_same, update_other}
use Rattle.std.proofs.lemmas.Map.Text.{is_eq-slice_cmp, btree_map_updates_text}
use Rattle.std.proofs.lemmas.Slice.Eq.{bytes_eq-Decides}
use Rattle.sls_io.specs.declared.shelf.Found.TheVariants.{Bytes, Missing, Long}
use Rattle.sls_io.specs.Shelf.{entry_of, IsFoundFor}
use Rattle.sls_io.specs.MemShelf.{names_of}

-- the items of what a test picks
option_map-cond : {X Y : Type 0} (f : X → Y) (b : Bool) (x : X) (other : Option X) (image : Option Y) → image ≡ option_map f other → cond b (Some (f x)) image ≡ option_map f (cond b (Some x) other)
option_map-cond f true x other image same = refl
option_map-cond f false x other image same = same

module _ {A B : Type 0} where
  -- a look-up among the names is the map's own look-up
  lookup_in_entries : (name : List ℕ) (entries : List (String A × Vec ℕ B)) → lookup (bytes_eq name) (map (λ entry. (string_bytes entry.0, entry.1.items)) entries)
      ≡ option_map (λ bytes. bytes.items) (lookup (is_at (λ key. slice_cmp nat_cmp name (string_bytes key))) entries)
  lookup_in_entries name [] = refl
  lookup_in_entries name (entry ∷ entries) = rw is_eq-slice_cmp (option_map-cond (λ bytes. bytes.items) (bytes_eq name (string_bytes entry.0)) entry.1 _ _ (lookup_in_entries name entries))

  entry_of-names_of : (names : BTreeMap (String A) (Vec ℕ B)) (name : List ℕ) → entry_of (Some (names_of names)) name ≡ option_map (λ bytes. bytes.items) (get_by_text names name)
  entry_of-names_of names name = lookup_in_entries name names.entries

  module _ (old new : BTreeMap (String A) (Vec ℕ B)) (key : String A) (value : Vec ℕ B) (updates : UpdatesBy string_cmp (string_cmp key) old new (Some value)) where
    -- the key's name has the new bytes
    pub entry_of-put : (name : List ℕ) → string_bytes key ≡ name → entry_of (Some (names_of new)) name ≡ Some value.items
    entry_of-put name same =
        entry_of-names_of new name
        ∙ ap (option_map (λ bytes. bytes.items))
        (btree_map_updates_text (string_bytes key) old new (Some value) updates name
        ∙ update_same bytes_eq (get_by_text old) (string_bytes key) (Some value) name ((bytes_eq-Decides (string_bytes key) name).1 same))

    -- any other name has the bytes that it had
    pub entry_of-put_other : (other : List ℕ) → other ≢ string_bytes key → entry_of (Some (names_of new)) other ≡ entry_of (Some (names_of old)) other
    entry_of-put_other other apart =
        entry_of-names_of new other
        ∙ ap (option_map (λ bytes. bytes.items))
        (btree_map_updates_text (string_bytes key) old new (Some value) updates other
        ∙ update_other bytes_eq (get_by_text old) (string_bytes key) (Some value) other (false_from_ne_true _ (λ same. apart (sym ((bytes_eq-Decides (string_bytes key) other).0 same)))))
        ∙ sym (entry_of-names_of old other)

module _ {A : Type 0} (names : BTreeMap (String A) (Vec ℕ Global)) (name : List ℕ) (limit : ℕ) where
  -- nothing stands there
  pub found_missing : None ≡ get_by_text names name → IsFoundFor (entry_of (Some (names_of names)) name) limit Missing
  found_missing found = rw (entry_of-names_of names name, ← found) refl

  -- more stands there than is wanted
  pub found_long : (bytes : Vec ℕ Global) → Some bytes ≡ get_by_text names name → limit < length bytes.items → IsFoundFor (entry_of (Some (names_of names)) name) limit Long
  found_long bytes found longer = rw (entry_of-names_of names name, ← found) longer

  -- what stands there is given
  pub found_bytes : (bytes given : Vec ℕ Global) → Some bytes ≡ get_by_text names name → given.items ≡ bytes.items → length bytes.items ≤ limit → IsFoundFor (entry_of (Some (names_of names)) name) limit (Bytes given)
  found_bytes bytes given found same within = rw (entry_of-names_of names name, ← found) (same, within)
