-- What the tests on regions say.
use Rattle.std.specs.Prelude.{◌+◌, ◌≤◌, ◌&&◌, nat_lt}
use Rattle.std.proofs.lemmas.Bool.Decides.{nat_tests}
use Rattle.std.proofs.Common.{◌≡◌, ℕ, ◌/◌, ◌<◌, ◌↔◌, Bool, true, false, max, IsTrue, List, Any, length, get_or, subst, refl, arith}
use Rattle.std.specs.List.{list_any}
use Rattle.std.proofs.lemmas.Bool.{and_parts, and_from, ltb-true, lt-ltb, leb-true, le-leb}
use Rattle.std.proofs.lemmas.List.{get_or_default}
use Rattle.std.proofs.lemmas.List.Folds.{Any-from_list_any, list_any-from_Any}
use Rattle.sls_base.specs.declared.limits.TheConstants.{PAGE_BYTES}
use Rattle.sls_base.specs.Rights.{HasRights, has_rights}
use Rattle.sls_base.proofs.RightsLemmas.{has_by_bits}
use Rattle.mem_space.specs.declared.region.Region.{Region}
use Rattle.mem_space.specs.Region.{HasPage, Covers, SharesPages, has_page, covers_with, shares_pages}

page_by_test : (region : Region) (page : ℕ) → (has_page page region ≡ true) ↔ HasPage region page
page_by_test region page = (
  λ t. let both = and_parts _ _ t in (leb-true _ _ both.0, ltb-true _ _ both.1),
  λ has. and_from _ _ (le-leb _ _ has.0) (lt-ltb _ _ has.1),
)

pub covers_by_test : (region : Region) (at right : ℕ) → IsTrue (covers_with at right region) ↔ (Covers region at × HasRights region.rights right)
covers_by_test region at right =
    let page = page_by_test region (at / PAGE_BYTES) in
    let rights = has_by_bits region.rights right in (
      λ t. let both = and_parts (has_rights region.rights right) (has_page (at / PAGE_BYTES) region) t in (page.0 both.1, rights.0 both.0),
      λ both. and_from (has_rights region.rights right) (has_page (at / PAGE_BYTES) region) (rights.1 both.1) (page.1 both.0),
    )

pub shares_by_test : (region : Region) (base count : ℕ) → IsTrue (shares_pages base count region) ↔ SharesPages region base count
shares_by_test region base count = (
  λ t. let apart = ltb-true _ _ t in (max region.base base, (omega arith, omega arith), omega arith, omega arith),
  λ shares. lt-ltb _ _ (omega (arith, shares.1, shares.2, shares.3)),
)

-- where both have a page, each begins before the other one ends
pub shares_by_ends : (region : Region) (base count : ℕ) → 1 ≤ region.count → 1 ≤ count
    → shares_pages base count region ≡ (nat_lt base (region.base + region.count) && nat_lt region.base (base + count))
shares_by_ends region base count some wanted = grind (arith, nat_tests)

pub shares_no_page : (region : Region) (base : ℕ) → shares_pages base 0 region ≡ false
shares_no_page region base = grind (arith, nat_tests)

-- the same of some region of a list
pub some_shares : (regions : List Region) (base count : ℕ) → IsTrue (list_any (shares_pages base count) regions) ↔ Any (λ region. SharesPages region base count) regions
some_shares regions base count =
    let p : Region → Bool = shares_pages base count in (
      λ t. let w = Any-from_list_any p regions t in (w.0, w.1, w.2, w.3, (shares_by_test w.1 base count).0 w.4),
      λ w. list_any-from_Any p regions (w.0, w.1, w.2, w.3, (shares_by_test w.1 base count).1 w.4),
    )

-- the same where one was seen, in a slice of the list
pub one_shares : (xs regions : List Region) (k : ℕ) (d : Region) (base count : ℕ) → xs ≡ regions → k < length xs → shares_pages base count (get_or xs k d) ≡ true
    → IsTrue true ↔ Any (λ region. SharesPages region base count) regions
one_shares xs regions k d base count shown inside pass =
    let region = get_or xs k d in
    let here : Any (λ region. SharesPages region base count) xs = (k, region, inside, get_or_default xs k region d inside, (shares_by_test region base count).0 pass) in
    (λ _. subst (Any (λ region. SharesPages region base count)) shown here, λ _. refl)
