-- What the rules of a region say of its numbers, and what its bytes are then.
use Rattle.std.proofs.Common.{◌≡◌, ℕ, ◌+◌, ◌-◌, ◌*◌, ◌%◌, ◌^◌, ◌≤◌, true, ◌&&◌, ◌==◌, nat_le, List, [], ◌∷◌, ◌++◌, length, take, drop, None, refl, sym, ap, ◌∙◌, append_assoc, arith}
use Rattle.std.specs.Prelude.{replicate}
use Rattle.std.specs.List.{list_all}
use Rattle.std.proofs.lemmas.Bool.{leb-true, le-leb, eqb-true, and_parts}
use Rattle.std.proofs.lemmas.List.{take-append-drop, drop-drop, length-take, length-drop}
use Rattle.sls_base.specs.declared.limits.TheConstants.{PAGE_BYTES, MEMORY_PAGES, PAGES}
use Rattle.sls_base.specs.declared.rights.TheConstants.{REGION_RIGHTS}
use Rattle.sls_base.specs.declared.image.RegionSpec.{RegionSpec}
use Rattle.plain_model.specs.Initial.{IsRegion}
use Rattle.boot_image.specs.declared.fault.ImageCause.TheVariants.{Length, Count, Region}
use Rattle.boot_image.specs.Spelling.{padded, padding, region_bytes}
use Rattle.boot_image.specs.Values.{RegionValue, region_value, word_at, region_at, region_size}
use Rattle.boot_image.specs.Regions.{base_fault, pages_fault, rights_fault, length_fault, content_fault, overlap_fault, padding_at, is_apart_from, region_fault}
use Rattle.boot_image.proofs.Firsts.{one_holds, three_hold, six_none, unless_holds}
use Rattle.boot_image.proofs.Words.{IsBytes, four_words, four_again}

-- each rule of a region holds
pub record Holds (earlier : List RegionValue) (pages : ℕ) (bytes : List ℕ) : Type 0 where
  pub header : 16 ≤ length bytes
  pub base : word_at 0 bytes % PAGE_BYTES ≡ 0
  pub some_page : 1 ≤ word_at 4 bytes
  pub few_pages : word_at 4 bytes ≤ MEMORY_PAGES
  pub end : word_at 0 bytes + PAGE_BYTES * word_at 4 bytes ≤ 2 ^ 32
  pub count : pages + word_at 4 bytes ≤ PAGES
  pub some_right : 1 ≤ word_at 8 bytes
  pub rights : word_at 8 bytes ≤ REGION_RIGHTS
  pub content : word_at 12 bytes ≤ PAGE_BYTES * word_at 4 bytes
  pub apart : list_all (is_apart_from (word_at 0 bytes) (word_at 4 bytes)) earlier ≡ true
  pub whole : region_size bytes ≤ length bytes
  pub zeros : list_all (λ byte. byte == 0) (padding_at (word_at 12 bytes) bytes) ≡ true

base_parts : (at : ℕ) (bytes : List ℕ) → base_fault at bytes ≡ None → word_at 0 bytes % PAGE_BYTES ≡ 0
unfolding base_fault
base_parts at bytes e =
    let h = one_holds (nat_le 4 (length bytes)) (word_at 0 bytes % PAGE_BYTES == 0) Length Region (at + 0) at e in
    eqb-true (word_at 0 bytes % PAGE_BYTES) 0 h.1

pages_parts : (at pages : ℕ) (bytes : List ℕ) → pages_fault at pages bytes ≡ None
    → (1 ≤ word_at 4 bytes) × (word_at 4 bytes ≤ MEMORY_PAGES) × (word_at 0 bytes + PAGE_BYTES * word_at 4 bytes ≤ 2 ^ 32) × (pages + word_at 4 bytes ≤ PAGES)
unfolding pages_fault
pages_parts at pages bytes e =
    let h = three_hold (nat_le 8 (length bytes)) (nat_le 1 (word_at 4 bytes) && nat_le (word_at 4 bytes) MEMORY_PAGES)
    (nat_le (word_at 0 bytes + PAGE_BYTES * word_at 4 bytes) (2 ^ 32)) (nat_le (pages + word_at 4 bytes) PAGES)
    Length Region Region Count (at + 4) (at + 4) (at + 4) (at + 4) e in
    let range = and_parts (nat_le 1 (word_at 4 bytes)) (nat_le (word_at 4 bytes) MEMORY_PAGES) h.1 in (
      leb-true 1 (word_at 4 bytes) range.0,
      leb-true (word_at 4 bytes) MEMORY_PAGES range.1,
      leb-true (word_at 0 bytes + PAGE_BYTES * word_at 4 bytes) (2 ^ 32) h.2,
      leb-true (pages + word_at 4 bytes) PAGES h.3,
    )

rights_parts : (at : ℕ) (bytes : List ℕ) → rights_fault at bytes ≡ None → (1 ≤ word_at 8 bytes) × (word_at 8 bytes ≤ REGION_RIGHTS)
unfolding rights_fault
rights_parts at bytes e =
    let h = one_holds (nat_le 12 (length bytes)) (nat_le 1 (word_at 8 bytes) && nat_le (word_at 8 bytes) REGION_RIGHTS) Length Region (at + 8) (at + 8) e in
    let range = and_parts (nat_le 1 (word_at 8 bytes)) (nat_le (word_at 8 bytes) REGION_RIGHTS) h.1 in
    (leb-true 1 (word_at 8 bytes) range.0, leb-true (word_at 8 bytes) REGION_RIGHTS range.1)

length_parts : (at : ℕ) (bytes : List ℕ) → length_fault at bytes ≡ None → (16 ≤ length bytes) × (word_at 12 bytes ≤ PAGE_BYTES * word_at 4 bytes)
unfolding length_fault
length_parts at bytes e =
    let h = one_holds (nat_le 16 (length bytes)) (nat_le (word_at 12 bytes) (PAGE_BYTES * word_at 4 bytes)) Length Region (at + 12) (at + 12) e in
    (leb-true 16 (length bytes) h.0, leb-true (word_at 12 bytes) (PAGE_BYTES * word_at 4 bytes) h.1)

content_parts : (at : ℕ) (bytes : List ℕ) → content_fault at bytes ≡ None
    → (region_size bytes ≤ length bytes) × (list_all (λ byte. byte == 0) (padding_at (word_at 12 bytes) bytes) ≡ true)
unfolding content_fault
content_parts at bytes e =
    let h = one_holds (nat_le (region_size bytes) (length bytes)) (list_all (λ byte. byte == 0) (padding_at (word_at 12 bytes) bytes)) Length Length (at + 16) (at + 16) e in
    (leb-true (region_size bytes) (length bytes) h.0, h.1)

pub holds : (at : ℕ) (earlier : List RegionValue) (pages : ℕ) (bytes : List ℕ) → region_fault at earlier pages bytes ≡ None → Holds earlier pages bytes
unfolding region_fault
holds at earlier pages bytes e =
    let h = six_none (base_fault at bytes) (pages_fault at pages bytes) (rights_fault at bytes) (length_fault at bytes)
    (overlap_fault at earlier bytes) (content_fault at bytes) e in
    let pages_hold = pages_parts at pages bytes h.1 in
    let rights_hold = rights_parts at bytes h.2 in
    let length_holds = length_parts at bytes h.3 in
    let content_holds = content_parts at bytes h.5 in
    record {
      header = length_holds.0;
      base = base_parts at bytes h.0;
      some_page = pages_hold.0;
      few_pages = pages_hold.1;
      end = pages_hold.2;
      count = pages_hold.3;
      some_right = rights_hold.0;
      rights = rights_hold.1;
      content = length_holds.1;
      apart = unless_holds (list_all (is_apart_from (word_at 0 bytes) (word_at 4 bytes)) earlier) Region at h.4;
      whole = content_holds.0;
      zeros = content_holds.1;
    }

-- and where each holds, none is broken
yes : (a b : ℕ) → a ≤ b → nat_le a b ≡ true
yes a b h = le-leb a b h

pub none_broken : (at : ℕ) (earlier : List RegionValue) (pages : ℕ) (bytes : List ℕ) → Holds earlier pages bytes → region_fault at earlier pages bytes ≡ None
unfolding region_fault base_fault pages_fault rights_fault length_fault content_fault
none_broken at earlier pages bytes h =
    rw (
      yes 4 (length bytes) (omega (arith, h.header)),
      h.base,
      yes 8 (length bytes) (omega (arith, h.header)),
      yes 1 (word_at 4 bytes) h.some_page,
      yes (word_at 4 bytes) MEMORY_PAGES h.few_pages,
      yes (word_at 0 bytes + PAGE_BYTES * word_at 4 bytes) (2 ^ 32) h.end,
      yes (pages + word_at 4 bytes) PAGES h.count,
      yes 12 (length bytes) (omega (arith, h.header)),
      yes 1 (word_at 8 bytes) h.some_right,
      yes (word_at 8 bytes) REGION_RIGHTS h.rights,
      yes 16 (length bytes) h.header,
      yes (word_at 12 bytes) (PAGE_BYTES * word_at 4 bytes) h.content,
      h.apart,
      yes (region_size bytes) (length bytes) h.whole,
      h.zeros,
    ) refl

-- zeros, told by a test
pub zeros_are : (xs : List ℕ) → list_all (λ byte. byte == 0) xs ≡ true → xs ≡ replicate (length xs) 0
zeros_are [] e = refl
zeros_are (x ∷ xs) e =
    let parts = and_parts _ _ e in
    let x-is : x ≡ 0 = eqb-true _ _ parts.0 in
    rw x-is (ap (λ (ys : List ℕ). 0 ∷ ys) (zeros_are xs parts.1))

-- content and what follows it up to a multiple of 4
content_again : (n : ℕ) (bytes : List ℕ) → 16 + padded n ≤ length bytes → list_all (λ byte. byte == 0) (padding_at n bytes) ≡ true
    → drop 16 bytes ≡ take n (drop 16 bytes) ++ (padding n ++ drop (16 + padded n) bytes)
content_again n bytes whole zeros =
    let rest : List ℕ = drop 16 bytes in
    let k : ℕ = padded n - n in
    let more : n ≤ padded n = omega arith in
    let long : length (take k (drop n rest)) ≡ k = omega (arith, length-take k (drop n rest), length-drop n rest, length-drop 16 bytes) in
    let zero-is : take k (drop n rest) ≡ padding n = zeros_are (take k (drop n rest)) zeros ∙ ap (λ (j : ℕ). replicate j 0) long in
    let behind : drop k (drop n rest) ≡ drop (16 + padded n) bytes =
    drop-drop k n rest ∙ drop-drop (n + k) 16 bytes ∙ ap (λ (j : ℕ). drop j bytes) {x = 16 + (n + k)} {y = 16 + padded n} (omega arith) in
    sym (take-append-drop n rest) ∙ ap (λ (x : List ℕ). take n rest ++ x) (sym (take-append-drop k (drop n rest)) ∙ ap (λ (x : List ℕ). x ++ drop k (drop n rest)) zero-is ∙ ap (λ (x : List ℕ). padding n ++ x) behind)

-- a region's bytes, before others
pub region_text : (spec : RegionSpec) (rest : List ℕ) → region_bytes spec ++ rest
    ≡ four_words spec.base spec.pages spec.rights (length spec.content.items) (spec.content.items ++ (padding (length spec.content.items) ++ rest))
unfolding region_bytes
region_text spec rest = simp append_assoc

-- a region whose rules hold is the one that these bytes spell
pub record IsSaid (bytes : List ℕ) (spec : RegionSpec) : Type 0 where
  pub spelled : bytes ≡ region_bytes spec ++ drop (region_size bytes) bytes
  pub region : IsRegion spec
  pub base : spec.base ≡ word_at 0 bytes
  pub pages : spec.pages ≡ word_at 4 bytes

pub region_said : (earlier : List RegionValue) (pages : ℕ) (bytes : List ℕ) (spec : RegionSpec) → IsBytes bytes
    → Holds earlier pages bytes → region_value spec ≡ region_at bytes → IsSaid bytes spec
unfolding region_at region_size
region_said earlier pages bytes spec fits h is =
    let base-is : spec.base ≡ word_at 0 bytes = ap (λ (r : RegionValue). r.base) is in
    let pages-is : spec.pages ≡ word_at 4 bytes = ap (λ (r : RegionValue). r.pages) is in
    let rights-is : spec.rights ≡ word_at 8 bytes = ap (λ (r : RegionValue). r.rights) is in
    let n : ℕ = word_at 12 bytes in
    let content-is : spec.content.items ≡ take n (drop 16 bytes) = ap (λ (r : RegionValue). r.content) is in
    let more : n ≤ padded n = omega arith in
    let long : length spec.content.items ≡ n = rw content-is (omega (arith, length-take n (drop 16 bytes), length-drop 16 bytes, h.whole)) in
    let text = region_text spec (drop (16 + padded n) bytes) in
    let rest-is : spec.content.items ++ (padding (length spec.content.items) ++ drop (16 + padded n) bytes) ≡ drop 16 bytes =
    rw (long, content-is) (sym (content_again n bytes h.whole h.zeros)) in
    let parts : region_bytes spec ++ drop (16 + padded n) bytes ≡ four_words (word_at 0 bytes) (word_at 4 bytes) (word_at 8 bytes) n (drop 16 bytes) =
    text ∙ rw (rest-is, base-is, pages-is, rights-is, long) refl in
    record {
      spelled = four_again bytes fits h.header ∙ sym parts;
      region = record {
        base = rw base-is h.base;
        some_page = rw pages-is h.some_page;
        pages = rw pages-is h.few_pages;
        end = rw (base-is, pages-is) h.end;
        some_right = rw rights-is h.some_right;
        rights = rw rights-is h.rights;
        content = rw (long, pages-is) h.content;
      };
      base = base-is;
      pages = pages-is;
    }
