-- An entry in its place on a page.
use Rattle.std.specs.Prelude.{◌≡◌, ◌≢◌, ℕ, zero, suc, ◌+◌, ◌-◌, ◌*◌, ◌/◌, ◌%◌, ◌^◌, ◌<◌, ◌≤◌, true, false, List, ◌∷◌, ◌++◌, drop, length, replicate, slice_index, take}
use Rattle.std.specs.Int.{w64, to_le_bytes}
use Rattle.std.proofs.Common.{refl, ap, sym, ◌∙◌, append_assoc, arith, inl, inr}
use borrow.Rule.Slice.PartMut.{put_mid}
use Rattle.std.proofs.lemmas.Bool.{cases_lt, eq-eqb, ne_eqb}
use Rattle.std.proofs.lemmas.Bool.Decides.{nat_tests}
use Rattle.std.proofs.lemmas.List.{drop_at, drop-replicate, ext_get_or, take_at, get_or-append-add, get_or-append_right, get_or-replicate, get_or_append_left, get_or_past, length-append, length-replicate}
use Rattle.sls_base.specs.declared.limits.TheConstants.{ENTRY_BYTES, RING_ENTRIES}
use Rattle.plain_model.specs.Objects.{page_of_channel}
use Rattle.call_readings.specs.Content.{number_in}
use Rattle.pmem_model.specs.Words.{is_within}
use Rattle.page_bytes.specs.Bytes.{overwritten, with_bytes}
use Rattle.out_gate.specs.Entries.{entry_at, place_bytes, with_entry, HasEntry}

-- Numbers in bytes.

number_alike : (f g : ℕ → ℕ) (at n : ℕ) → ((k : ℕ) → k < n → f (at + k) ≡ g (at + k)) → number_in f at n ≡ number_in g at n
number_alike f g at zero same = refl
number_alike f g at (suc n) same =
    let none : at + 0 ≡ at = omega arith in
    let first : f at ≡ g at = ap f (sym none) ∙ same 0 (omega arith) ∙ ap g none in
    let next : (k : ℕ) → at + 1 + k ≡ at + (k + 1) = λ k. omega arith in
    let rest = number_alike f g (at + 1) n (λ k l. ap f (next k) ∙ same (k + 1) (omega (arith, l)) ∙ ap g (sym (next k))) in
    rw (first, rest) refl

zero_in : (f : ℕ → ℕ) (at n : ℕ) → ((k : ℕ) → k < n → f (at + k) ≡ 0) → number_in f at n ≡ 0
zero_in f at zero zeros = refl
zero_in f at (suc n) zeros =
    let none : at ≡ at + 0 = omega arith in
    let next : (k : ℕ) → at + 1 + k ≡ at + (k + 1) = λ k. omega arith in
    let first : f at ≡ 0 = ap f none ∙ zeros 0 (omega arith) in
    let rest = zero_in f (at + 1) n (λ k l. ap f (next k) ∙ zeros (k + 1) (omega (arith, l))) in
    rw (first, rest) refl

-- a number that stands in the first of some bytes
first_in : (f : ℕ → ℕ) (at n value : ℕ) → f at ≡ value → ((k : ℕ) → k < n → f (at + 1 + k) ≡ 0) → number_in f at (suc n) ≡ value
first_in f at n value first zeros =
    let none : number_in f (at + 1) n ≡ 0 = zero_in f (at + 1) n zeros in
    let whole : value + 2 ^ 8 * 0 ≡ value = omega arith in
    rw (first, none) whole

-- and the first byte of a small number
pub first_of : (f : ℕ → ℕ) (at n value : ℕ) → number_in f at (suc n) ≡ value → value ≤ ENTRY_BYTES → f at ≡ value
first_of f at n value whole small = omega (arith, whole, small)

-- The bytes of a place.

-- a length is in the first byte of its word
small_number : (n : ℕ) → n ≤ 56 → to_le_bytes w64 n ≡ n ∷ replicate 7 0
small_number n small =
    let first : n % 2 ^ 8 ≡ n = omega (arith, small) in
    let second : n / 2 ^ 8 ≡ 0 = omega (arith, small) in
    let third : n / 2 ^ 16 ≡ 0 = omega (arith, small) in
    let fourth : n / 2 ^ 24 ≡ 0 = omega (arith, small) in
    let fifth : n / 2 ^ 32 ≡ 0 = omega (arith, small) in
    let sixth : n / 2 ^ 40 ≡ 0 = omega (arith, small) in
    let seventh : n / 2 ^ 48 ≡ 0 = omega (arith, small) in
    let eighth : n / 2 ^ 56 ≡ 0 = omega (arith, small) in
    rw (first, second, third, fourth, fifth, sixth, seventh, eighth) refl

pub length_of_place : (entry : List ℕ) → length entry ≤ ENTRY_BYTES → length (place_bytes entry) ≡ 64
length_of_place entry most =
    let size = length-append (to_le_bytes w64 (length entry)) entry in
    let zeros : length (replicate (56 - length entry) 0) ≡ 56 - length entry = length-replicate {A = ℕ} (56 - length entry) 0 in
    length-append (to_le_bytes w64 (length entry) ++ entry) (replicate (56 - length entry) 0) ∙ omega (arith, size, zeros, most)

behind : (x k : ℕ) (xs : List ℕ) → slice_index (x ∷ xs) (k + 1) ≡ slice_index xs k
behind x k xs = let next : k + 1 ≡ suc k = omega arith in ap (slice_index (x ∷ xs)) next

no_more : (n k : ℕ) → slice_index (replicate n 0) k ≡ 0
no_more n k = elim (cases_lt k n) [
  | inl inside ↦ get_or-replicate n k 0 0 inside
  | inr past ↦ get_or_past (replicate n 0) k 0 (omega (arith, length-replicate {A = ℕ} n 0, past))
]

-- its first word
length_in_place : (entry : List ℕ) (k : ℕ) → length entry ≤ ENTRY_BYTES → k < 8 → slice_index (place_bytes entry) k ≡ slice_index (length entry ∷ replicate 7 0) k
length_in_place entry k most inside =
    let number = to_le_bytes w64 (length entry) in
    let size = length-append number entry in
    get_or_append_left (number ++ entry) (replicate (56 - length entry) 0) 0 k (omega (arith, size, inside))
    ∙ get_or_append_left number entry 0 k (omega (arith, inside))
    ∙ ap (λ (l : List ℕ). slice_index l k) (small_number (length entry) most)

-- and the others
entry_in_place : (entry : List ℕ) (k : ℕ) → length entry ≤ ENTRY_BYTES → slice_index (place_bytes entry) (8 + k) ≡ slice_index entry k
entry_in_place entry k most =
    let number = to_le_bytes w64 (length entry) in
    let zeros : List ℕ = replicate (56 - length entry) 0 in
    let size : length (number ++ entry) ≡ 8 + length entry = length-append number entry in
    elim (cases_lt k (length entry)) [
      | inl inside ↦
          get_or_append_left (number ++ entry) zeros 0 (8 + k) (omega (arith, size, inside))
          ∙ get_or-append-add number entry k 0
      | inr past ↦
          get_or-append_right (number ++ entry) zeros (8 + length entry) (8 + k) 0 size (omega (arith, past))
          ∙ no_more (56 - length entry) (8 + k - (8 + length entry))
          ∙ sym (get_or_past entry k 0 past)
    ]

-- what the code makes of them: a place of zeros in which the length and then the bytes were put
pub filled : (number entry : List ℕ) → length number ≡ 8 → length entry ≤ ENTRY_BYTES
    → put_mid 8 (8 + length entry - 8) (number ++ replicate 56 0) entry ≡ number ++ entry ++ replicate (56 - length entry) 0
filled number entry size most =
    let zeros : List ℕ = replicate 56 0 in
    let count : 8 + length entry - 8 ≡ length entry = omega arith in
    let front : take 8 (number ++ zeros) ≡ number = take_at number zeros 8 size in
    let back : drop 8 (number ++ zeros) ≡ zeros = drop_at number zeros 8 size in
    rw count (rw (front, back) (ap (λ (l : List ℕ). number ++ (entry ++ l)) (drop-replicate (length entry) 56 0)
    ∙ sym (append_assoc number entry (replicate (56 - length entry) 0))))

-- An entry on a page.

-- a byte of the place
in_place : (byte : ℕ → ℕ) (at k : ℕ) (bytes : List ℕ) → k < length bytes → overwritten byte at bytes (at + k) ≡ slice_index bytes k
in_place byte at k bytes inside =
    let there : is_within at (length bytes) (at + k) ≡ true = grind (arith, nat_tests, inside) in
    let offset : at + k - at ≡ k = omega arith in
    rw (there, offset) refl

module _ (byte : ℕ → ℕ) (number : ℕ) (entry : List ℕ) (some : 1 ≤ length entry) (most : length entry ≤ ENTRY_BYTES) where
  at : ℕ
  at = entry_at number

  place : List ℕ
  place = place_bytes entry

  placed : (k : ℕ) → k < 64 → overwritten byte at place (at + k) ≡ slice_index place k
  unfolding place
  placed k inside = in_place byte at k place (omega (arith, inside, length_of_place entry most))

  -- the entry that was put into its place stands there
  pub stands : HasEntry (overwritten byte (entry_at number) (place_bytes entry)) number entry
  unfolding at place
  stands =
      let none : at ≡ at + 0 = omega arith in
      let next : (k : ℕ) → at + 1 + k ≡ at + (k + 1) = λ k. omega arith in
      let later : (k : ℕ) → at + 8 + k ≡ at + (8 + k) = λ k. omega arith in
      let after = overwritten byte at place in
      record {
        some = some;
        most = most;
        size = first_in after at 7 (length entry)
            (ap after none ∙ placed 0 (omega arith) ∙ length_in_place entry 0 most (omega arith))
            (λ k l. ap after (next k) ∙ placed (k + 1) (omega (arith, l)) ∙ length_in_place entry (k + 1) most (omega (arith, l)) ∙ behind (length entry) k (replicate 7 0) ∙ no_more 7 k);
        bytes = λ k l. ap after (later k) ∙ placed (8 + k) (omega (arith, l)) ∙ entry_in_place entry k most;
      }

-- an entry stays where the bytes of its place stay
pub kept : (f g : ℕ → ℕ) (number : ℕ) (entry : List ℕ) → ((k : ℕ) → k < 64 → g (entry_at number + k) ≡ f (entry_at number + k)) → HasEntry f number entry → HasEntry g number entry
kept f g number entry same had =
    let at = entry_at number in
    let later : (k : ℕ) → at + 8 + k ≡ at + (8 + k) = λ k. omega arith in
    record {
      some = had.some;
      most = had.most;
      size = number_alike g f at 8 (λ k l. same k (omega (arith, l))) ∙ had.size;
      bytes = λ k l. ap g (later k) ∙ same (8 + k) (omega (arith, l)) ∙ ap f (sym (later k)) ∙ had.bytes k l;
    }

-- the places of the last 64 entries are apart
apart : (other number k : ℕ) → other < number → number < other + RING_ENTRIES → k < 64 → is_within (entry_at number) 64 (entry_at other + k) ≡ false
apart other number k before near inside = grind (arith, nat_tests, before, near, inside)

pub others_kept : (byte : ℕ → ℕ) (number other : ℕ) (entry before : List ℕ) → length entry ≤ ENTRY_BYTES → other < number → number < other + RING_ENTRIES
    → HasEntry byte other before → HasEntry (overwritten byte (entry_at number) (place_bytes entry)) other before
others_kept byte number other entry before most less near had =
    kept byte (overwritten byte (entry_at number) (place_bytes entry)) other before each had
  where
    each : (k : ℕ) → k < 64 → overwritten byte (entry_at number) (place_bytes entry) (entry_at other + k) ≡ byte (entry_at other + k)
    each k inside =
        let beside : is_within (entry_at number) (length (place_bytes entry)) (entry_at other + k) ≡ false =
        ap (λ (n : ℕ). is_within (entry_at number) n (entry_at other + k)) (length_of_place entry most) ∙ apart other number k less near inside in
        rw beside refl

-- one entry alone is in a place
pub one_entry : (byte : ℕ → ℕ) (number : ℕ) (first second : List ℕ) → HasEntry byte number first → HasEntry byte number second → first ≡ second
one_entry byte number first second a b =
    ext_get_or 0 first second (sym a.size ∙ b.size)
    (λ k inside. let room : k < ENTRY_BYTES = omega (arith, inside, a.most) in sym (a.bytes k room) ∙ b.bytes k room)

-- The pages of channels.

-- the channel's own page
pub own_page : (content : ℕ → ℕ → ℕ) (channel number : ℕ) (entry : List ℕ)
    → with_entry content channel number entry (page_of_channel channel) ≡ overwritten (content (page_of_channel channel)) (entry_at number) (place_bytes entry)
own_page content channel number entry = rw (eq-eqb channel channel refl) refl

-- another page
pub other_page : (content : ℕ → ℕ → ℕ) (page at number : ℕ) (bytes : List ℕ) → number ≢ page → with_bytes content page at bytes number ≡ content number
other_page content page at number bytes ne = rw (ne_eqb number page ne) refl
