-- What the words of a record tell of its object, part by part.
use Rattle.std.proofs.Common.{◌≡◌, ℕ, zero, suc, ◌+◌, ◌-◌, ◌*◌, ◌/◌, ◌%◌, ◌^◌, ◌<◌, ◌≤◌, ◌∙◌, sym, ap, refl, arith, inl, inr, Bool, true, false, List, [], ◌∷◌, length, slice_index, get_or, All, Option, Some, None, IfSome}
use Rattle.std.specs.Prelude.{slice_get, slice_index_or}
use Rattle.std.specs.Option.{option_and_then}
use Rattle.std.proofs.lemmas.Bool.{cases_lt, lt-ltb, le-ltb, ne_eqb}
use Rattle.std.proofs.lemmas.List.{get_or_past}
use Rattle.std.proofs.lemmas.Nat.{mod_low, shr_high, shr-shr, mod_below}
use Rattle.sls_base.specs.declared.limits.TheConstants.{OBJECTS, CORES, GROUP_SLOTS, MEMORY_PAGES, REGISTERS}
use Rattle.sls_base.specs.declared.thread.ThreadState.{ThreadState}
use Rattle.sls_base.specs.declared.thread.ThreadState.TheVariants.{Ready, Running, Waiting, Calling, Served, Serving, Stopped}
use Rattle.sls_base.specs.declared.thread.Thread.{Thread}
use Rattle.cap_group.specs.declared.cap.Cap.{Cap}
use Rattle.cap_group.specs.declared.group.Group.{Group}
use Rattle.cap_group.specs.Cap.{IsCap}
use Rattle.cap_group.specs.Group.{cap_at}
use Rattle.mem_space.specs.declared.memory.MemPage.{MemPage}
use Rattle.mem_space.specs.declared.memory.Memory.{Memory}
use Rattle.pmem_layout.specs.Bits.{bits}
use Rattle.kobj_codec.specs.declared.list.TheConstants.{LIST_WORDS}
use Rattle.kobj_codec.specs.declared.obj.Scheduler.{Scheduler}
use Rattle.kobj_codec.specs.declared.obj.Obj.TheVariants as objs
use Rattle.kobj_codec.specs.Objects.{IsState, IsList, IsGroupRec, IsThread, IsMemory, IsPage}
use Rattle.kobj_codec.specs.Records.{IsRecord, packed, bytes_word, mark, slot_number, half, page_number, core_word, listed_word, state_number, about, client_number}

-- Rows of numbers.

-- field i of a word of numbers is the i-th of them
pub packed_field : (width : ℕ) (row : ℕ → ℕ) → ((j : ℕ) → row j < 2 ^ width) → (count at i : ℕ) → i < count
    → bits (width * i) width (packed width count row at) ≡ row (at + i)
packed_field width row fits zero at i lt = absurd (omega arith)
packed_field width row fits (suc count) at zero lt =
    let rest = packed width count row (at + 1) in
    let none : width * 0 ≡ 0 = omega arith in
    let here : at + 0 ≡ at = omega arith in
    let turned : row at + 2 ^ width * rest ≡ rest * 2 ^ width + row at = omega arith in
    let whole : (row at + 2 ^ width * rest) / 1 ≡ row at + 2 ^ width * rest = omega arith in
    rw (none, here, whole, turned) (mod_low rest width (row at) (fits at))
packed_field width row fits (suc count) at (suc i) lt =
    let rest = packed width count row (at + 1) in
    let more : width * suc i ≡ width + width * i = omega arith in
    let next : at + suc i ≡ at + 1 + i = omega arith in
    let turned : row at + 2 ^ width * rest ≡ rest * 2 ^ width + row at = omega arith in
    let gone : (rest * 2 ^ width + row at) / 2 ^ width ≡ rest = shr_high rest width (row at) (fits at) in
    let two : (row at + 2 ^ width * rest) / 2 ^ (width + width * i) ≡ rest / 2 ^ (width * i) =
    sym (shr-shr (row at + 2 ^ width * rest) width (width * i)) ∙ ap (λ n. n / 2 ^ width / 2 ^ (width * i)) turned ∙ ap (λ n. n / 2 ^ (width * i)) gone in
    rw (more, next, two) (packed_field width row fits count (at + 1) i (omega arith))

-- so each number of a row is told by the word that it stands in
pub row_told : (width per : ℕ) (row : ℕ → ℕ) → 0 < per → ((j : ℕ) → row j < 2 ^ width) → (word j : ℕ)
    → word ≡ packed width per row (per * (j / per)) → bits (width * (j % per)) width word ≡ row j
row_told width per row some fits word j is =
    let place : per * (j / per) + j % per ≡ j = omega arith in
    rw is (packed_field width row fits per (per * (j / per)) (j % per) (mod_below j per some) ∙ ap row place)

-- Parts fit the bits that they have.

pub mark_small : (a : Bool) → mark a ≤ 1
mark_small true = omega arith
mark_small false = omega arith

pub slot_small : (a : Option Cap) → IfSome a IsCap → slot_number a < 2 ^ 16
slot_small None h = omega arith
slot_small (Some a) h = omega (arith, h.object, h.rights)

pub page_small : (a : Option MemPage) → IfSome a IsPage → page_number a < 2 ^ 16
page_small None h = omega arith
page_small (Some a) h = let s = mark_small a.fresh in omega (arith, h, s)

-- each half but the first is a register
pub half_of_register : (t : Thread) (j : ℕ) → 1 ≤ j → half t j ≡ slice_index t.x j
half_of_register t j some = let off = ne_eqb j 0 (λ e. absurd (omega arith)) in rw off refl

pub half_small : (t : Thread) → IsThread t → (j : ℕ) → half t j < 2 ^ 32
half_small t i zero = i.pc_fits
half_small t i (suc j) = let e = half_of_register t (suc j) (omega arith) in rw e (i.fit (suc j))

pub gets_all : {X : Type 0} (P : X → Type 0) (xs : List X) → All P xs → (j : ℕ) → IfSome (slice_get xs j) P
gets_all P [] all j = tt
gets_all P (x ∷ xs) all zero = all 0 x (omega arith)
gets_all P (x ∷ xs) all (suc j) = gets_all P xs (λ k d lt. all (suc k) d (omega arith)) j

pub list_small : (ids : List ℕ) → IsList ids → (j : ℕ) → slice_index ids j < 2 ^ 8
list_small ids i j = elim (cases_lt j (length ids)) [
  | inl lt ↦ let s = i.below j 0 lt in omega (arith, s)
  | inr ge ↦ let e = get_or_past ids j 0 ge in omega (arith, e)
]

pub state_small : (s : ThreadState) → IsState s → (state_number s ≤ 6) × (about s < 2 ^ 8)
state_small Ready h = (omega arith, omega arith)
state_small (Running x) h = (omega arith, omega arith)
state_small (Waiting x) h = (omega arith, omega arith)
state_small (Calling x) h = (omega arith, omega arith)
state_small (Served x) h = (omega arith, omega arith)
state_small (Serving x) h = (omega arith, omega arith)
state_small (Stopped x) h = (omega arith, omega arith)

pub client_small : (a : Option ℕ) → IfSome a (λ id. id < OBJECTS) → client_number a < 2 ^ 9
client_small None h = omega arith
client_small (Some a) h = omega (arith, h)

held_at : (xs : List (Option Cap)) (k : ℕ) → option_and_then (λ held. held) (slice_get xs k) ≡ get_or xs k None
held_at [] k = refl
held_at (x ∷ xs) zero = refl
held_at (x ∷ xs) (suc k) = held_at xs k

-- what a slot holds is its element of the list
pub cap_here : (g : Group) (k : ℕ) → cap_at g k ≡ get_or g.slots k None
cap_here g k = held_at g.slots k

-- what is read behind the pages of a memory object
pub no_page : MemPage
no_page = record { page = 0; fresh = false }

-- What is told of each kind.

pub group_told : {words : ℕ → ℕ} (g : Group) → IsGroupRec g → IsRecord words (objs.Group g) → (j : ℕ)
    → j < GROUP_SLOTS
    → bits (16 * (j % 4)) 16 (words (j / 4 + 1)) ≡ slot_number (cap_at g j)
group_told {words} g i r j lt =
    row_told 16 4 (λ k. slot_number (cap_at g k)) (omega arith) (λ k. slot_small (cap_at g k) (i.slots k))
    (words (j / 4 + 1)) j (r.behind (j / 4) (omega arith))

pub thread_told : {words : ℕ → ℕ} (t : Thread) → IsThread t → IsRecord words (objs.Thread t) → (j : ℕ) → j < REGISTERS
    → bits (32 * (j % 2)) 32 (words (j / 2 + 1)) ≡ half t j
thread_told {words} t i r j lt =
    row_told 32 2 (half t) (omega arith) (half_small t i) (words (j / 2 + 1)) j (r.behind (j / 2) (omega arith))

pub memory_told : {words : ℕ → ℕ} (m : Memory) → IsMemory m → IsRecord words (objs.Memory m) → (j : ℕ)
    → j < MEMORY_PAGES → bits (16 * (j % 4)) 16 (words (j / 4 + 1)) ≡ page_number (slice_get m.pages.items j)
memory_told {words} m i r j lt =
    row_told 16 4 (λ k. page_number (slice_get m.pages.items k)) (omega arith)
    (λ k. page_small _ (gets_all IsPage m.pages.items i.pages k)) (words (j / 4 + 1)) j (r.behind (j / 4) (omega arith))

-- the words of a list, from a word on
pub record IsListed (words : ℕ → ℕ) (first : ℕ) (ids : List ℕ) : Type 0 where
  pub word : (i : ℕ) → i < LIST_WORDS → words (i + first) ≡ listed_word ids i

listed_behind : (ids : List ℕ) (k : ℕ) → listed_word ids (k + 1) ≡ bytes_word (slice_index ids) k
listed_behind ids k =
    let off = ne_eqb (k + 1) 0 (λ e. absurd (omega arith)) in
    let less : k + 1 - 1 ≡ k = omega arith in
    rw (off, less) refl

pub list_told : {words : ℕ → ℕ} (first : ℕ) (ids : List ℕ) → IsList ids → IsListed words first ids → (j : ℕ)
    → j < OBJECTS
    → bits (8 * (j % 8)) 8 (words (first + 1 + j / 8)) ≡ slice_index ids j
list_told {words} first ids i w j lt =
    let place : j / 8 + 1 + first ≡ first + 1 + j / 8 = omega arith in
    let word = w.word (j / 8 + 1) (omega arith) ∙ listed_behind ids (j / 8) in
    row_told 8 8 (slice_index ids) (omega arith) (list_small ids i) (words (first + 1 + j / 8)) j (rw place at word)

pub core_told : {words : ℕ → ℕ} (s : Scheduler) → IsRecord words (objs.Scheduler s) → (core : ℕ) → core < CORES
    → words (core + 1) ≡ core_word (slice_index_or s.running core None)
core_told {words} s r core lt =
    let low = lt-ltb core CORES lt in
    let word = r.behind core (omega arith) in rw low at word

pub queue_told : {words : ℕ → ℕ} (s : Scheduler) → IsRecord words (objs.Scheduler s)
    → IsListed words (1 + CORES) s.queue.items
queue_told {words} s r = record {
  word = λ i lt.
      let place : CORES + i + 1 ≡ i + (1 + CORES) = omega arith in
      let high = le-ltb (CORES + i) CORES (omega arith) in
      let less : CORES + i - CORES ≡ i = omega arith in
      let word = r.behind (CORES + i) (omega arith) in
      rw (high, less, place) at word;
}
