-- Pages that are marked as fresh one after another.
use Rattle.std.specs.Prelude.{◌≡◌, ◌≢◌, ℕ, ◌+◌, ◌==◌, ◌&&◌, ◌||◌, nat_lt, Bool, true, false, if◌then◌else◌, List, [], ◌∷◌, map}
use Rattle.std.proofs.Common.{refl, ap, sym, ◌∙◌, arith, inl, inr}
use Rattle.std.proofs.lemmas.Bool.{cases_eq, cases_lt, cases_Bool, eq-eqb, ne_eqb, lt-ltb, le-ltb}
use Rattle.sls_base.specs.declared.limits.TheConstants.{OUTPUT_CHANNELS}
use Rattle.sls_base.specs.declared.thread.Ring.{Ring}
use Rattle.mem_space.specs.declared.memory.MemPage.{MemPage}
use Rattle.kobj_table.specs.declared.slot.Slot.{Slot}
use Rattle.object_records.specs.Marks.{marked, page_marked, ring_marked}
use Rattle.leader_helper.specs.Sweep.{freshened, page_freshened, ring_freshened}

pub or_true : (a : Bool) → (a || true) ≡ true
or_true true = refl
or_true false = refl

pub or_none : (a : Bool) → (a || false) ≡ a
or_none true = refl
or_none false = refl

pub and_none : (a : Bool) → (a && false) ≡ false
and_none true = refl
and_none false = refl

pub and_all : (a : Bool) → (a && true) ≡ a
and_all true = refl
and_all false = refl

-- these pages, of those below another one
abbrev pub below : (ℕ → Bool) → ℕ → ℕ → Bool
below these end page = these page && nat_lt page end

lt_same : (page n : ℕ) → page ≢ n → nat_lt page (n + 1) ≡ nat_lt page n
lt_same page n other = elim (cases_lt page n) [
  | inl lt ↦ (let e : nat_lt page (n + 1) ≡ true = lt-ltb page (n + 1) (omega arith) in e ∙ sym (lt-ltb page n lt))
  | inr ge ↦ (let e : nat_lt page (n + 1) ≡ false = le-ltb page (n + 1) (omega arith) in e ∙ sym (le-ltb page n ge))
]

mark_step : (these : ℕ → Bool) (n page : ℕ) (fresh : Bool) → these n ≡ true
    → (fresh || below these (n + 1) page) ≡ (if page == n then true else (fresh || below these n page))
mark_step these n page fresh among = elim (cases_eq page n) [
  | inl here ↦
      let is : (page == n) ≡ true = eq-eqb page n here in
      let lt : nat_lt page (n + 1) ≡ true = lt-ltb page (n + 1) (omega arith) in
      let all : these page ≡ true = ap these here ∙ among in
      rw (is, lt, all) (or_true fresh)
  | inr other ↦
      let elsewhere : (page == n) ≡ false = ne_eqb page n other in
      rw (elsewhere, lt_same page n other) refl
]

stay_step : (these : ℕ → Bool) (n page : ℕ) → these n ≡ false → below these (n + 1) page ≡ below these n page
stay_step these n page isnt = elim (cases_eq page n) [
  | inl here ↦ (let none : these page ≡ false = ap these here ∙ isnt in rw none refl)
  | inr other ↦ rw (lt_same page n other) refl
]

-- A page that is marked.

with_mark : MemPage → Bool → MemPage
with_mark p fresh = record p { fresh = fresh }

mark_by : (n : ℕ) (p : MemPage) (fresh b : Bool) → (p.page == n) ≡ b → page_marked n true (with_mark p fresh) ≡ with_mark p (if p.page == n then true else fresh)
unfolding with_mark
mark_by n p fresh true is = rw is refl
mark_by n p fresh false is = rw is refl

page_step : (these : ℕ → Bool) (n : ℕ) (p : MemPage) → these n ≡ true → page_freshened (below these (n + 1)) p ≡ page_marked n true (page_freshened (below these n) p)
unfolding with_mark
page_step these n p among = ap (with_mark p) (mark_step these n p.page p.fresh among) ∙ sym (mark_by n p (p.fresh || below these n p.page) (p.page == n) refl)

pages_step : (these : ℕ → Bool) (n : ℕ) (items : List MemPage) → these n ≡ true
    → map (page_freshened (below these (n + 1))) items ≡ map (page_marked n true) (map (page_freshened (below these n)) items)
pages_step these n [] among = refl
pages_step these n (p ∷ items) among =
    ap (λ (q : MemPage). q ∷ map (page_freshened (below these (n + 1))) items) (page_step these n p among)
    ∙ ap (λ (l : List MemPage). page_marked n true (page_freshened (below these n) p) ∷ l) (pages_step these n items among)

page_stay : (these : ℕ → Bool) (n : ℕ) (p : MemPage) → these n ≡ false → page_freshened (below these (n + 1)) p ≡ page_freshened (below these n) p
unfolding with_mark
page_stay these n p isnt = ap (λ (b : Bool). with_mark p (p.fresh || b)) (stay_step these n p.page isnt)

pages_stay : (these : ℕ → Bool) (n : ℕ) (items : List MemPage) → these n ≡ false
    → map (page_freshened (below these (n + 1))) items ≡ map (page_freshened (below these n)) items
pages_stay these n [] isnt = refl
pages_stay these n (p ∷ items) isnt =
    ap (λ (q : MemPage). q ∷ map (page_freshened (below these (n + 1))) items) (page_stay these n p isnt)
    ∙ ap (λ (l : List MemPage). page_freshened (below these n) p ∷ l) (pages_stay these n items isnt)

-- A ring.

ring_with : Ring → Bool → Ring
ring_with ring fresh = record ring { fresh = fresh }

ring_mark_by : (n : ℕ) (ring : Ring) (fresh b : Bool) → (ring.page == n) ≡ b → nat_lt ring.channel OUTPUT_CHANNELS ≡ true
    → ring_marked n true (ring_with ring fresh) ≡ ring_with ring (if ring.page == n then true else fresh)
unfolding ring_with
ring_mark_by n ring fresh true is output = rw (is, output) refl
ring_mark_by n ring fresh false is output = rw is refl

ring_step : (these : ℕ → Bool) (n : ℕ) (ring : Ring) (output : Bool) → nat_lt ring.channel OUTPUT_CHANNELS ≡ output → these n ≡ true
    → ring_freshened (below these (n + 1)) ring ≡ ring_marked n true (ring_freshened (below these n) ring)
unfolding ring_with
ring_step these n ring true output among =
    let one : ring_freshened (below these (n + 1)) ring ≡ ring_with ring (ring.fresh || below these (n + 1) ring.page) = rw output refl in
    let two : ring_freshened (below these n) ring ≡ ring_with ring (ring.fresh || below these n ring.page) = rw output refl in
    one ∙ ap (ring_with ring) (mark_step these n ring.page ring.fresh among)
    ∙ sym (ap (ring_marked n true) two ∙ ring_mark_by n ring (ring.fresh || below these n ring.page) (ring.page == n) refl output)
ring_step these n ring false output among =
    let one : ring_freshened (below these (n + 1)) ring ≡ ring = rw output refl in
    let two : ring_freshened (below these n) ring ≡ ring = rw output refl in
    let three : ring_marked n true ring ≡ ring = rw (output, and_none (ring.page == n)) refl in
    one ∙ sym (ap (ring_marked n true) two ∙ three)

ring_stay : (these : ℕ → Bool) (n : ℕ) (ring : Ring) → these n ≡ false → ring_freshened (below these (n + 1)) ring ≡ ring_freshened (below these n) ring
unfolding ring_with
ring_stay these n ring isnt = ap (λ (b : Bool). if nat_lt ring.channel OUTPUT_CHANNELS then ring_with ring (ring.fresh || b) else ring) (stay_step these n ring.page isnt)

-- What stands in a slot.

slot_marked : (these : ℕ → Bool) (n : ℕ) (slot : Slot) → these n ≡ true → freshened (below these (n + 1)) slot ≡ marked n true (freshened (below these n) slot)
slot_marked these n Slot.Empty among = refl
slot_marked these n (Slot.Group group) among = refl
slot_marked these n (Slot.Thread thread) among = refl
slot_marked these n (Slot.Space space) among = refl
slot_marked these n (Slot.Memory memory) among = ap (λ (l : List MemPage). Slot.Memory (record { pages = record { items = l } })) (pages_step these n memory.pages.items among)
slot_marked these n (Slot.Connection c) among = refl
slot_marked these n (Slot.Notification note) among = refl
slot_marked these n (Slot.Ring ring) among = ap (λ (r : Ring). Slot.Ring r) (ring_step these n ring (nat_lt ring.channel OUTPUT_CHANNELS) refl among)
slot_marked these n (Slot.Scheduler cores) among = refl

slot_stays : (these : ℕ → Bool) (n : ℕ) (slot : Slot) → these n ≡ false → freshened (below these (n + 1)) slot ≡ freshened (below these n) slot
slot_stays these n Slot.Empty isnt = refl
slot_stays these n (Slot.Group group) isnt = refl
slot_stays these n (Slot.Thread thread) isnt = refl
slot_stays these n (Slot.Space space) isnt = refl
slot_stays these n (Slot.Memory memory) isnt = ap (λ (l : List MemPage). Slot.Memory (record { pages = record { items = l } })) (pages_stay these n memory.pages.items isnt)
slot_stays these n (Slot.Connection c) isnt = refl
slot_stays these n (Slot.Notification note) isnt = refl
slot_stays these n (Slot.Ring ring) isnt = ap (λ (r : Ring). Slot.Ring r) (ring_stay these n ring isnt)
slot_stays these n (Slot.Scheduler cores) isnt = refl

-- one page more, whether it is among them or not
pub slot_step : (these : ℕ → Bool) (n : ℕ) (slot : Slot)
    → freshened (below these (n + 1)) slot ≡ (if these n then marked n true (freshened (below these n) slot) else freshened (below these n) slot)
slot_step these n slot = elim (cases_Bool (these n)) [
  | inl among ↦ rw among (slot_marked these n slot among)
  | inr isnt ↦ rw isnt (slot_stays these n slot isnt)
]

-- None is below the first.

none_below : (these : ℕ → Bool) (page : ℕ) → below these 0 page ≡ false
none_below these page = (let first : nat_lt page 0 ≡ false = le-ltb page 0 (omega arith) in rw first (and_none (these page)))

page_none : (these : ℕ → Bool) (p : MemPage) → page_freshened (below these 0) p ≡ p
unfolding with_mark
page_none these p =
    let none : (p.fresh || below these 0 p.page) ≡ p.fresh = ap (λ (b : Bool). p.fresh || b) (none_below these p.page) ∙ or_none p.fresh in
    ap (with_mark p) none

pages_none : (these : ℕ → Bool) (items : List MemPage) → map (page_freshened (below these 0)) items ≡ items
pages_none these [] = refl
pages_none these (p ∷ items) =
    ap (λ (q : MemPage). q ∷ map (page_freshened (below these 0)) items) (page_none these p)
    ∙ ap (λ (l : List MemPage). p ∷ l) (pages_none these items)

ring_none : (these : ℕ → Bool) (ring : Ring) (output : Bool) → nat_lt ring.channel OUTPUT_CHANNELS ≡ output → ring_freshened (below these 0) ring ≡ ring
unfolding ring_with
ring_none these ring true output =
    let none : (ring.fresh || below these 0 ring.page) ≡ ring.fresh = ap (λ (b : Bool). ring.fresh || b) (none_below these ring.page) ∙ or_none ring.fresh in
    let one : ring_freshened (below these 0) ring ≡ ring_with ring (ring.fresh || below these 0 ring.page) = rw output refl in
    one ∙ ap (ring_with ring) none
ring_none these ring false output = rw output refl

pub slot_none : (these : ℕ → Bool) (slot : Slot) → freshened (below these 0) slot ≡ slot
slot_none these Slot.Empty = refl
slot_none these (Slot.Group group) = refl
slot_none these (Slot.Thread thread) = refl
slot_none these (Slot.Space space) = refl
slot_none these (Slot.Memory memory) = ap (λ (l : List MemPage). Slot.Memory (record { pages = record { items = l } })) (pages_none these memory.pages.items)
slot_none these (Slot.Connection c) = refl
slot_none these (Slot.Notification note) = refl
slot_none these (Slot.Ring ring) = ap (λ (r : Ring). Slot.Ring r) (ring_none these ring (nat_lt ring.channel OUTPUT_CHANNELS) refl)
slot_none these (Slot.Scheduler cores) = refl
