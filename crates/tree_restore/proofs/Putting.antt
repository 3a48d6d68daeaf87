-- Objects that are put back one after another.
use Rattle.std.proofs.Common.{◌≡◌, ◌≢◌, ◌∙◌, ◌+◌, ◌≤◌, ℕ, List, [], Option, None, Some, All, ap, arith, get_or, inl, inr, subst, sym}
use Rattle.std.specs.List.{Contains}
use Rattle.std.proofs.lemmas.Bool.{cases_eq, cases_lt}
use Rattle.std.proofs.lemmas.List.Elements.{All-contains_itself}
use Rattle.link_lists.specs.Lists.{IsFree, list_at}
use Rattle.plain_laws.specs.Places.{IsPlaced}
use Rattle.plain_laws.specs.Fixed.{HasFixedObjects}
use Rattle.kobj_table.specs.declared.slot.Slot.{Slot}
use Rattle.kobj_table.specs.declared.objects.Objects.{Objects}
use Rattle.kobj_table.specs.Objects.{Rest, slot_at}
use Rattle.kobj_codec.specs.declared.obj.Obj.{Obj}
use Rattle.object_records.specs.Records.{HasOwnLists, list_in, record_at, record_of, state_of_records, threads_of}
use Rattle.tree_restore.specs.Whole.{AreEmptyFrom, AreWhole, HaveRecords}
use Rattle.durable_state.specs.Parts.{Parts}

-- records tell the lists of their objects
abbrev pub TellLists : Type 0
TellLists = (o : Objects) (i : ℕ) → HasOwnLists o → list_at o.links i ≡ list_in (record_at o i)

-- no thread is in the lists of two records of a state
abbrev pub HaveNoThreadTwice : Type 0
HaveNoThreadTwice = (records : ℕ → Option Obj) (rest : Rest) (i j thread : ℕ) → IsPlaced (state_of_records records rest)
    → HasFixedObjects (state_of_records records rest) → Contains (list_in (records i)) thread
    → Contains (list_in (records j)) thread → i ≡ j

none_in : (x : ℕ) → ¬ Contains [] x
none_in x there = omega (arith, there.1)

-- the threads of the next record are in no list yet
pub free_threads : TellLists → HaveNoThreadTwice → (o : Objects) (id : ℕ) (saved : Parts) (obj : Obj) → AreEmptyFrom o id → AreWhole saved
    → HaveRecords o id saved.objects → saved.objects id ≡ Some obj → All (IsFree o.links) (threads_of obj)
free_threads tell once o id saved obj empty whole have is = λ k d inside i there.
    let thread = get_or (threads_of obj) k d in
    let own : Contains (list_in (saved.objects id)) thread =
    subst (λ (told : Option Obj). Contains (list_in told) thread) (sym is) (All-contains_itself (threads_of obj) k d inside) in
    elim (cases_lt i id) [
      | inl below ↦ (
          let same = tell o i empty.own ∙ ap list_in (have i below) in
          let two = once saved.objects whole.rest i id thread whole.sound.placed whole.sound.fixed
          (subst (λ (ids : List ℕ). Contains ids thread) same there) own in
          omega (arith, two, below)
          )
      | inr above ↦ none_in thread (subst (λ (ids : List ℕ). Contains ids thread) (empty.lists i above) there)
    ]

-- what stands at a number and its list tell the record
pub same_record : (a b : Objects) (i : ℕ) → slot_at b i ≡ slot_at a i → list_at b.links i ≡ list_at a.links i → record_at b i ≡ record_at a i
same_record a b i slot list = ap (λ (s : Slot). record_of s (list_at b.links i)) slot ∙ ap (λ (ids : List ℕ). record_of (slot_at a i) ids) list

nothing_there : (o : Objects) (i : ℕ) → slot_at o i ≡ Slot.Empty → record_at o i ≡ None
nothing_there o i empty = ap (λ (s : Slot). record_of s (list_at o.links i)) empty

-- behind the last number nothing has a record
pub no_more : (o : Objects) (count i : ℕ) → AreEmptyFrom o count → count ≤ i → record_at o i ≡ None
no_more o count i empty above = nothing_there o i (empty.slots i above)

-- the next number has no record, and nothing is put there
pub passed : (o : Objects) (id : ℕ) → AreEmptyFrom o id → AreEmptyFrom o (id + 1)
passed o id empty = record {
  slots = λ i above. empty.slots i (omega (arith, above));
  lists = λ i above. empty.lists i (omega (arith, above));
  own = empty.own;
}

pub passed_records : (o : Objects) (id : ℕ) (records : ℕ → Option Obj) → AreEmptyFrom o id → records id ≡ None → HaveRecords o id records → HaveRecords o (id + 1) records
passed_records o id records empty none have = λ i below. elim (cases_eq i id) [
  | inl here ↦ rw here (no_more o id id empty (omega arith) ∙ sym none)
  | inr other ↦ have i (omega (arith, below, other))
]

-- it has one, and is put back
pub put : (a b : Objects) (id : ℕ) → AreEmptyFrom a id → ((i : ℕ) → i ≢ id → slot_at b i ≡ slot_at a i)
    → ((i : ℕ) → i ≢ id → list_at b.links i ≡ list_at a.links i) → HasOwnLists b → AreEmptyFrom b (id + 1)
put a b id empty slots lists own = record {
  slots = λ i above. slots i (λ same. omega (arith, same, above)) ∙ empty.slots i (omega (arith, above));
  lists = λ i above. lists i (λ same. omega (arith, same, above)) ∙ empty.lists i (omega (arith, above));
  own = own;
}

pub put_records : (a b : Objects) (id : ℕ) (records : ℕ → Option Obj) → ((i : ℕ) → i ≢ id → slot_at b i ≡ slot_at a i)
    → ((i : ℕ) → i ≢ id → list_at b.links i ≡ list_at a.links i) → record_at b id ≡ records id → HaveRecords a id records → HaveRecords b (id + 1) records
put_records a b id records slots lists here have = λ i below. elim (cases_eq i id) [
  | inl same ↦ rw same here
  | inr other ↦ same_record a b i (slots i other) (lists i other) ∙ have i (omega (arith, below, other))
]
