-- A table with one object more.
use Rattle.std.proofs.Common.{◌≡◌, ◌≢◌, ℕ, ◌+◌, ◌<◌, ◌==◌, Bool, true, false, List, [], ◌∷◌, ◌++◌, length, Some, refl, ap, sym, ◌∙◌, subst, arith, inl, inr, length-append}
use Rattle.std.specs.Prelude.{if◌then◌else◌, slice_get, filter, Contains}
use Rattle.std.specs.List.{range_with_len}
use Rattle.std.proofs.lemmas.Bool.{false≢true, eqb-true, eqb-false}
use Rattle.std.proofs.lemmas.List.Elements.{filter-append, Contains-push_cases}
use Rattle.sls_base.specs.declared.limits.TheConstants.{OUTPUT_CHANNELS}
use Rattle.link_lists.specs.Lists.{list_at, IsFree}
use Rattle.ipc_note.specs.declared.lists.TheConstants.{RUN_QUEUE}
use Rattle.ipc_note.specs.Lists.{Appends}
use Rattle.plain_model.specs.Objects.{Object, is_thread}
use Rattle.plain_model.specs.Initial.{thread_numbers}
use Rattle.kobj_table.specs.declared.slot.Slot.{Slot}
use Rattle.kobj_table.specs.declared.objects.Objects.{Objects}
use Rattle.kobj_table.specs.Slots.{object_of, ring_of, has_list}
use Rattle.kobj_table.specs.Objects.{slot_at, object_at}
use Rattle.first_state.specs.Filled.{IsFilled, has_thread}
use Rattle.first_state.proofs.Lists.{pushed_last, pushed_other, range_pushed, filter_range}

-- an object that has no list is what stands in its slot
same_listless : (content : ℕ → ℕ → ℕ) (slot : Slot) (a b : List ℕ) → has_list slot ≡ false → object_of content slot a ≡ object_of content slot b
same_listless content Slot.Empty a b none = refl
same_listless content (Slot.Group group) a b none = refl
same_listless content (Slot.Thread thread) a b none = refl
same_listless content (Slot.Space space) a b none = refl
same_listless content (Slot.Memory memory) a b none = refl
same_listless content (Slot.Connection c) a b none = absurd (false≢true (sym none))
same_listless content (Slot.Notification note) a b none = absurd (false≢true (sym none))
same_listless content (Slot.Ring ring) a b none = refl
same_listless content (Slot.Scheduler cores) a b none = refl

ring_thread : (channel : ℕ) (b : Bool) → (channel == OUTPUT_CHANNELS) ≡ b → is_thread (Some (ring_of channel)) ≡ false
ring_thread channel true e = rw e refl
ring_thread channel false e = rw e refl

-- a slot has a thread where the plain machine has one
same_thread : (content : ℕ → ℕ → ℕ) (slot : Slot) (threads : List ℕ) → is_thread (object_of content slot threads) ≡ has_thread slot
same_thread content Slot.Empty threads = refl
same_thread content (Slot.Group group) threads = refl
same_thread content (Slot.Thread thread) threads = refl
same_thread content (Slot.Space space) threads = refl
same_thread content (Slot.Memory memory) threads = refl
same_thread content (Slot.Connection c) threads = refl
same_thread content (Slot.Notification note) threads = refl
same_thread content (Slot.Ring ring) threads = ring_thread ring.channel (ring.channel == OUTPUT_CHANNELS) refl
same_thread content (Slot.Scheduler cores) threads = refl

-- The objects.

-- One more stands at the number n, and the lists changed as they may.
record Adds (old new : Objects) (n : ℕ) (slot : Slot) : Type 0 where
  there : slot_at new n ≡ slot
  others : (i : ℕ) → i ≢ n → slot_at new i ≡ slot_at old i

listless_by : (old new : Objects) (n : ℕ) (slot : Slot) (i : ℕ) (b : Bool) → (i == n) ≡ b → Adds old new n slot → has_list slot ≡ false → ((i : ℕ) → has_list (slot_at old i) ≡ false) → has_list (slot_at new i) ≡ false
listless_by old new n slot i true same adds none listless = ap (λ k. has_list (slot_at new k)) (eqb-true i n same) ∙ (ap has_list adds.there ∙ none)
listless_by old new n slot i false same adds none listless = ap has_list (adds.others i (eqb-false i n same)) ∙ listless i

object_by : (content : ℕ → ℕ → ℕ) (old new : Objects) (list : List Object) (slot : Slot) (object : Object) (i : ℕ) (b : Bool) → (i == length list) ≡ b → Adds old new (length list) slot → has_list slot ≡ false →
    IsFilled content old list → object_of content slot [] ≡ Some object → object_at content new i ≡ slice_get (list ++ object ∷ []) i
object_by content old new list slot object i true same adds none filled is =
    let at = eqb-true i (length list) same in
    let pushed : slice_get (list ++ object ∷ []) i ≡ Some object = ap (slice_get (list ++ object ∷ [])) at ∙ pushed_last list object in
    ap (λ (s : Slot). object_of content s (list_at new.links i)) (ap (slot_at new) at ∙ adds.there)
    ∙ (same_listless content slot (list_at new.links i) [] none ∙ (is ∙ sym pushed))
object_by content old new list slot object i false same adds none filled is =
    let pushed = pushed_other list object i (eqb-false i (length list) same) in
    ap (λ (s : Slot). object_of content s (list_at new.links i)) (adds.others i (eqb-false i (length list) same))
    ∙ (same_listless content (slot_at old i) (list_at new.links i) (list_at old.links i) (filled.listless i) ∙ (filled.objects i ∙ sym pushed))

-- The run queue.

other_at : (list : List Object) (object : Object) (i : ℕ) → i < length list → is_thread (slice_get (list ++ object ∷ []) i) ≡ is_thread (slice_get list i)
other_at list object i below =
    ap is_thread (pushed_other list object i (λ e. absurd (omega arith)))

queue_pushed : (list : List Object) (object : Object) → thread_numbers (list ++ object ∷ []) ≡ thread_numbers list ++ (if is_thread (Some object) then length list ∷ [] else [])
queue_pushed list object =
    let p : ℕ → Bool = λ i. is_thread (slice_get (list ++ object ∷ []) i) in
    let q : ℕ → Bool = λ i. is_thread (slice_get list i) in
    let n = length list in
    let count : length (list ++ object ∷ []) ≡ n + 1 = length-append list (object ∷ []) in
    let here : p n ≡ is_thread (Some object) = ap is_thread (pushed_last list object) in
    let front : 0 + n ≡ n = omega arith in
    let range : range_with_len 0 (n + 1) ≡ range_with_len 0 n ++ n ∷ [] = range_pushed 0 n ∙ ap (λ k. range_with_len 0 n ++ k ∷ []) front in
    ap (λ k. filter p (range_with_len 0 k)) count
    ∙ (ap (filter p) range
    ∙ (filter-append p (range_with_len 0 n) (n ∷ [])
    ∙ (ap (λ (l : List ℕ). l ++ filter p (n ∷ [])) (filter_range p q 0 n (λ i from below. other_at list object i (omega arith)))
    ∙ ap (λ b. thread_numbers list ++ (if b then n ∷ [] else [])) here)))

queue_by : (list : List Object) (object : Object) (b : Bool) (queue : List ℕ) → is_thread (Some object) ≡ b → queue ≡ thread_numbers list ++ (if b then length list ∷ [] else []) → queue ≡ thread_numbers (list ++ object ∷ [])
queue_by list object b queue is now = now ∙ (ap (λ c. thread_numbers list ++ (if c then length list ∷ [] else [])) (sym is) ∙ sym (queue_pushed list object))

-- Both together: the table has one object more, and its number stands in the run queue where it is a thread.
pub filled_more : (content : ℕ → ℕ → ℕ) (old new : Objects) (list : List Object) (n : ℕ) (slot : Slot) (object : Object) → IsFilled content old list → length list ≡ n → object_of content slot [] ≡ Some object →
    has_list slot ≡ false → slot_at new n ≡ slot → ((i : ℕ) → i ≢ n → slot_at new i ≡ slot_at old i) →
    list_at new.links RUN_QUEUE ≡ list_at old.links RUN_QUEUE ++ (if has_thread slot then n ∷ [] else []) → ((i : ℕ) → i ≢ RUN_QUEUE → list_at new.links i ≡ list_at old.links i) →
    IsFilled content new (list ++ object ∷ [])
filled_more content old new list n slot object filled count is none there others queue lists =
    let adds : Adds old new (length list) slot = record { there = ap (slot_at new) count ∙ there; others = λ i other. others i (λ e. other (e ∙ sym count)) } in
    let thread : is_thread (Some object) ≡ has_thread slot = ap is_thread (sym is) ∙ same_thread content slot [] in
    let queued : list_at new.links RUN_QUEUE ≡ thread_numbers list ++ (if has_thread slot then length list ∷ [] else []) =
    queue ∙ (ap (λ (l : List ℕ). l ++ (if has_thread slot then n ∷ [] else [])) filled.queue ∙ ap (λ k. thread_numbers list ++ (if has_thread slot then k ∷ [] else [])) (sym count)) in
    record {
      objects = λ i. object_by content old new list slot object i (i == length list) refl adds none filled is;
      listless = λ i. listless_by old new (length list) slot i (i == length list) refl adds none filled.listless;
      queue = queue_by list object (has_thread slot) (list_at new.links RUN_QUEUE) thread queued;
      lists = λ i other. lists i other ∙ filled.lists i other;
    }

-- Who is in no list.

free_by : (old new : List (List ℕ)) (list n j i : ℕ) (b : Bool) → (i == list) ≡ b → Appends old new list n → j ≢ n → IsFree old j → ¬ Contains (list_at new i) j
free_by old new list n j i true same a other free there =
    let at = eqb-true i list same in
    let here : Contains (list_at old list ++ n ∷ []) j = subst (λ (l : List ℕ). Contains l j) a.last (subst (λ k. Contains (list_at new k) j) at there) in
    elim (Contains-push_cases (list_at old list) n j here) [
      | inl before ↦ free list before
      | inr is ↦ other (sym is)
    ]
free_by old new list n j i false same a other free there =
    free i (subst (λ (l : List ℕ). Contains l j) (a.others i (eqb-false i list same)) there)

-- who was in no list is in none after another came to one
pub still_free : (old new : List (List ℕ)) (list n j : ℕ) → Appends old new list n → j ≢ n → IsFree old j → IsFree new j
still_free old new list n j a other free i = free_by old new list n j i (i == list) refl a other free
