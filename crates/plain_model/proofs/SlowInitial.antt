-- Lists of the state that an image begins with.
use Rattle.std.specs.Prelude.{◌≡◌, ℕ, zero, suc, ◌+◌, ◌<◌, ◌≤◌, Bool, true, false, filter, slice_get, slice_index_or, List, [], ◌∷◌, ◌++◌, length, map, take, drop, replicate, Option, Some, None, slice_index}
use Rattle.std.specs.List.{range_with_len}
use Rattle.std.proofs.Common.{refl, ap, subst, get_or, All, arith, sym, ◌∙◌, ⊎_elim, append_assoc}
use Rattle.std.proofs.lemmas.Bool.{cases_lt}
use Rattle.std.proofs.lemmas.List.Elements.{filter-append}
use Rattle.std.proofs.lemmas.List.{map_push, get_or_past, get_or-take, get_or-drop, length-take, append-nil, length-map, length-append, at_drop_more}
use mathlib.Core.Path.{fun_ext}
use Rattle.sls_base.specs.declared.limits.TheConstants.{GROUP_SLOTS}
use Rattle.plain_state.specs.declared.objects.Capability.{Capability}
use Rattle.plain_state.specs.declared.object.Object.{Object as SlowObject}
use Rattle.plain_state.specs.declared.objects.Occupant.{Occupant}
use Rattle.plain_state.specs.States.{State}
use Rattle.plain_state.specs.Objects.{Object, empty_slots, is_thread}
use Rattle.plain_state.specs.Slow.{object_of, slot_of, objects_of, entries_of, inputs_of}
use Rattle.plain_model.specs.SlowWorld.{is_in}
use Rattle.plain_state.specs.declared.effect.Output.{Output}
use Rattle.plain_state.specs.declared.state.Waiting.{Waiting}
use Rattle.plain_state.specs.Worlds.{World}
use Rattle.sls_base.specs.declared.image.Program.{Program}
use Rattle.sls_base.specs.declared.image.RegionSpec.{RegionSpec}
use Rattle.plain_model.specs.Initial.{slots_with, program_size, pages_taken, program_pages, program_memories, program_thread, program_objects, programs_objects, thread_numbers}
use Rattle.plain_state.proofs.SlowLists.{page_with_bytes}
use Rattle.plain_state.proofs.SlowMemory.{range_more}

-- Empty slots.

-- one more behind a list that is long enough
one_spare : {X : Type 0} → (n m : ℕ) (x : X) (xs : List X) → n ≤ length xs + m → take n (xs ++ replicate (suc m) x) ≡ take n (xs ++ replicate m x)
one_spare zero m x xs h = refl
one_spare (suc n) zero x [] h = absurd (omega arith)
one_spare (suc n) (suc m) x [] h = ap (λ l. x ∷ l) (one_spare n m x [] (omega arith))
one_spare (suc n) m x (y ∷ ys) h = ap (λ l. y ∷ l) (one_spare n m x ys (omega arith))

pub slots_with_more : (slots : List (Option Capability)) → slots_with (slots ++ None ∷ []) ≡ slots_with slots
unfolding empty_slots
slots_with_more slots =
    let e : (slots ++ None ∷ []) ++ empty_slots ≡ slots ++ replicate (suc GROUP_SLOTS) None = append_assoc slots (None ∷ []) (replicate GROUP_SLOTS None) in
    ap (take GROUP_SLOTS) e ∙ one_spare GROUP_SLOTS GROUP_SLOTS None slots (omega arith)

front : {X : Type 0} → (n : ℕ) (xs ys : List X) → length xs ≡ n → take n (xs ++ ys) ≡ xs
front n [] ys e = rw (sym e) refl
front zero (x ∷ xs) ys e = absurd (omega arith)
front (suc n) (x ∷ xs) ys e = ap (λ l. x ∷ l) (front n xs ys (omega arith))

pub slots_with_all : (slots : List (Option Capability)) → length slots ≡ GROUP_SLOTS → slots_with slots ≡ slots
slots_with_all slots e = front GROUP_SLOTS slots empty_slots e

-- Ranges.

pub mapped_more : {X Y : Type 0} → (g : X → Y) (f : ℕ → Y) (xs : List X) (x : X) (a n : ℕ) → map g xs ≡ map f (range_with_len a n) → g x ≡ f (a + n) →
    map g (xs ++ x ∷ []) ≡ map f (range_with_len a (n + 1))
mapped_more g f xs x a n was here =
    let next : n + 1 ≡ suc n = omega arith in
    map_push g xs x ∙ ap (λ l. l ++ g x ∷ []) was ∙ ap (λ y. map f (range_with_len a n) ++ y ∷ []) here
    ∙ sym (ap (λ k. map f (range_with_len a k)) next ∙ ap (map f) (range_more a n) ∙ map_push f (range_with_len a n) (a + n))

-- A page of a content.

pub page_of_bytes : (number k n from : ℕ) (content bytes : List ℕ) → number ≡ k → length bytes ≡ n → ((i : ℕ) → i < n → slice_index bytes i ≡ slice_index content (from + i)) →
    page_with_bytes number (slice_index bytes) ≡ page_with_bytes k (slice_index (take n (drop from content)))
page_of_bytes number k n from content bytes numbered count same =
    ap (λ m. page_with_bytes m (slice_index bytes)) numbered
    ∙ ap (page_with_bytes k) (fun_ext (λ i. ⊎_elim
    (λ (inside : i < n). same i inside ∙ sym (get_or-take n (drop from content) i 0 inside ∙ get_or-drop from content i 0))
    (λ (past : n ≤ i). get_or_past bytes i 0 (omega arith) ∙ sym (get_or_past (take n (drop from content)) i 0 (let e = length-take n (drop from content) in omega arith)))
    (cases_lt i n)))

-- Ranges, behind a list.

pub map_range_more : {Y : Type 0} → (f : ℕ → Y) (a n : ℕ) → map f (range_with_len a (n + 1)) ≡ map f (range_with_len a n) ++ f (a + n) ∷ []
map_range_more f a n =
    let next : n + 1 ≡ suc n = omega arith in
    ap (λ k. map f (range_with_len a k)) next ∙ ap (map f) (range_more a n) ∙ map_push f (range_with_len a n) (a + n)

pub behind_more : {Y : Type 0} → (f : ℕ → Y) (before xs after : List Y) (y : Y) (a n m : ℕ) → xs ≡ before ++ map f (range_with_len a n) → after ≡ xs ++ y ∷ [] → y ≡ f (a + n) → m ≡ n + 1 →
    after ≡ before ++ map f (range_with_len a m)
behind_more f before xs after y a n m was now here next =
    now ∙ ap (λ l. l ++ y ∷ []) was ∙ ap (λ z. (before ++ map f (range_with_len a n)) ++ z ∷ []) here
    ∙ append_assoc before (map f (range_with_len a n)) (f (a + n) ∷ [])
    ∙ ap (λ l. before ++ l) (sym (map_range_more f a n))
    ∙ ap (λ k. before ++ map f (range_with_len a k)) (sym next)

-- Objects by number.

pub slots_more : (objects : List (Option SlowObject)) (i : ℕ) → objects_of (objects ++ None ∷ []) i ≡ objects_of objects i
slots_more [] zero = refl
slots_more [] (suc i) = refl
slots_more (o ∷ os) zero = refl
slots_more (o ∷ os) (suc i) = slots_more os i

pub objects_more : (objects : List (Option SlowObject)) → objects_of (objects ++ None ∷ []) ≡ objects_of objects
objects_more objects = fun_ext (slots_more objects)

some_at : (list : List Object) (i : ℕ) → slice_index_or (map Some list) i None ≡ slice_get list i
some_at [] i = refl
some_at (o ∷ os) zero = refl
some_at (o ∷ os) (suc i) = some_at os i

pub objects_from : (objects : List (Option SlowObject)) (list : List Object) → map slot_of objects ≡ map Some list → objects_of objects ≡ slice_get list
objects_from objects list e =
    let by_slot : List (Option Object) → ℕ → Option Object = λ slots i. slice_index_or slots i None in
    ap by_slot e ∙ fun_ext (some_at list)

pub object_at : (list : List SlowObject) (i : ℕ) (o : SlowObject) → i < length list → o ≡ get_or list i o → slice_get (map object_of list) i ≡ Some (object_of o)
object_at [] i o below e = absurd (omega arith)
object_at (x ∷ xs) zero o below e = ap (λ (y : SlowObject). Some (object_of y)) (sym e)
object_at (x ∷ xs) (suc i) o below e = object_at xs i o (omega arith) e

-- A filter over a range.

pub filter_range_more : (p : ℕ → Bool) (n : ℕ) → filter p (range_with_len 0 (n + 1)) ≡ filter p (range_with_len 0 n) ++ filter p (n ∷ [])
filter_range_more p n =
    let next : n + 1 ≡ suc n = omega arith in
    let here : 0 + n ≡ n = omega arith in
    ap (λ k. filter p (range_with_len 0 k)) next ∙ ap (filter p) (range_more 0 n) ∙ filter-append p (range_with_len 0 n) ((0 + n) ∷ [])
    ∙ ap (λ k. filter p (range_with_len 0 n) ++ filter p (k ∷ [])) here

pub filter_taken : (p : ℕ → Bool) (n : ℕ) (before after : List ℕ) → before ≡ filter p (range_with_len 0 n) → p n ≡ true → after ≡ before ++ n ∷ [] → after ≡ filter p (range_with_len 0 (n + 1))
filter_taken p n before after was taken now = now ∙ ap (λ l. l ++ n ∷ []) was ∙ sym (filter_range_more p n ∙ rw taken refl)

pub filter_left : (p : ℕ → Bool) (n : ℕ) (before after : List ℕ) → before ≡ filter p (range_with_len 0 n) → p n ≡ false → after ≡ before → after ≡ filter p (range_with_len 0 (n + 1))
filter_left p n before after was left now = now ∙ was ∙ sym (filter_range_more p n ∙ rw left (append-nil (filter p (range_with_len 0 n))))

-- Objects of programs.

pub memories_count : (specs : List RegionSpec) (k : ℕ) → length (program_memories specs k) ≡ length specs
memories_count [] k = refl
memories_count (spec ∷ specs) k = let e = memories_count specs (k + pages_taken spec) in omega arith

range_count : (a n : ℕ) → length (range_with_len a n) ≡ n
range_count a zero = refl
range_count a (suc n) = let e = range_count (a + 1) n in omega arith

pub objects_count : (p : Program) (n k : ℕ) → length (program_objects p n k) ≡ program_size p
objects_count p n k =
    let memories = program_memories p.regions.items k in
    let threads = map (program_thread p n) (range_with_len 0 p.threads) in
    let a = memories_count p.regions.items k in
    let b : length threads ≡ p.threads = length-map (range_with_len 0 p.threads) (program_thread p n) ∙ range_count 0 p.threads in
    let d = length-append memories threads in
    omega arith

pub count_more : (objects after : List Object) (p : Program) (n k m : ℕ) → after ≡ objects ++ program_objects p n k → m ≡ length objects + program_size p → length after ≡ m
count_more objects after p n k m now next =
    let a = ap length now ∙ length-append objects (program_objects p n k) in
    let b = objects_count p n k in
    omega arith

pub programs_more : (objects after : List Object) (ps rest : List Program) (p : Program) (n n' k k' : ℕ) → after ≡ objects ++ program_objects p n k → ps ≡ p ∷ rest →
    n' ≡ n + program_size p → k' ≡ k + program_pages p → after ++ programs_objects rest n' k' ≡ objects ++ programs_objects ps n k
programs_more objects after ps rest p n n' k k' now first a b =
    ap (λ l. l ++ programs_objects rest n' k') now
    ∙ append_assoc objects (program_objects p n k) (programs_objects rest n' k')
    ∙ ap (λ m. objects ++ (program_objects p n k ++ programs_objects rest m k')) a
    ∙ ap (λ m. objects ++ (program_objects p n k ++ programs_objects rest (n + program_size p) m)) b
    ∙ ap (λ l. objects ++ programs_objects l n k) (sym first)

pub drop_next : {X : Type 0} → (xs : List X) (i : ℕ) (x : X) → i < length xs → x ≡ get_or xs i x → drop i xs ≡ x ∷ drop (i + 1) xs
drop_next xs i x below e = at_drop_more (λ l. l) xs i x below ∙ ap (λ y. y ∷ drop (i + 1) xs) (sym e)

pub others_too : {X : Type 0} → (P : X → Type 0) (xs rest : List X) (x : X) → xs ≡ x ∷ rest → All P xs → All P rest
others_too P xs rest x e all =
    let here : All P (x ∷ rest) = subst (All P) e all in
    λ k d below. here (suc k) d (omega arith)

-- The state.

-- a state of these parts
abbrev pub state_parts : (ℕ → Option Object) → List ℕ → List (Option Occupant) → List Output → List Waiting → State
state_parts objects queue cores out inputs = record { objects = objects; queue = queue; cores = cores; out = entries_of out; inputs = inputs_of inputs }

pub first_state : (objects objects' : ℕ → Option Object) (queue queue' : List ℕ) (cores cores' : List (Option Occupant)) (out : List Output) (inputs : List Waiting) →
    objects ≡ objects' → queue ≡ queue' → cores ≡ cores' → out ≡ [] → inputs ≡ [] → state_parts objects queue cores out inputs ≡ state_parts objects' queue' cores' [] []
first_state objects objects' queue queue' cores cores' out inputs a b d e f =
    ap (λ o. state_parts o queue cores out inputs) a
    ∙ ap (λ q. state_parts objects' q cores out inputs) b
    ∙ ap (λ q. state_parts objects' queue' q out inputs) d
    ∙ ap (λ o. state_parts objects' queue' cores' o inputs) e
    ∙ ap (state_parts objects' queue' cores' []) f

pub threads_same : (list : List SlowObject) (objects : List Object) → map object_of list ≡ objects →
    filter (λ i. is_thread (slice_get (map object_of list) i)) (range_with_len 0 (length list)) ≡ thread_numbers objects
threads_same list objects e =
    let p : ℕ → Bool = λ i. is_thread (slice_get (map object_of list) i) in
    ap (λ (n : ℕ). filter p (range_with_len 0 n)) (sym (length-map list object_of)) ∙ ap thread_numbers e

-- a world of these parts, of version 0
abbrev pub world_parts : State → State → List Output → List ℕ → List ℕ → World
world_parts now saved released stored changed =
    record { now = now; saved = saved; released = entries_of released; base = λ channel. 0; version = 0; stored = is_in stored; changed = is_in changed }

pub first_world : (now saved first : State) (released : List Output) (stored changed : List ℕ) → now ≡ first → saved ≡ first → released ≡ [] → stored ≡ [] → changed ≡ [] →
    world_parts now saved released stored changed ≡ world_parts first first [] [] []
first_world now saved first released stored changed a b d e f =
    ap (λ s. world_parts s saved released stored changed) a
    ∙ ap (λ s. world_parts first s released stored changed) b
    ∙ ap (λ r. world_parts first first r stored changed) d
    ∙ ap (λ r. world_parts first first [] r changed) e
    ∙ ap (world_parts first first [] []) f
