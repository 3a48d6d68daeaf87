-- The state that an image begins with: each of its objects is reached, and the sweep changes nothing.
use Rattle.std.specs.Prelude.{◌≡◌, ◌⊎◌, ℕ, ◌+◌, ◌<◌, ◌≤◌, ◌||◌, not, true, false, List, [], ◌∷◌, ◌++◌, length, map, replicate, sum_by, All, Option, Some, None, filter, slice_get, option_map}
use Rattle.std.specs.List.{list_any, range_with_len}
use Rattle.std.proofs.Common.{refl, ap, sym, ◌∙◌, arith, inl, inr}
use Rattle.std.proofs.lemmas.Bool.{cases_eq, cases_lt, eq-eqb, or_left, or_right}
use Rattle.std.proofs.lemmas.List.{length-map}
use Rattle.std.proofs.lemmas.List.Elements.{All-head, All-tail, All-replicate, All-weaker, filter_passes}
use Rattle.std.proofs.lemmas.List.Folds.{list_any-append, list_any_none, map_fixed}
use Rattle.std.proofs.lemmas.List.FromFn.{length-map-range_with_len}
use Rattle.std.proofs.lemmas.List.Sums.{sum_by-cons}
use Rattle.std.proofs.lemmas.Option.{slice_get_past}
use mathlib.Core.Path.{fun_ext}
use Rattle.sls_base.specs.declared.limits.TheConstants.{GROUP_SLOTS, OUTPUT_CHANNELS, OBJECTS}
use Rattle.sls_base.specs.declared.fixed.TheConstants.{ROOT_GROUP, FIRST_OUTPUT_RING, INPUT_RING, FIRST_PROGRAM_OBJECT, FIRST_PROGRAM_PAGE}
use Rattle.sls_base.specs.declared.thread.ThreadState.{ThreadState}
use Rattle.sls_base.specs.declared.thread.ThreadState.TheVariants.{Ready}
use Rattle.sls_base.specs.declared.image.Image.{Image}
use Rattle.sls_base.specs.declared.image.Program.{Program}
use Rattle.plain_state.specs.declared.objects.Capability.{Capability}
use Rattle.plain_state.specs.declared.objects.Occupant.{Occupant}
use Rattle.plain_model.specs.Objects.{Object, Group, Thread, Connection, Notification, empty_slots, is_thread}
use Rattle.plain_model.specs.States.{State}
use Rattle.plain_model.specs.Initial.{slots_with, all_rights, if_set, program_caps, programs_objects, program_size, program_pages, group_numbers, root_group, image_objects, initial, first_world, IsProgram, IsAccepted}
use Rattle.plain_model.specs.Sweep.{is_to, is_reached, swept, settled, is_lost, waits_for, loses_any, kept_on_core}
use Rattle.plain_laws.specs.Kept.{IsSaved}
use Rattle.sls_base.proofs.ListTests.{IsIn, here, there, in_range}
use Rattle.plain_laws.proofs.Lists.{any_taken}
use Rattle.plain_laws.proofs.Reaches.{reached_least}
use Rattle.plain_laws.proofs.Sweeps.{state_is}
use Rattle.plain_laws.proofs.Told.{loses_none, object_same}
use Rattle.plain_laws.proofs.InRangeLabels.{image_count, swept_none}
use Rattle.plain_laws.proofs.PlacedImages.{IsFresh, fresh_at, fresh_image}
use Rattle.plain_laws.proofs.NamesImages.{StandFrom, stand_all, program_split, image_stands}

-- Capabilities lead to their objects.

pub caps_lead : (numbers : List ℕ) (i : ℕ) → IsIn i numbers → list_any (is_to i) (map all_rights numbers) ≡ true
caps_lead [] i is = elim is [ ]
caps_lead (n ∷ numbers) i here = or_left (is_to i (all_rights i)) (list_any (is_to i) (map all_rights numbers)) (eq-eqb i i refl)
caps_lead (n ∷ numbers) i (there is) = or_right (is_to i (all_rights n)) (list_any (is_to i) (map all_rights numbers)) (caps_lead numbers i is)

-- Programs.

-- a program's capabilities but for those of its memory objects and threads
abbrev pub first_caps : Program → ℕ → List (Option Capability)
first_caps p n =
    map (λ channel. if_set p channel (FIRST_OUTPUT_RING + channel)) (range_with_len 0 OUTPUT_CHANNELS) ++ if_set p OUTPUT_CHANNELS INPUT_RING ∷ if_set p (OUTPUT_CHANNELS + 1) ROOT_GROUP ∷ []

abbrev pub own_caps : Program → ℕ → List (Option Capability)
own_caps p n = map all_rights (range_with_len (n + 2) (length p.regions.items + p.threads))

pub program_leads : (p : Program) (n i : ℕ) → n ≤ i → i < n + program_size p → list_any (is_to i) (program_caps p n) ≡ true
program_leads p n i from below =
    let rest = list_any (is_to i) (first_caps p n ++ own_caps p n) in
    elim (cases_eq n i) [
      | inl e ↦ or_left (is_to i (all_rights n)) (is_to i (all_rights (n + 1)) || rest) (eq-eqb n i e)
      | inr ne ↦ or_right (is_to i (all_rights n)) (is_to i (all_rights (n + 1)) || rest) (elim (cases_eq (n + 1) i) [
        | inl e ↦ or_left (is_to i (all_rights (n + 1))) rest (eq-eqb (n + 1) i e)
        | inr other ↦
            let own = caps_lead (range_with_len (n + 2) (length p.regions.items + p.threads)) i (in_range (n + 2) (length p.regions.items + p.threads) i (omega arith) (omega arith)) in
            or_right (is_to i (all_rights (n + 1))) rest (list_any-append (is_to i) (first_caps p n) (own_caps p n)
            ∙ or_right (list_any (is_to i) (first_caps p n)) (list_any (is_to i) (own_caps p n)) own)
      ])
    ]

pub caps_count : (p : Program) (n : ℕ) → IsProgram p → length (program_caps p n) ≤ GROUP_SLOTS
caps_count p n h =
    let a = length-map-range_with_len all_rights (n + 2) (length p.regions.items + p.threads) in
    let b = h.regions in
    let d = h.threads in
    omega arith

-- a program's group leads to each object of the program
pub program_reached : (s : State) (p : Program) (n i : ℕ) → s.objects n ≡ Some (Group (slots_with (program_caps p n))) → IsProgram p → n < OBJECTS → is_reached s n ≡ true
    → n ≤ i → i < n + program_size p → is_reached s i ≡ true
program_reached s p n i is h l r from below =
    let led = any_taken (is_to i) (program_caps p n) empty_slots GROUP_SLOTS (caps_count p n h) (program_leads p n i from below) in
    (reached_least s).closed n i l r (rw is led)

pub programs_reached : (s : State) (ps : List Program) (n k i : ℕ) → StandFrom s n (programs_objects ps n k) → All IsProgram ps → n + sum_by program_size ps ≤ OBJECTS
    → ((g : ℕ) → IsIn g (group_numbers ps n) → is_reached s g ≡ true) → n ≤ i → i < n + sum_by program_size ps → is_reached s i ≡ true
programs_reached s [] n k i stand each room groups from below = absurd (omega arith)
programs_reached s (p ∷ ps) n k i stand each room groups from below =
    let parts = program_split s p ps n k stand in
    let sizes = sum_by-cons program_size p ps in
    elim (cases_lt i (n + program_size p)) [
      | inl l ↦ program_reached s p n i parts.0.0 (All-head IsProgram p ps each) (omega arith) (groups n here) from l
      | inr l ↦ programs_reached s ps (n + program_size p) (k + program_pages p) i parts.1 (All-tail IsProgram p ps each) (omega arith) (λ g is. groups g (there is)) l (omega arith)
    ]

-- The image.

pub groups_count : (ps : List Program) (n : ℕ) → length (group_numbers ps n) ≡ length ps
groups_count [] n = refl
groups_count (p ∷ ps) n = (let rest = groups_count ps (n + program_size p) in omega arith)

pub root_leads : (ps : List Program) (g : ℕ) → length ps ≤ GROUP_SLOTS → IsIn g (group_numbers ps FIRST_PROGRAM_OBJECT)
    → list_any (is_to g) (slots_with (map all_rights (group_numbers ps FIRST_PROGRAM_OBJECT))) ≡ true
root_leads ps g l is =
    let numbers = group_numbers ps FIRST_PROGRAM_OBJECT in
    let count = groups_count ps FIRST_PROGRAM_OBJECT in
    let same = length-map numbers all_rights in
    any_taken (is_to g) (map all_rights numbers) empty_slots GROUP_SLOTS (omega arith) (caps_lead numbers g is)

pub root_is : (s : State) (ps : List Program) → StandFrom s 0 (image_objects ps) → s.objects ROOT_GROUP ≡ Some (root_group ps)
unfolding image_objects
root_is s ps h = h.0

pub image_reached : (s : State) (ps : List Program) (i : ℕ) → StandFrom s 0 (image_objects ps) → All IsProgram ps → length ps ≤ GROUP_SLOTS
    → FIRST_PROGRAM_OBJECT + sum_by program_size ps ≤ OBJECTS → i < FIRST_PROGRAM_OBJECT + sum_by program_size ps → is_reached s i ≡ true
image_reached s ps i stand each count room below =
    let least = reached_least s in
    let root : is_reached s ROOT_GROUP ≡ true = least.fixed ROOT_GROUP (omega arith) in
    elim (cases_lt i FIRST_PROGRAM_OBJECT) [
      | inl l ↦ least.fixed i l
      | inr l ↦ programs_reached s ps FIRST_PROGRAM_OBJECT FIRST_PROGRAM_PAGE i (image_stands s ps stand).1 each room
          (λ g is. least.closed ROOT_GROUP g (omega arith) root (rw (root_is s ps stand) (root_leads ps g count is))) l below
    ]

-- an object of the first state is reached
pub reached_or_none : (image : Image) (cores i : ℕ) → IsAccepted image → (is_reached (initial image cores) i ≡ true) ⊎ ((initial image cores).objects i ≡ None)
reached_or_none image cores i h =
    let s = initial image cores in
    let ps = image.programs.items in
    let stand = stand_all s 0 (image_objects ps) (λ j. (let same : 0 + j ≡ j = omega arith in ap (slice_get (image_objects ps)) same)) in
    let count = image_count ps in
    let few = h.programs in
    elim (cases_lt i (FIRST_PROGRAM_OBJECT + sum_by program_size ps)) [
      | inl l ↦ inl (image_reached s ps i stand h.each_program (omega arith) h.objects l)
      | inr l ↦ inr (slice_get_past (image_objects ps) i (omega arith))
    ]

-- The sweep of the first state.

pub fresh_same : (s : State) (o : Option Object) → IsFresh o → option_map (settled s) o ≡ o
fresh_same s (Some (Thread thread)) h =
    let ready : thread.state ≡ Ready = (let e = h.ready refl in cc) in
    object_same s (Some (Thread thread)) (ap (λ (state : ThreadState). is_lost s (waits_for state)) ready)
fresh_same s (Some (Connection server None clients)) h = object_same s (Some (Connection server None clients)) (ap (loses_any s) h.clients)
fresh_same s (Some (Connection server (Some client) clients)) h = (let e = h.served in absurd (cc))
fresh_same s (Some (Notification count waiters)) h = object_same s (Some (Notification count waiters)) (ap (loses_any s) h.waiters)
fresh_same s o h = refl

pub first_object : (image : Image) (cores i : ℕ) → IsAccepted image → (swept (initial image cores)).objects i ≡ (initial image cores).objects i
first_object image cores i h =
    let s = initial image cores in
    elim (reached_or_none image cores i h) [
      | inl r ↦ rw r (fresh_same s (s.objects i) (fresh_at (image_objects image.programs.items) (fresh_image image.programs.items) i))
      | inr none ↦ swept_none s (s.objects i) (is_reached s i) none ∙ sym none
    ]

pub thread_reached : (image : Image) (cores id : ℕ) → IsAccepted image → is_thread ((initial image cores).objects id) ≡ true → not (is_reached (initial image cores) id) ≡ false
thread_reached image cores id h is = elim (reached_or_none image cores id h) [
  | inl r ↦ ap not r
  | inr none ↦ (let f = ap is_thread none in absurd (cc))
]

pub first_queue : (image : Image) (cores : ℕ) → IsAccepted image → filter (is_reached (initial image cores)) (initial image cores).queue ≡ (initial image cores).queue
first_queue image cores h =
    let s = initial image cores in
    let os = image_objects image.programs.items in
    let threads : All (λ id. is_thread (slice_get os id) ≡ true) s.queue = filter_passes (λ id. is_thread (slice_get os id)) (range_with_len 0 (length os)) in
    loses_none (is_reached s) s.queue (list_any_none (λ id. not (is_reached s id)) s.queue
    (All-weaker (λ id. is_thread (slice_get os id) ≡ true) (λ id. not (is_reached s id) ≡ false) (λ id. thread_reached image cores id h) s.queue threads))

pub first_cores : (s : State) (cores : ℕ) → map (kept_on_core s) (replicate cores None) ≡ replicate cores None
first_cores s cores = map_fixed (kept_on_core s) (replicate cores None) (All-replicate (λ (core : Option Occupant). kept_on_core s core ≡ core) cores None refl)

pub first_swept : (image : Image) (cores : ℕ) → IsAccepted image → swept (initial image cores) ≡ initial image cores
first_swept image cores h =
    let s = initial image cores in
    state_is (swept s) s (fun_ext (λ i. first_object image cores i h)) (first_queue image cores h) (first_cores s cores) refl refl

pub first_saved : (image : Image) (cores : ℕ) → IsAccepted image → IsSaved (first_world image cores)
first_saved image cores h = record { swept = first_swept image cores h; objects = λ i there. there; pages = λ page has. has }
