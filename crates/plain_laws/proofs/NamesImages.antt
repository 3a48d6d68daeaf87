-- What objects name is there: in the state that an image begins with, and in each that a machine comes to.
use Rattle.std.specs.Prelude.{◌≡◌, ◌≢◌, ℕ, zero, suc, ◌+◌, ◌^◌, ◌<◌, ◌≤◌, Bool, true, false, if◌then◌else◌, List, [], ◌∷◌, ◌++◌, length, map, replicate, All, Option, Some, None, slice_get}
use Rattle.std.specs.List.{range_with_len}
use Rattle.std.proofs.Common.{refl, ap, sym, ◌∙◌, arith}
use Rattle.std.proofs.lemmas.List.{length-append}
use Rattle.std.proofs.lemmas.List.FromFn.{length-map-range_with_len}
use Rattle.std.proofs.lemmas.List.Elements.{All-nil, All-cons, All-append, All-take, All-replicate}
use Rattle.sls_base.specs.declared.limits.TheConstants.{GROUP_SLOTS, OUTPUT_CHANNELS}
use Rattle.sls_base.specs.declared.fixed.TheConstants.{ROOT_GROUP, FIRST_OUTPUT_RING, INPUT_RING, FIRST_PROGRAM_OBJECT, FIRST_PROGRAM_PAGE}
use Rattle.sls_base.specs.declared.image.Image.{Image}
use Rattle.sls_base.specs.declared.image.Program.{Program}
use Rattle.sls_base.specs.declared.image.RegionSpec.{RegionSpec}
use Rattle.plain_state.specs.declared.objects.Capability.{Capability}
use Rattle.plain_state.specs.declared.objects.Kind.TheVariants.{GroupKind, SpaceKind}
use Rattle.plain_state.specs.declared.label.Label.{Label}
use Rattle.plain_model.specs.Objects.{Object, Group, Space, OutputRing, InputRing, empty_slots, includes, is_kind}
use Rattle.plain_model.specs.States.{State}
use Rattle.plain_model.specs.Play.{play}
use Rattle.plain_model.specs.Initial.{slots_with, all_rights, if_set, program_caps, program_regions, region_over, page_of_content, program_memories, program_thread, program_objects, programs_objects, program_size, program_pages, pages_taken, memory_of, group_numbers, image_objects, initial, first_world}
use Rattle.plain_laws.specs.Plays.{Both}
use Rattle.plain_laws.specs.Laws.{AreInRange}
use Rattle.plain_laws.specs.Sound.{NamesObject, NamesPages, NamesWhatIs, NameWhatIs}
use Rattle.plain_model.proofs.SlowInitial.{objects_count, memories_count}
use Rattle.plain_laws.proofs.PlacedImages.{first_placed}
use Rattle.plain_laws.proofs.NamesCalls.{inserted_names}
use Rattle.plain_laws.proofs.NamesLabels.{played_names}

-- Objects that stand in a state from a number on.

abbrev pub StandFrom : State → ℕ → List Object → Type 0
StandFrom s n [] = Unit {0}
StandFrom s n (o ∷ os) = (s.objects n ≡ Some o) × StandFrom s (n + 1) os

pub stand_split : (s : State) (n m : ℕ) (xs ys : List Object) → m ≡ n + length xs → StandFrom s n (xs ++ ys) → StandFrom s n xs × StandFrom s m ys
stand_split s n m [] ys e h = (let same : m ≡ n = omega arith in (tt, rw same h))
stand_split s n m (x ∷ xs) ys e h = (let rest = stand_split s (n + 1) m xs ys (omega arith) h.1 in ((h.0, rest.0), rest.1))

pub stand_all : (s : State) (n : ℕ) (os : List Object) → ((i : ℕ) → s.objects (n + i) ≡ slice_get os i) → StandFrom s n os
stand_all s n [] h = tt
stand_all s n (o ∷ os) h =
    let here : n ≡ n + 0 = omega arith in
    (ap s.objects here ∙ h 0, stand_all s (n + 1) os (λ i. (let next : n + 1 + i ≡ n + suc i = omega arith in ap s.objects next ∙ h (suc i))))

pub some_there : (o : Option Object) (object : Object) → o ≡ Some object → o ≢ None
some_there o object e none = (let f : Some object ≡ None = sym e ∙ none in absurd (cc))

pub there_at : (s : State) (n i : ℕ) (os : List Object) → StandFrom s n os → i < length os → s.objects (n + i) ≢ None
there_at s n i [] h l = absurd (omega arith)
there_at s n zero (o ∷ os) h l = (let here : n + 0 ≡ n = omega arith in rw here (some_there (s.objects n) o h.0))
there_at s n (suc i) (o ∷ os) h l = (let next : n + suc i ≡ n + 1 + i = omega arith in rw next (there_at s (n + 1) i os h.1 (omega arith)))

-- Each object of a list names what is there.

abbrev pub AllName : State → List Object → Type 0
AllName s [] = Unit {0}
AllName s (o ∷ os) = NamesWhatIs s (Some o) × AllName s os

pub name_append : (s : State) (os more : List Object) → AllName s os → AllName s more → AllName s (os ++ more)
name_append s [] more h k = k
name_append s (o ∷ os) more h k = (h.0, name_append s os more h.1 k)

pub name_at : (s : State) (os : List Object) → AllName s os → (i : ℕ) → NamesWhatIs s (slice_get os i)
name_at s [] h i = tt
name_at s (o ∷ os) h zero = h.0
name_at s (o ∷ os) h (suc i) = name_at s os h.1 i

-- Capabilities.

pub slots_with_names : (s : State) (caps : List (Option Capability)) → All (NamesObject s) caps → All (NamesObject s) (slots_with caps)
unfolding empty_slots
slots_with_names s caps h =
    All-take (NamesObject s) GROUP_SLOTS (caps ++ replicate GROUP_SLOTS None)
    (All-append (NamesObject s) caps (replicate GROUP_SLOTS None) h (All-replicate (NamesObject s) GROUP_SLOTS None tt))

pub either_names : (s : State) (object : ℕ) (b : Bool) → s.objects object ≢ None → NamesObject s (if b then all_rights object else None)
either_names s object true h = h
either_names s object false h = tt

pub set_names : (s : State) (p : Program) (bit object : ℕ) → s.objects object ≢ None → NamesObject s (if_set p bit object)
set_names s p bit object h = either_names s object (includes p.channels (2 ^ bit)) h

pub range_names : (s : State) (a m : ℕ) (os : List Object) → StandFrom s a os → m ≡ length os → All (NamesObject s) (map all_rights (range_with_len a m))
range_names s a zero os h e = All-nil (NamesObject s)
range_names s a (suc m) [] h e = absurd (omega arith)
range_names s a (suc m) (o ∷ os) h e =
    All-cons (NamesObject s) (all_rights a) (map all_rights (range_with_len (a + 1) m)) (some_there (s.objects a) o h.0) (range_names s (a + 1) m os h.1 (omega arith))

pub channels_names : (s : State) (p : Program) (a m : ℕ) → ((i : ℕ) → a ≤ i → i < a + m → s.objects (FIRST_OUTPUT_RING + i) ≢ None)
    → All (NamesObject s) (map (λ channel. if_set p channel (FIRST_OUTPUT_RING + channel)) (range_with_len a m))
channels_names s p a zero h = All-nil (NamesObject s)
channels_names s p a (suc m) h =
    All-cons (NamesObject s) (if_set p a (FIRST_OUTPUT_RING + a)) (map (λ channel. if_set p channel (FIRST_OUTPUT_RING + channel)) (range_with_len (a + 1) m))
    (set_names s p a (FIRST_OUTPUT_RING + a) (h a (omega arith) (omega arith)))
    (channels_names s p (a + 1) m (λ i from below. h i (omega arith) (omega arith)))

-- the objects that are always there
abbrev pub HasFirst : State → Type 0
HasFirst s = (i : ℕ) → i < FIRST_PROGRAM_OBJECT → s.objects i ≢ None

pub caps_names : (s : State) (p : Program) (n : ℕ) (os : List Object) → HasFirst s → s.objects n ≢ None → s.objects (n + 1) ≢ None → StandFrom s (n + 2) os → length p.regions.items + p.threads ≡ length os
    → All (NamesObject s) (program_caps p n)
caps_names s p n os first group space h e =
    let P = NamesObject s in
    let rings = map (λ channel. if_set p channel (FIRST_OUTPUT_RING + channel)) (range_with_len 0 OUTPUT_CHANNELS) in
    let own = map all_rights (range_with_len (n + 2) (length p.regions.items + p.threads)) in
    let others = if_set p OUTPUT_CHANNELS INPUT_RING ∷ if_set p (OUTPUT_CHANNELS + 1) ROOT_GROUP ∷ own in
    All-cons P (all_rights n) (all_rights (n + 1) ∷ rings ++ others) group
    (All-cons P (all_rights (n + 1)) (rings ++ others) space
    (All-append P rings others (channels_names s p 0 OUTPUT_CHANNELS (λ i from below. first (FIRST_OUTPUT_RING + i) (omega arith)))
    (All-cons P (if_set p OUTPUT_CHANNELS INPUT_RING) (if_set p (OUTPUT_CHANNELS + 1) ROOT_GROUP ∷ own) (set_names s p OUTPUT_CHANNELS INPUT_RING (first INPUT_RING (omega arith)))
    (All-cons P (if_set p (OUTPUT_CHANNELS + 1) ROOT_GROUP) own (set_names s p (OUTPUT_CHANNELS + 1) ROOT_GROUP (first ROOT_GROUP (omega arith)))
    (range_names s (n + 2) (length p.regions.items + p.threads) os h e)))))

-- Regions.

pub over_names : (s : State) (spec : RegionSpec) (n k : ℕ) → s.objects n ≡ Some (memory_of spec k) → NamesPages s (region_over spec n)
over_names s spec n k e =
    let l = length-map-range_with_len (page_of_content spec.content.items k) 0 spec.pages in
    rw e (refl, omega arith)

pub program_regions_names : (s : State) (specs : List RegionSpec) (n k : ℕ) → StandFrom s n (program_memories specs k) → All (NamesPages s) (program_regions specs n)
program_regions_names s [] n k h = All-nil (NamesPages s)
program_regions_names s (spec ∷ specs) n k h =
    inserted_names s (region_over spec n) (program_regions specs (n + 1)) (over_names s spec n k h.0) (program_regions_names s specs (n + 1) (k + pages_taken spec) h.1)

-- Programs.

pub memories_name : (s : State) (specs : List RegionSpec) (k : ℕ) → AllName s (program_memories specs k)
memories_name s [] k = tt
memories_name s (spec ∷ specs) k = (tt, memories_name s specs (k + pages_taken spec))

pub threads_name : (s : State) (p : Program) (n : ℕ) (js : List ℕ) → is_kind GroupKind (s.objects n) ≡ true → is_kind SpaceKind (s.objects (n + 1)) ≡ true → AllName s (map (program_thread p n) js)
threads_name s p n [] group space = tt
threads_name s p n (j ∷ js) group space = ((group, space), threads_name s p n js group space)

pub program_names : (s : State) (p : Program) (n k : ℕ) → HasFirst s → StandFrom s n (program_objects p n k) → AllName s (program_objects p n k)
program_names s p n k first h =
    let memories = program_memories p.regions.items k in
    let threads = map (program_thread p n) (range_with_len 0 p.threads) in
    let two : n + 1 + 1 ≡ n + 2 = omega arith in
    let own : StandFrom s (n + 2) (memories ++ threads) = rw two at h.1.1 in
    let a = memories_count p.regions.items k in
    let b = length-map-range_with_len (program_thread p n) 0 p.threads in
    let d = length-append memories threads in
    let parts = stand_split s (n + 2) (n + 2 + length memories) memories threads refl own in
    let group : is_kind GroupKind (s.objects n) ≡ true = rw h.0 refl in
    let space : is_kind SpaceKind (s.objects (n + 1)) ≡ true = rw h.1.0 refl in
    let there : s.objects n ≢ None = some_there (s.objects n) (Group (slots_with (program_caps p n))) h.0 in
    let there_too : s.objects (n + 1) ≢ None = some_there (s.objects (n + 1)) (Space (program_regions p.regions.items (n + 2))) h.1.0 in (
      slots_with_names s (program_caps p n) (caps_names s p n (memories ++ threads) first there there_too own (omega arith)),
      (
        program_regions_names s p.regions.items (n + 2) k parts.0,
        name_append s memories threads (memories_name s p.regions.items k) (threads_name s p n (range_with_len 0 p.threads) group space),
      ),
    )

-- a program, and those behind it
pub program_split : (s : State) (p : Program) (ps : List Program) (n k : ℕ) → StandFrom s n (programs_objects (p ∷ ps) n k)
    → StandFrom s n (program_objects p n k) × StandFrom s (n + program_size p) (programs_objects ps (n + program_size p) (k + program_pages p))
program_split s p ps n k h =
    let e = objects_count p n k in
    stand_split s n (n + program_size p) (program_objects p n k) (programs_objects ps (n + program_size p) (k + program_pages p)) (omega arith) h

pub programs_name : (s : State) (ps : List Program) (n k : ℕ) → HasFirst s → StandFrom s n (programs_objects ps n k) → AllName s (programs_objects ps n k)
programs_name s [] n k first h = tt
programs_name s (p ∷ ps) n k first h =
    let parts = program_split s p ps n k h in
    name_append s (program_objects p n k) (programs_objects ps (n + program_size p) (k + program_pages p)) (program_names s p n k first parts.0)
    (programs_name s ps (n + program_size p) (k + program_pages p) first parts.1)

pub groups_names : (s : State) (ps : List Program) (n k : ℕ) → StandFrom s n (programs_objects ps n k) → All (NamesObject s) (map all_rights (group_numbers ps n))
groups_names s [] n k h = All-nil (NamesObject s)
groups_names s (p ∷ ps) n k h =
    let parts = program_split s p ps n k h in
    All-cons (NamesObject s) (all_rights n) (map all_rights (group_numbers ps (n + program_size p)))
    (some_there (s.objects n) (Group (slots_with (program_caps p n))) parts.0.0)
    (groups_names s ps (n + program_size p) (k + program_pages p) parts.1)

-- The image.

pub rings_name : (s : State) (channels : List ℕ) → AllName s (map OutputRing channels)
rings_name s [] = tt
rings_name s (channel ∷ channels) = (tt, rings_name s channels)

pub image_stands : (s : State) (ps : List Program) → StandFrom s 0 (image_objects ps) → HasFirst s × StandFrom s FIRST_PROGRAM_OBJECT (programs_objects ps FIRST_PROGRAM_OBJECT FIRST_PROGRAM_PAGE)
unfolding image_objects
image_stands s ps h = (
  λ i l. (let same : 0 + i ≡ i = omega arith in rw same at (there_at s 0 i (image_objects ps) h (omega arith))),
  h.1.1.1.1.1.1.1,
)

pub image_names : (s : State) (ps : List Program) → StandFrom s 0 (image_objects ps) → AllName s (image_objects ps)
unfolding image_objects
image_names s ps h =
    let parts = image_stands s ps h in
    let programs = programs_objects ps FIRST_PROGRAM_OBJECT FIRST_PROGRAM_PAGE in (
      slots_with_names s (map all_rights (group_numbers ps FIRST_PROGRAM_OBJECT)) (groups_names s ps FIRST_PROGRAM_OBJECT FIRST_PROGRAM_PAGE parts.1),
      (
        tt,
        name_append s (map OutputRing (range_with_len 0 OUTPUT_CHANNELS)) (InputRing ∷ programs) (rings_name s (range_with_len 0 OUTPUT_CHANNELS))
            (tt, programs_name s ps FIRST_PROGRAM_OBJECT FIRST_PROGRAM_PAGE parts.0 parts.1),
      ),
    )

pub first_names : (image : Image) (cores : ℕ) → NameWhatIs (initial image cores)
first_names image cores =
    let s = initial image cores in
    let os = image_objects image.programs.items in
    let stand = stand_all s 0 os (λ i. (let same : 0 + i ≡ i = omega arith in ap (slice_get os) same)) in
    name_at s os (image_names s image.programs.items stand)

-- so is each state that a machine comes to, where numbers stay in range
pub always_names : (image : Image) (cores : ℕ) (labels : List Label) → ((some : List Label) → AreInRange (play (first_world image cores) some).now)
    → Both NameWhatIs (play (first_world image cores) labels)
always_names image cores labels range =
    let placed = first_placed image cores in
    let names = first_names image cores in
    played_names (first_world image cores) labels (placed, placed) range (names, names)
