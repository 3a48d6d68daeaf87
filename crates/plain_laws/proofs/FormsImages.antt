-- Forms of objects: the state that an image begins with has them.
use Rattle.std.specs.Prelude.{◌≡◌, ℕ, zero, suc, ◌+◌, ◌≤◌, Bool, true, false, if◌then◌else◌, List, [], ◌∷◌, ◌++◌, length, map, All, AllPairs, Option, Some, None, slice_get}
use Rattle.std.specs.List.{range_with_len}
use Rattle.std.proofs.Common.{refl, ap, ◌∙◌, arith, inl, inr}
use Rattle.std.proofs.lemmas.List.{length-append, length-take, length-map}
use Rattle.std.proofs.lemmas.List.FromFn.{length-range_with_len}
use Rattle.std.proofs.lemmas.List.Elements.{All-nil, All-cons, All-head, All-tail, All-append, All-take, All-replicate}
use Rattle.sls_base.specs.declared.limits.TheConstants.{GROUP_SLOTS, OUTPUT_CHANNELS}
use Rattle.sls_base.specs.declared.fixed.TheConstants.{ROOT_GROUP, FIRST_OUTPUT_RING, INPUT_RING, FIRST_PROGRAM_OBJECT, FIRST_PROGRAM_PAGE}
use Rattle.sls_base.specs.declared.image.Image.{Image}
use Rattle.sls_base.specs.declared.image.Program.{Program}
use Rattle.sls_base.specs.declared.image.RegionSpec.{RegionSpec}
use Rattle.plain_state.specs.declared.label.Label.{Label}
use Rattle.plain_state.specs.declared.objects.Capability.{Capability}
use Rattle.plain_model.specs.Objects.{Object, Group, Space, OutputRing, InputRing, empty_slots, includes}
use Rattle.plain_model.specs.Play.{play}
use Rattle.plain_model.specs.Initial.{slots_with, all_rights, if_set, program_caps, program_regions, region_over, page_of_content, memory_of, program_memories, program_thread, program_objects, programs_objects, program_size, program_pages, pages_taken, group_numbers, image_objects, initial, first_world, IsApart, IsRegion, IsProgram, IsAccepted}
use Rattle.plain_laws.specs.Plays.{Both}
use Rattle.plain_laws.specs.Sound.{IsSlot, IsMapped, IsBefore, HasForm, HaveForms}
use Rattle.plain_laws.proofs.FormsRegions.{IsClear, pairs_head, pairs_tail, pairs_none, length_inserted, all_inserted, pairs_inserted}
use Rattle.plain_laws.proofs.Forms.{played_formed}

-- each object has its form
abbrev pub AllFit : List Object → Type 0
AllFit [] = Unit {0}
AllFit (o ∷ os) = HasForm (Some o) × AllFit os

pub fit_at : (os : List Object) → AllFit os → (i : ℕ) → HasForm (slice_get os i)
fit_at [] h i = tt
fit_at (o ∷ os) h zero = h.0
fit_at (o ∷ os) h (suc i) = fit_at os h.1 i

pub fit_append : (os more : List Object) → AllFit os → AllFit more → AllFit (os ++ more)
fit_append [] more h k = k
fit_append (o ∷ os) more h k = (h.0, fit_append os more h.1 k)

-- Groups.

slots_fit : (caps : List (Option Capability)) → All IsSlot caps → HasForm (Some (Group (slots_with caps)))
unfolding empty_slots
slots_fit caps h =
    let a = length-take GROUP_SLOTS (caps ++ empty_slots) in
    let b = length-append caps empty_slots in
    (omega arith, All-take IsSlot GROUP_SLOTS (caps ++ empty_slots) (All-append IsSlot caps empty_slots h (All-replicate IsSlot GROUP_SLOTS None tt)))

rights_fit : (objects : List ℕ) → All IsSlot (map all_rights objects)
rights_fit [] = All-nil IsSlot
rights_fit (object ∷ objects) = All-cons IsSlot (all_rights object) (map all_rights objects) (omega arith) (rights_fit objects)

slot_if : (object : ℕ) (b : Bool) → IsSlot (if b then all_rights object else None)
slot_if object true = omega arith
slot_if object false = tt

set_fits : (p : Program) (bit object : ℕ) → IsSlot (if_set p bit object)
set_fits p bit object = slot_if object (includes p.channels _)

channels_fit : (p : Program) (channels : List ℕ) → All IsSlot (map (λ channel. if_set p channel (FIRST_OUTPUT_RING + channel)) channels)
channels_fit p [] = All-nil IsSlot
channels_fit p (channel ∷ channels) = All-cons IsSlot (if_set p channel (FIRST_OUTPUT_RING + channel)) _ (set_fits p channel (FIRST_OUTPUT_RING + channel)) (channels_fit p channels)

caps_fit : (p : Program) (n : ℕ) → All IsSlot (program_caps p n)
caps_fit p n =
    let objects = map all_rights (range_with_len (n + 2) (length p.regions.items + p.threads)) in
    let root = if_set p (OUTPUT_CHANNELS + 1) ROOT_GROUP in
    let input = if_set p OUTPUT_CHANNELS INPUT_RING in
    let channels = map (λ channel. if_set p channel (FIRST_OUTPUT_RING + channel)) (range_with_len 0 OUTPUT_CHANNELS) in
    All-cons IsSlot (all_rights n) (all_rights (n + 1) ∷ channels ++ input ∷ root ∷ objects) (omega arith)
    (All-cons IsSlot (all_rights (n + 1)) (channels ++ input ∷ root ∷ objects) (omega arith)
    (All-append IsSlot channels (input ∷ root ∷ objects) (channels_fit p (range_with_len 0 OUTPUT_CHANNELS))
    (All-cons IsSlot input (root ∷ objects) (set_fits p OUTPUT_CHANNELS INPUT_RING)
    (All-cons IsSlot root objects (set_fits p (OUTPUT_CHANNELS + 1) ROOT_GROUP) (rights_fit (range_with_len (n + 2) (length p.regions.items + p.threads)))))))

-- Spaces.

mapped_over : (spec : RegionSpec) (n : ℕ) → IsRegion spec → IsMapped (region_over spec n)
mapped_over spec n h =
    let base = h.base in
    let end = h.end in
    record { some_page = h.some_page; end = omega arith; some_right = h.some_right; rights = h.rights }

clear_over : (a b : RegionSpec) (m n : ℕ) → IsRegion a → IsRegion b → IsApart a b → IsClear (region_over a m) (region_over b n)
clear_over a b m n h k (inl l) = (let x = h.base in let y = k.base in inl (omega arith))
clear_over a b m n h k (inr l) = (let x = h.base in let y = k.base in inr (omega arith))

regions_count : (specs : List RegionSpec) (n : ℕ) → length (program_regions specs n) ≡ length specs
regions_count [] n = refl
regions_count (spec ∷ specs) n = length_inserted (region_over spec n) (program_regions specs (n + 1)) ∙ ap suc (regions_count specs (n + 1))

regions_mapped : (specs : List RegionSpec) (n : ℕ) → All IsRegion specs → All IsMapped (program_regions specs n)
regions_mapped [] n h = All-nil IsMapped
regions_mapped (spec ∷ specs) n h =
    all_inserted IsMapped (region_over spec n) (program_regions specs (n + 1)) (mapped_over spec n (All-head IsRegion spec specs h)) (regions_mapped specs (n + 1) (All-tail IsRegion spec specs h))

regions_clear : (a : RegionSpec) (m : ℕ) (specs : List RegionSpec) (n : ℕ) → IsRegion a → All IsRegion specs → All (IsApart a) specs → All (IsClear (region_over a m)) (program_regions specs n)
regions_clear a m [] n h k apart = All-nil (IsClear (region_over a m))
regions_clear a m (spec ∷ specs) n h k apart =
    all_inserted (IsClear (region_over a m)) (region_over spec n) (program_regions specs (n + 1))
    (clear_over a spec m n h (All-head IsRegion spec specs k) (All-head (IsApart a) spec specs apart))
    (regions_clear a m specs (n + 1) h (All-tail IsRegion spec specs k) (All-tail (IsApart a) spec specs apart))

regions_rise : (specs : List RegionSpec) (n : ℕ) → All IsRegion specs → AllPairs IsApart specs → AllPairs IsBefore (program_regions specs n)
regions_rise [] n h apart = pairs_none IsBefore
regions_rise (spec ∷ specs) n h apart =
    let here = All-head IsRegion spec specs h in
    let rest = All-tail IsRegion spec specs h in
    pairs_inserted (region_over spec n) (program_regions specs (n + 1)) (mapped_over spec n here) (regions_mapped specs (n + 1) rest)
    (regions_clear spec n specs (n + 1) here rest (pairs_head IsApart spec specs apart)) (regions_rise specs (n + 1) rest (pairs_tail IsApart spec specs apart))

-- Objects.

memory_fits : (spec : RegionSpec) (k : ℕ) → IsRegion spec → HasForm (Some (memory_of spec k))
memory_fits spec k h =
    let a = length-map (range_with_len 0 spec.pages) (page_of_content spec.content.items k) in
    let b = length-range_with_len 0 spec.pages in
    let low = h.some_page in
    let high = h.pages in
    (omega arith, omega arith)

memories_fit : (specs : List RegionSpec) (k : ℕ) → All IsRegion specs → AllFit (program_memories specs k)
memories_fit [] k h = tt
memories_fit (spec ∷ specs) k h = (memory_fits spec k (All-head IsRegion spec specs h), memories_fit specs (k + pages_taken spec) (All-tail IsRegion spec specs h))

threads_fit : (p : Program) (n : ℕ) (js : List ℕ) → AllFit (map (program_thread p n) js)
threads_fit p n [] = tt
threads_fit p n (j ∷ js) = (tt, threads_fit p n js)

space_fits : (p : Program) (n : ℕ) → IsProgram p → HasForm (Some (Space (program_regions p.regions.items n)))
space_fits p n h =
    let count = regions_count p.regions.items n in
    let few = h.regions in
    (omega arith, regions_mapped p.regions.items n h.each_region, regions_rise p.regions.items n h.each_region h.apart)

program_fits : (p : Program) (n k : ℕ) → IsProgram p → AllFit (program_objects p n k)
program_fits p n k h = (
  slots_fit (program_caps p n) (caps_fit p n),
  (
    space_fits p (n + 2) h,
    fit_append (program_memories p.regions.items k) (map (program_thread p n) (range_with_len 0 p.threads)) (memories_fit p.regions.items k h.each_region) (threads_fit p n (range_with_len 0 p.threads)),
  ),
)

programs_fit : (ps : List Program) (n k : ℕ) → All IsProgram ps → AllFit (programs_objects ps n k)
programs_fit [] n k h = tt
programs_fit (p ∷ ps) n k h =
    fit_append (program_objects p n k) (programs_objects ps (n + program_size p) (k + program_pages p)) (program_fits p n k (All-head IsProgram p ps h))
    (programs_fit ps (n + program_size p) (k + program_pages p) (All-tail IsProgram p ps h))

rings_fit : (a n : ℕ) → a + n ≤ OUTPUT_CHANNELS → AllFit (map OutputRing (range_with_len a n))
rings_fit a zero l = tt
rings_fit a (suc n) l = (omega arith, rings_fit (a + 1) n (omega arith))

image_fits : (ps : List Program) → All IsProgram ps → AllFit (image_objects ps)
unfolding image_objects
image_fits ps h = (
  slots_fit (map all_rights (group_numbers ps FIRST_PROGRAM_OBJECT)) (rights_fit (group_numbers ps FIRST_PROGRAM_OBJECT)),
  (
    tt,
    fit_append (map OutputRing (range_with_len 0 OUTPUT_CHANNELS)) (InputRing ∷ programs_objects ps FIRST_PROGRAM_OBJECT FIRST_PROGRAM_PAGE) (rings_fit 0 OUTPUT_CHANNELS (omega arith))
        (tt, programs_fit ps FIRST_PROGRAM_OBJECT FIRST_PROGRAM_PAGE h),
  ),
)

pub first_formed : (image : Image) (cores : ℕ) → IsAccepted image → HaveForms (initial image cores)
first_formed image cores h = fit_at (image_objects image.programs.items) (image_fits image.programs.items h.each_program)

-- so has each state that a machine comes to
pub always_formed : (image : Image) (cores : ℕ) (labels : List Label) → IsAccepted image → Both HaveForms (play (first_world image cores) labels)
always_formed image cores labels h =
    let first = first_formed image cores h in
    played_formed (first_world image cores) labels (first, first)
