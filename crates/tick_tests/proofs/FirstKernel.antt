-- The first kernel of an image is a world's.
use Rattle.std.specs.Prelude.{◌≡◌, ℕ, zero, suc, ◌<◌, ◌≤◌, ◌&&◌, ◌++◌, nat_lt, true, false, List, [], ◌∷◌, length, replicate, sum_by, slice_index}
use Rattle.std.specs.List.{flat_map}
use Rattle.std.proofs.Common.{refl, ap, sym, arith, inl, inr, length-append}
use Rattle.std.proofs.lemmas.Bool.{cases_lt}
use Rattle.std.proofs.lemmas.Bool.Decides.{nat_tests}
use Rattle.std.proofs.lemmas.List.{get_or_past}
use Rattle.std.proofs.lemmas.List.Concat.{flat_map-cons}
use Rattle.std.proofs.lemmas.List.FromFn.{length-map-range_with_len}
use Rattle.std.proofs.lemmas.List.Sums.{sum_by-cons}
use Rattle.sls_base.specs.declared.limits.TheConstants.{OUTPUT_CHANNELS, PAGE_BYTES, PAGES}
use Rattle.sls_base.specs.declared.fixed.TheConstants.{FIRST_PROGRAM_PAGE, SCHEDULER}
use Rattle.sls_base.specs.declared.image.Image.{Image}
use Rattle.sls_base.specs.declared.image.Program.{Program}
use Rattle.sls_base.specs.declared.image.RegionSpec.{RegionSpec}
use Rattle.pmem_model.specs.Memory.{Memory}
use Rattle.plain_model.specs.Initial.{IsAccepted, first_world, initial, program_pages, pages_taken}
use Rattle.plain_laws.specs.Whole.{IsSound}
use Rattle.kobj_table.specs.declared.slot.Slot.{Slot}
use Rattle.kobj_table.specs.declared.slot.Slot.TheVariants as slots
use Rattle.kobj_table.specs.declared.objects.Objects.{Objects}
use Rattle.kobj_table.specs.Slots.{is_scheduler}
use Rattle.kobj_table.specs.Objects.{slot_at, state_of, HasNoStrays}
use Rattle.call_readings.specs.Content.{Reads}
use Rattle.call_readings.specs.Kernel.{CountsEntries}
use Rattle.first_state.specs.Content.{content_on, image_parts, program_parts, region_parts, part_of, HoldsImage}
use Rattle.first_state.specs.Filled.{first_rest}
use Rattle.kernel_calls.specs.Kernel.{IsJustSaved}
use Rattle.tick_tests.specs.FirstKernel.{content_of, CountsNone, StandsBelow}

-- what the cached words have is read from them
pub reads_content_of : (m : Memory) → Reads (content_of m) m
reads_content_of m = record {
  home = λ page offset below fits home.
      let here : (nat_lt page PAGES && nat_lt offset PAGE_BYTES) ≡ true = grind (arith, nat_tests, below, fits) in
      rw here refl;
  end = λ page offset past.
      let there : (nat_lt page PAGES && nat_lt offset PAGE_BYTES) ≡ false = grind (arith, nat_tests, past) in
      rw there refl;
  none = λ page offset past.
      let there : (nat_lt page PAGES && nat_lt offset PAGE_BYTES) ≡ false = grind (arith, nat_tests, past) in
      rw there refl;
}

-- The image has no more pages than there are.

specs_count : (specs : List RegionSpec) → length (flat_map region_parts specs) ≡ sum_by pages_taken specs
specs_count [] = refl
specs_count (spec ∷ specs) =
    let one : length (region_parts spec) ≡ spec.pages = length-map-range_with_len (part_of spec.content.items) 0 spec.pages in
    let others = specs_count specs in
    let long = length-append (region_parts spec) (flat_map region_parts specs) in
    let parts : length (flat_map region_parts (spec ∷ specs)) ≡ length (region_parts spec ++ flat_map region_parts specs) = ap length (flat_map-cons region_parts spec specs) in
    let pages = sum_by-cons pages_taken spec specs in
    omega arith

programs_count : (ps : List Program) → length (flat_map program_parts ps) ≡ sum_by program_pages ps
programs_count [] = refl
programs_count (p ∷ ps) =
    let one : length (program_parts p) ≡ program_pages p = specs_count p.regions.items in
    let others = programs_count ps in
    let long = length-append (program_parts p) (flat_map program_parts ps) in
    let parts : length (flat_map program_parts (p ∷ ps)) ≡ length (program_parts p ++ flat_map program_parts ps) = ap length (flat_map-cons program_parts p ps) in
    let pages = sum_by-cons program_pages p ps in
    omega arith

past_end : (image : Image) (page : ℕ) → IsAccepted image → PAGES ≤ page → content_on image page ≡ []
unfolding image_parts
past_end image page accepted past =
    let ps = image.programs.items in
    let first : List (List ℕ) = replicate FIRST_PROGRAM_PAGE [] in
    let count = programs_count ps in
    let long = length-append first (flat_map program_parts ps) in
    let size : length first ≡ FIRST_PROGRAM_PAGE = refl in
    let most = accepted.pages in
    get_or_past (first ++ flat_map program_parts ps) page [] (omega (arith, count, long, size, most, past))

pub holds_image : (image : Image) (m : Memory) → IsAccepted image → StandsBelow image m PAGES → HoldsImage (content_of m) image
holds_image image m accepted stands page offset some = elim (cases_lt page PAGES) [
  | inl below ↦ stands page below (content_of m) (reads_content_of m) offset some
  | inr past ↦ absurd (some (past_end image page accepted past))
]

-- Rings count what the first world has put, which is nothing.

counted : (image : Image) (cores : ℕ) (slot : Slot) → CountsNone slot → CountsEntries slot (first_world image cores)
counted image cores (slots.Ring ring) none = (none.0, λ other. none.1)
counted image cores slot none = tt

-- no device has accepted anything
pub zeros : (channel : ℕ) → slice_index (0 ∷ 0 ∷ 0 ∷ 0 ∷ []) channel ≡ 0
zeros zero = refl
zeros (suc zero) = refl
zeros (suc (suc zero)) = refl
zeros (suc (suc (suc zero))) = refl
zeros (suc (suc (suc (suc channel)))) = refl

pub begun : (image : Image) (cores : ℕ) (m : Memory) (o : Objects) (accepted : List ℕ) → IsSound (first_world image cores)
    → state_of o (first_rest (content_of m)) ≡ initial image cores → is_scheduler (slot_at o SCHEDULER) ≡ true → HasNoStrays o
    → ((id : ℕ) → CountsNone (slot_at o id)) → ((channel : ℕ) → channel < OUTPUT_CHANNELS → slice_index accepted channel ≡ 0)
    → IsJustSaved o [] accepted m (first_rest (content_of m)) (first_world image cores)
begun image cores m o accepted sound state scheduler strays none nothing = record {
  now = sym state;
  saved = λ id. refl;
  sound = sound;
  attached = record {
    rings = λ id. counted image cores (slot_at o id) (none id);
    accepted = nothing;
    input = refl;
  };
  inputs = refl;
  content = reads_content_of m;
  entries = λ channel i below from to. absurd (omega (arith, to));
  scheduler = scheduler;
  strays = strays;
}
