-- What holds of each object of the state that an image begins with: said once for all laws of that state.
use Rattle.std.specs.Prelude.{◌≡◌, ℕ, zero, suc, ◌+◌, ◌<◌, List, [], ◌∷◌, ◌++◌, map, All, Option, Some, None, slice_get}
use Rattle.std.specs.List.{range_with_len}
use Rattle.std.proofs.Common.{refl, arith, subst}
use Rattle.std.proofs.lemmas.List.Elements.{All-nil, All-cons, All-head, All-tail, All-append}
use Rattle.std.proofs.lemmas.Option.{slice_get_within, get_or_from_slice_get}
use Rattle.sls_base.specs.declared.fixed.TheConstants.{FIRST_PROGRAM_OBJECT, FIRST_PROGRAM_PAGE}
use Rattle.sls_base.specs.declared.image.Program.{Program}
use Rattle.sls_base.specs.declared.image.RegionSpec.{RegionSpec}
use Rattle.plain_state.specs.declared.objects.Capability.{Capability}
use Rattle.plain_state.specs.declared.objects.Region.{Region}
use Rattle.plain_model.specs.Objects.{Object, Group, Space, OutputRing, InputRing, Scheduler}
use Rattle.plain_model.specs.Initial.{root_group, program_caps, program_regions, slots_with, program_memories, program_thread, program_objects, programs_objects, program_size, program_pages, pages_taken, memory_of, image_objects}

-- something holds of the memory object of a region, whatever its pages are numbered
abbrev pub OfMemory : (Object → Type 0) → RegionSpec → Type 0
OfMemory P spec = (k : ℕ) → P (memory_of spec k)

-- Something holds of each object of a program.
pub record OfProgram (P : Object → Type 0) (p : Program) : Type 0 where
  pub group : (slots : List (Option Capability)) → P (Group slots)
  pub space : (regions : List Region) → P (Space regions)
  pub memories : All (OfMemory P) p.regions.items
  pub threads : (n j : ℕ) → j < p.threads → P (program_thread p n j)

of_memories : (P : Object → Type 0) (specs : List RegionSpec) (k : ℕ) → All (OfMemory P) specs → All P (program_memories specs k)
of_memories P [] k h = All-nil P
of_memories P (spec ∷ specs) k h =
    All-cons P (memory_of spec k) (program_memories specs (k + pages_taken spec)) (All-head (OfMemory P) spec specs h k) (of_memories P specs (k + pages_taken spec) (All-tail (OfMemory P) spec specs h))

of_threads : (P : Object → Type 0) (p : Program) (n a m : ℕ) → ((j : ℕ) → j < a + m → P (program_thread p n j)) → All P (map (program_thread p n) (range_with_len a m))
of_threads P p n a zero h = All-nil P
of_threads P p n a (suc m) h =
    All-cons P (program_thread p n a) (map (program_thread p n) (range_with_len (a + 1) m)) (h a (omega arith)) (of_threads P p n (a + 1) m (λ j l. h j (omega arith)))

of_program : (P : Object → Type 0) (p : Program) (n k : ℕ) → OfProgram P p → All P (program_objects p n k)
of_program P p n k h =
    let memories = program_memories p.regions.items k in
    let threads = map (program_thread p n) (range_with_len 0 p.threads) in
    let space = Space (program_regions p.regions.items (n + 2)) in
    All-cons P (Group (slots_with (program_caps p n))) (space ∷ memories ++ threads) (h.group _)
    (All-cons P space (memories ++ threads) (h.space _)
    (All-append P memories threads (of_memories P p.regions.items k h.memories) (of_threads P p n 0 p.threads (λ j l. h.threads n j (omega arith)))))

pub of_programs : (P : Object → Type 0) (ps : List Program) (n k : ℕ) → All (OfProgram P) ps → All P (programs_objects ps n k)
of_programs P [] n k h = All-nil P
of_programs P (p ∷ ps) n k h =
    All-append P (program_objects p n k) (programs_objects ps (n + program_size p) (k + program_pages p)) (of_program P p n k (All-head (OfProgram P) p ps h))
    (of_programs P ps (n + program_size p) (k + program_pages p) (All-tail (OfProgram P) p ps h))

-- Something holds of what is at a number.
pub at_number : (P : Option Object → Type 0) (os : List Object) (i : ℕ) (o : Option Object) → P None → All (λ object. P (Some object)) os → slice_get os i ≡ o → P o
at_number P os i None none h e = none
at_number P os i (Some o) none h e = subst (λ object. P (Some object)) (get_or_from_slice_get os i o o e) (h i o (slice_get_within os i o e))

-- Something holds of each object of the state that an image begins with, and of nothing.
pub record OfImage (P : Option Object → Type 0) (ps : List Program) : Type 0 where
  pub nothing : P None
  pub root : P (Some (root_group ps))
  pub scheduler : P (Some Scheduler)
  pub outputs : (channel : ℕ) → P (Some (OutputRing channel))
  pub input : P (Some InputRing)
  pub programs : All (OfProgram (λ o. P (Some o))) ps

pub of_image : (P : Option Object → Type 0) (ps : List Program) → OfImage P ps → (i : ℕ) → P (slice_get (image_objects ps) i)
unfolding image_objects
of_image P ps h zero = h.root
of_image P ps h (suc zero) = h.scheduler
of_image P ps h (suc (suc zero)) = h.outputs 0
of_image P ps h (suc (suc (suc zero))) = h.outputs 1
of_image P ps h (suc (suc (suc (suc zero)))) = h.outputs 2
of_image P ps h (suc (suc (suc (suc (suc zero))))) = h.outputs 3
of_image P ps h (suc (suc (suc (suc (suc (suc zero)))))) = h.input
of_image P ps h (suc (suc (suc (suc (suc (suc (suc i))))))) =
    let os = programs_objects ps FIRST_PROGRAM_OBJECT FIRST_PROGRAM_PAGE in
    at_number P os i (slice_get os i) h.nothing (of_programs (λ o. P (Some o)) ps FIRST_PROGRAM_OBJECT FIRST_PROGRAM_PAGE h.programs) refl
