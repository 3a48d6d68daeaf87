-- The objects of the whole kernel on an image of one program of code words, one after another.
use Rattle.std.specs.Prelude.{◌≡◌, ℕ, zero, suc, ◌+◌, ◌*◌, ◌<◌, ◌≤◌, nat_lt, ◌==◌, if◌then◌else◌, false, List, [], ◌∷◌, ◌++◌, length, map, take, drop, replicate, Option, Some, None, slice_get, slice_index}
use Rattle.std.proofs.Common.{refl, ap, sym, ◌∙◌, arith, inl, inr}
use Rattle.std.proofs.lemmas.Bool.{cases_lt, ne_eqb, lt-ltb, le-ltb}
use Rattle.std.proofs.lemmas.Option.{slice_get_past}
use Rattle.std.proofs.lemmas.List.{get_or-take, get_or_past, length-take}
use mathlib.Core.Path.{fun_ext}
use Rattle.sls_base.specs.declared.limits.TheConstants.{PAGE_BYTES}
use Rattle.sls_base.specs.declared.image.Image.{Image}
use Rattle.sls_base.specs.declared.image.Program.{Program}
use Rattle.sls_base.specs.declared.image.RegionSpec.{RegionSpec}
use Rattle.sls_kernel.specs.Plain.{State as ProgramState, initial as program_initial}
use Rattle.sls_kernel.specs.Program.{IsOfCode, AreCodePrograms, AreCodeRegions, IsCodeProgram, IsCodeRegion, program_bytes, program_content, region_content}
use Rattle.plain_state.specs.declared.objects.Capability.{Capability}
use Rattle.plain_state.specs.declared.objects.Occupant.{Occupant}
use Rattle.plain_state.specs.declared.objects.Region.{Region}
use Rattle.plain_model.specs.Objects.{Object, Group, Space, OutputRing, InputRing, Scheduler, empty_slots}
use Rattle.plain_model.specs.States.{State, with_object, zero_registers}
use Rattle.plain_model.specs.Initial.{initial, image_objects, all_rights, memory_of, program_thread, thread_numbers}
use Rattle.plain_join.specs.Joined.{whole, memory_object, thread_object, queue_of, occupant_of}

-- The group's slots: itself, its space, the rings of the channels, the root group, its memory object and its thread.
abbrev pub code_slots : List (Option Capability)
code_slots = map all_rights (7 ∷ 8 ∷ 2 ∷ 3 ∷ 4 ∷ 5 ∷ 6 ∷ 0 ∷ 9 ∷ 10 ∷ []) ++ replicate 22 None

abbrev pub code_region : Region
code_region = record { base = 0; count = 1; first = 0; memory = 9; rights = 7 }

abbrev pub code_list : Object → Object → List Object
code_list memory thread =
    Group (all_rights 7 ∷ replicate 31 None)
    ∷ Scheduler
    ∷ OutputRing 0
    ∷ OutputRing 1
    ∷ OutputRing 2
    ∷ OutputRing 3
    ∷ InputRing
    ∷ Group code_slots
    ∷ Space (code_region ∷ [])
    ∷ memory
    ∷ thread
    ∷ []

abbrev pub code_objects : Object → Object → ℕ → Option Object
code_objects memory thread = slice_get (code_list memory thread)

-- the state of the whole kernel, with these objects
abbrev pub code_state : ProgramState → State
code_state s = record {
  objects = code_objects (memory_object s.byte) (thread_object s.thread);
  queue = queue_of s.thread.status;
  cores = occupant_of s.thread.status ∷ [];
  out = s.out;
  inputs = [];
}

abbrev made : (ℕ → Option Object) → List ℕ → List (Option Occupant) → (ℕ → List (List ℕ)) → List (List ℕ) → State
made objects queue cores out inputs =
    record { objects = objects; queue = queue; cores = cores; out = out; inputs = inputs }

pub same_state : (s t : State) → s.objects ≡ t.objects → s.queue ≡ t.queue → s.cores ≡ t.cores → s.out ≡ t.out
    → s.inputs ≡ t.inputs → s ≡ t
same_state s t objects queue cores out inputs =
    ap (λ (x : ℕ → Option Object). made x s.queue s.cores s.out s.inputs) objects
    ∙ ap (λ (x : List ℕ). made t.objects x s.cores s.out s.inputs) queue
    ∙ ap (λ (x : List (Option Occupant)). made t.objects t.queue x s.out s.inputs) cores
    ∙ ap (λ (x : ℕ → List (List ℕ)). made t.objects t.queue t.cores x s.inputs) out
    ∙ ap (λ (x : List (List ℕ)). made t.objects t.queue t.cores t.out x) inputs

-- The image has these objects.

program_list : (p : Program) (r : RegionSpec) → p.regions.items ≡ r ∷ [] → p.threads ≡ 1 → p.channels ≡ 63 → IsCodeRegion r
    → image_objects (p ∷ []) ≡ code_list (memory_of r 4) (program_thread p 7 0)
unfolding image_objects empty_slots
program_list p r regions threads channels is = simp (regions, threads, channels, is.base, is.pages, is.rights)

-- An image of code words has one program with one region.
pub record IsOne (ps : List Program) (p : Program) (r : RegionSpec) : Type 0 where
  pub program : ps ≡ p ∷ []
  pub region : p.regions.items ≡ r ∷ []
  pub code_program : IsCodeProgram p
  pub code_region : IsCodeRegion r

of_regions : (p : Program) (rs : List RegionSpec) → p.regions.items ≡ rs → AreCodeRegions rs → IsCodeProgram p → (r : RegionSpec) × IsOne (p ∷ []) p r
of_regions p [] e h is = absurd h
of_regions p (r ∷ []) e h is = (r, record { program = refl; region = e; code_program = is; code_region = h })
of_regions p (r ∷ (more ∷ rest)) e h is = absurd h

of_programs : (ps : List Program) → AreCodePrograms ps → (p : Program) × (r : RegionSpec) × IsOne ps p r
of_programs [] h = absurd h
of_programs (p ∷ []) h = let one = of_regions p p.regions.items refl h.regions h in (p, one.0, one.1)
of_programs (p ∷ (more ∷ rest)) h = absurd h

one_list : (ps : List Program) (p : Program) (r : RegionSpec) → IsOne ps p r → image_objects ps ≡ code_list (memory_of r 4) (program_thread p 7 0)
one_list ps p r h = ap image_objects h.program ∙ program_list p r h.region h.code_program.threads h.code_program.channels h.code_region

-- Objects by number are those of a list.

abbrev pub AreFrom : (ℕ → Option Object) → ℕ → List Object → Type 0
AreFrom objects k [] = Unit {0}
AreFrom objects k (o ∷ os) = (objects k ≡ Some o) × AreFrom objects (k + 1) os

from_at : (objects : ℕ → Option Object) (os : List Object) (k i : ℕ) → AreFrom objects k os → i < length os
    → objects (k + i) ≡ slice_get os i
from_at objects [] k i h l = absurd (omega arith)
from_at objects (o ∷ os) k zero h l = (let here : k + 0 ≡ k = omega arith in rw here h.0)
from_at objects (o ∷ os) k (suc i) h l = (let there : k + suc i ≡ k + 1 + i = omega arith in rw there (from_at objects os (k + 1) i h.1 (omega arith)))

list_at : (objects : ℕ → Option Object) (os : List Object) (i : ℕ) → AreFrom objects 0 os
    → ((i : ℕ) → length os ≤ i → objects i ≡ None) → objects i ≡ slice_get os i
list_at objects os i h none = elim (cases_lt i (length os)) [
  | inl within ↦ (let at : 0 + i ≡ i = omega arith in rw at at (from_at objects os 0 i h within))
  | inr past ↦ none i past ∙ sym (slice_get_past os i past)
]

pub are_list : (objects : ℕ → Option Object) (os : List Object) → AreFrom objects 0 os
    → ((i : ℕ) → length os ≤ i → objects i ≡ None) → objects ≡ slice_get os
are_list objects os h none = fun_ext (λ i. list_at objects os i h none)

pub none_past : (memory thread : Object) (i : ℕ) → 11 ≤ i → code_objects memory thread i ≡ None
none_past memory thread i past = slice_get_past (code_list memory thread) i past

-- another memory object, and another thread, in its place

other_past : (memory thread object : Object) (id i : ℕ) → id < 11 → 11 ≤ i → with_object (code_objects memory thread) id object i ≡ None
other_past memory thread object id i below past =
    let other : (i == id) ≡ false = ne_eqb i id (λ e. absurd (omega arith)) in
    rw other (none_past memory thread i past)

pub with_memory : (memory thread new : Object) → with_object (code_objects memory thread) 9 new ≡ code_objects new thread
with_memory memory thread new =
    are_list (with_object (code_objects memory thread) 9 new) (code_list new thread)
    (refl, (refl, (refl, (refl, (refl, (refl, (refl, (refl, (refl, (refl, (refl, tt)))))))))))
    (λ i past. other_past memory thread new 9 i (omega arith) past)

pub with_thread : (memory thread new : Object) → with_object (code_objects memory thread) 10 new ≡ code_objects memory new
with_thread memory thread new =
    are_list (with_object (code_objects memory thread) 10 new) (code_list memory new)
    (refl, (refl, (refl, (refl, (refl, (refl, (refl, (refl, (refl, (refl, (refl, tt)))))))))))
    (λ i past. other_past memory thread new 10 i (omega arith) past)

-- The state of the whole kernel that a state of the program is has these objects.
pub whole_is : (image : Image) (s : ProgramState) → IsOfCode image → whole image s ≡ code_state s
whole_is image s h =
    let one = of_programs image.programs.items h in
    let list = one_list image.programs.items one.0 one.1 one.2 in
    let memory = memory_object s.byte in
    let thread = thread_object s.thread in
    same_state (whole image s) (code_state s)
    (ap (λ (os : List Object). with_object (with_object (slice_get os) 9 memory) 10 thread) list
    ∙ ap (λ (o : ℕ → Option Object). with_object o 10 thread) (with_memory (memory_of one.1 4) (program_thread one.0 7 0) memory)
    ∙ with_thread memory (program_thread one.0 7 0) thread)
    refl refl refl refl

-- So has the state that the image begins with.

page_bytes_are : (content : List ℕ) (a : ℕ)
    → slice_index (take PAGE_BYTES (drop (PAGE_BYTES * 0) content)) a ≡ (if nat_lt a PAGE_BYTES then slice_index content a else 0)
page_bytes_are content a = elim (cases_lt a PAGE_BYTES) [
  | inl below ↦ (let test = lt-ltb a PAGE_BYTES below in rw test (get_or-take PAGE_BYTES content a 0 below))
  | inr past ↦
      let test = le-ltb a PAGE_BYTES past in
      rw test (get_or_past (take PAGE_BYTES content) a 0 (let short = length-take PAGE_BYTES content in omega arith))
]

memory_is : (ps : List Program) (p : Program) (r : RegionSpec) → IsOne ps p r
    → memory_of r 4 ≡ memory_object (λ a. if nat_lt a PAGE_BYTES then slice_index (program_content ps) a else 0)
memory_is ps p r h =
    let content : program_content ps ≡ r.content.items = ap program_content h.program ∙ ap region_content h.region in
    rw (h.code_region.pages, content) (ap memory_object (fun_ext (page_bytes_are r.content.items)))

thread_is : (p : Program) (byte : ℕ → ℕ) → IsCodeProgram p → program_thread p 7 0 ≡ thread_object (program_initial byte).thread
unfolding zero_registers
thread_is p byte h = rw h.entry refl

begins : List Object → State
begins os = record {
  objects = slice_get os;
  queue = thread_numbers os;
  cores = None ∷ [];
  out = λ channel. [];
  inputs = [];
}

pub initial_is : (image : Image) → IsOfCode image → initial image 1 ≡ code_state (program_initial (program_bytes image))
unfolding begins
initial_is image h =
    let one = of_programs image.programs.items h in
    let list = one_list image.programs.items one.0 one.1 one.2 in
    let memory = memory_is image.programs.items one.0 one.1 one.2 in
    let thread = thread_is one.0 (program_bytes image) one.2.code_program in
    ap begins list ∙ ap (λ (m : Object). begins (code_list m (program_thread one.0 7 0))) memory
    ∙ ap (λ (t : Object). begins (code_list (memory_object (program_bytes image)) t)) thread
