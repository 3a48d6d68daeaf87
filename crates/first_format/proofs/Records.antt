-- The records of the objects that an image begins with: which objects they stand for, and that they are those of a table.
use Rattle.std.proofs.Common.{◌≡◌, inl, inr, ℕ, ◌+◌, ◌-◌, ◌<◌, ◌≤◌, ◌∙◌, ◌↔◌, Bool, true, false, List, [], ◌∷◌, map, Option, Some, None, refl, ap, sym, subst, arith, ne_eqb, get_or, lit≤, lit<, length}
use Rattle.std.specs.Prelude.{option_map, ◌==◌, All, IfSome, replicate}
use Rattle.std.proofs.lemmas.Bool.{false≢true, cases_lt, cases_eq}
use Rattle.std.proofs.lemmas.List.{take-replicate, length-replicate}
use Rattle.std.proofs.lemmas.List.Elements.{All-head, All-tail}
use Rattle.sls_base.specs.declared.limits.TheConstants.{CORES, OUTPUT_CHANNELS}
use Rattle.sls_base.specs.declared.fixed.TheConstants.{SCHEDULER, FIRST_OUTPUT_RING, INPUT_RING}
use Rattle.sls_base.specs.declared.image.Image.{Image}
use Rattle.cap_group.specs.declared.cap.Cap.{Cap}
use Rattle.mem_space.specs.declared.region.Region.{Region}
use Rattle.mem_space.specs.declared.memory.MemPage.{MemPage}
use Rattle.plain_state.specs.declared.objects.Capability.{Capability}
use Rattle.plain_state.specs.declared.objects.Region.{Region as PlainRegion}
use Rattle.plain_model.specs.Objects as plain
use Rattle.plain_model.specs.Objects.{Object, Page}
use Rattle.plain_model.specs.States.{State}
use Rattle.plain_model.specs.Initial.{initial}
use Rattle.plain_model.specs.Objects.{pages_of}
use Rattle.plain_state.specs.declared.objects.Kind.TheVariants.{GroupKind}
use Rattle.plain_laws.specs.Fixed.{is_single, HasFixedObjects}
use Rattle.plain_laws.specs.Sound.{HasForm}
use Rattle.link_lists.specs.Lists.{list_at}
use Rattle.ipc_note.specs.declared.lists.TheConstants.{RUN_QUEUE}
use Rattle.kobj_table.specs.declared.slot.Slot.{Slot}
use Rattle.kobj_table.specs.declared.objects.Objects.{Objects}
use Rattle.kobj_table.specs.Slots.{is_scheduler, capability_of, region_of as plain_region_of, page_of, bytes_of, ring_of, object_of, cores_of, memory_in}
use Rattle.kobj_table.specs.Objects.{slot_at, object_at, state_of}
use Rattle.kobj_codec.specs.declared.obj.Obj.{Obj}
use Rattle.object_records.specs.Records.{record_of, record_at, slot_of, threads_of, object_in}
use Rattle.object_records.specs.Ranges.{IsSoundState, IsUntoldInRange}
use Rattle.object_records.proofs.Ranged.{group_ranged, thread_ranged, space_ranged, memory_ranged, connection_ranged, notification_ranged, scheduler_ranged}
use Rattle.kobj_codec.specs.Objects.{IsObj}
use Rattle.first_state.specs.Content.{content_on, image_parts}
use Rattle.first_state.specs.Filled.{HasFreshPages, first_rest}
use Rattle.first_state.proofs.Lists.{none_there}
use Rattle.first_state.proofs.States.{image_bytes}
use Rattle.first_format.specs.Parts.{cap_of, first_records, is_fresh, mem_page_of, record_of_object, region_of}

-- Lists that are mapped there and back.

caps_back : (slots : List (Option Cap)) → map (option_map cap_of) (map (option_map capability_of) slots) ≡ slots
caps_back [] = refl
caps_back (None ∷ slots) = ap (λ (l : List (Option Cap)). None ∷ l) (caps_back slots)
caps_back (Some cap ∷ slots) = ap (λ (l : List (Option Cap)). Some cap ∷ l) (caps_back slots)

caps_there : (slots : List (Option Capability)) → map (option_map capability_of) (map (option_map cap_of) slots) ≡ slots
caps_there [] = refl
caps_there (None ∷ slots) = ap (λ (l : List (Option Capability)). None ∷ l) (caps_there slots)
caps_there (Some cap ∷ slots) = ap (λ (l : List (Option Capability)). Some cap ∷ l) (caps_there slots)

regions_back : (regions : List Region) → map region_of (map plain_region_of regions) ≡ regions
regions_back [] = refl
regions_back (r ∷ regions) = ap (λ (l : List Region). r ∷ l) (regions_back regions)

regions_there : (regions : List PlainRegion) → map plain_region_of (map region_of regions) ≡ regions
regions_there [] = refl
regions_there (r ∷ regions) = ap (λ (l : List PlainRegion). r ∷ l) (regions_there regions)

-- a list is empty exactly where its length is 0
empty_test : (xs : List ℕ) (fresh : Bool) → ((fresh ≡ true) ↔ (xs ≡ [])) → (length xs == 0) ≡ fresh
empty_test [] fresh h = sym (h.1 refl)
empty_test (x ∷ xs) true h = let never : x ∷ xs ≡ [] = h.0 refl in absurd (cc)
empty_test (x ∷ xs) false h = ne_eqb (length (x ∷ xs)) 0 (λ e. absurd (omega arith))

abbrev with_mark : ℕ → Bool → MemPage
with_mark page fresh = record { page = page; fresh = fresh }

abbrev IsMarked : List (List ℕ) → MemPage → Type 0
IsMarked parts p = (p.fresh ≡ true) ↔ (get_or parts p.page [] ≡ [])

marked_page : (image : Image) (content : ℕ → ℕ → ℕ) (p : MemPage) → IsMarked (image_parts image.programs.items) p → mem_page_of image (page_of content p) ≡ p
marked_page image content p h = ap (with_mark p.page) (empty_test (content_on image p.page) p.fresh h)

pages_back : (image : Image) (content : ℕ → ℕ → ℕ) (pages : List MemPage) → All (IsMarked (image_parts image.programs.items)) pages
    → map (mem_page_of image) (map (page_of content) pages) ≡ pages
pages_back image content [] h = refl
pages_back image content (p ∷ pages) h =
    ap (λ (q : MemPage). q ∷ map (mem_page_of image) (map (page_of content) pages)) (marked_page image content p (All-head (IsMarked (image_parts image.programs.items)) p pages h))
    ∙ ap (λ (l : List MemPage). p ∷ l) (pages_back image content pages (All-tail (IsMarked (image_parts image.programs.items)) p pages h))

-- A table with the objects that an image begins with has their records.

ring_single : (channel : ℕ) (b : Bool) → (channel == OUTPUT_CHANNELS) ≡ b → is_single (Some (ring_of channel)) ≡ true
ring_single channel true e = rw e refl
ring_single channel false e = rw e refl

plain_record : (image : Image) (cores : ℕ) (content : ℕ → ℕ → ℕ) (slot : Slot) (threads : List ℕ) → is_single (object_of content slot threads) ≡ false
    → All (IsMarked (image_parts image.programs.items)) (memory_in slot).pages.items
    → record_of slot threads ≡ option_map (record_of_object image cores) (object_of content slot threads)
plain_record image cores content Slot.Empty threads other marked = refl
plain_record image cores content (Slot.Group group) threads other marked =
    ap (λ (l : List (Option Cap)). Some (Obj.Group (record { slots = l }))) (sym (caps_back group.slots))
plain_record image cores content (Slot.Thread thread) threads other marked = refl
plain_record image cores content (Slot.Space space) threads other marked =
    ap (λ (l : List Region). Some (Obj.Space (record { regions = record { items = l } }))) (sym (regions_back space.regions.items))
plain_record image cores content (Slot.Memory memory) threads other marked =
    ap (λ (l : List MemPage). Some (Obj.Memory (record { pages = record { items = l } }))) (sym (pages_back image content memory.pages.items marked))
plain_record image cores content (Slot.Connection c) threads other marked = refl
plain_record image cores content (Slot.Notification note) threads other marked = refl
plain_record image cores content (Slot.Ring ring) threads other marked = absurd (false≢true (sym other ∙ ring_single ring.channel (ring.channel == OUTPUT_CHANNELS) refl))
plain_record image cores content (Slot.Scheduler cores_in) threads other marked = absurd (false≢true (sym other))

group_single : (o : Option Object) → plain.is_kind GroupKind o ≡ true → is_single o ≡ false
group_single None is = absurd (false≢true is)
group_single (Some (plain.Group slots)) is = refl
group_single (Some (plain.Thread thread)) is = refl
group_single (Some (plain.Space regions)) is = refl
group_single (Some (plain.Memory pages)) is = refl
group_single (Some (plain.Connection server client clients)) is = refl
group_single (Some (plain.Notification count waiters)) is = refl
group_single (Some (plain.OutputRing channel)) is = absurd (false≢true is)
group_single (Some plain.InputRing) is = absurd (false≢true is)
group_single (Some plain.Scheduler) is = absurd (false≢true is)

-- what a table of the first objects is known to have
pub record IsFirstTable (o : Objects) (image : Image) (cores : ℕ) : Type 0 where
  pub state : state_of o (first_rest (image_bytes image)) ≡ initial image cores
  pub fresh : HasFreshPages image o
  pub scheduler : slot_at o SCHEDULER ≡ Slot.Scheduler (record { cores = cores; running = replicate CORES None })
  pub outputs : (channel : ℕ) → channel < OUTPUT_CHANNELS → slot_at o (FIRST_OUTPUT_RING + channel)
      ≡ Slot.Ring (record { channel = channel; fresh = true; count = 0; page = channel })
  pub input : slot_at o INPUT_RING ≡ Slot.Ring (record { channel = OUTPUT_CHANNELS; fresh = false; count = 0; page = 0 })
  pub fixed : HasFixedObjects (initial image cores)

abbrev HasFirst : Objects → Image → ℕ → ℕ → Type 0
HasFirst o image cores i = record_at o i ≡ first_records image cores i

object_is : (o : Objects) (image : Image) (cores i : ℕ) → IsFirstTable o image cores → object_at (image_bytes image) o i ≡ (initial image cores).objects i
unfolding state_of
object_is o image cores i t = ap (λ (s : State). s.objects i) t.state

plain_at : (o : Objects) (image : Image) (cores i : ℕ) → IsFirstTable o image cores → is_single ((initial image cores).objects i) ≡ false → HasFirst o image cores i
unfolding first_records
plain_at o image cores i t other =
    let e = object_is o image cores i t in
    plain_record image cores (image_bytes image) (slot_at o i) (list_at o.links i) (ap is_single e ∙ other) (t.fresh i)
    ∙ ap (option_map (record_of_object image cores)) e

queue_is : (o : Objects) (image : Image) (cores : ℕ) → IsFirstTable o image cores → list_at o.links RUN_QUEUE ≡ (initial image cores).queue
unfolding state_of
queue_is o image cores t = ap (λ (s : State). s.queue) t.state

scheduler_at : (o : Objects) (image : Image) (cores : ℕ) → IsFirstTable o image cores → HasFirst o image cores SCHEDULER
unfolding first_records
scheduler_at o image cores t =
    ap (λ (s : Slot). record_of s (list_at o.links SCHEDULER)) t.scheduler
    ∙ (ap (λ (l : List ℕ). record_of (Slot.Scheduler (record { cores = cores; running = replicate CORES None })) l) (queue_is o image cores t)
    ∙ sym (ap (option_map (record_of_object image cores)) t.fixed.scheduler))

output_at : (o : Objects) (image : Image) (cores channel : ℕ) → IsFirstTable o image cores → channel < OUTPUT_CHANNELS → HasFirst o image cores (FIRST_OUTPUT_RING + channel)
unfolding first_records
output_at o image cores channel t below =
    ap (λ (s : Slot). record_of s (list_at o.links (FIRST_OUTPUT_RING + channel))) (t.outputs channel below)
    ∙ sym (ap (option_map (record_of_object image cores)) (t.fixed.outputs channel below))

input_at : (o : Objects) (image : Image) (cores : ℕ) → IsFirstTable o image cores → HasFirst o image cores INPUT_RING
unfolding first_records
input_at o image cores t =
    ap (λ (s : Slot). record_of s (list_at o.links INPUT_RING)) t.input
    ∙ sym (ap (option_map (record_of_object image cores)) t.fixed.input)

pub table_has : (o : Objects) (image : Image) (cores i : ℕ) → IsFirstTable o image cores → record_at o i ≡ first_records image cores i
table_has o image cores i t =
    elim (cases_lt i 7) [
      | inr above ↦ plain_at o image cores i t (t.fixed.above i above)
      | inl below ↦ elim (cases_eq i 6) [
        | inl six ↦ subst (HasFirst o image cores) (sym six) (input_at o image cores t)
        | inr other ↦ elim (cases_lt i 2) [
          | inl low ↦ elim (cases_eq i 0) [
            | inl zero_is ↦ subst (HasFirst o image cores) (sym zero_is) (plain_at o image cores 0 t (group_single _ t.fixed.root))
            | inr ne ↦ let one : i ≡ 1 = omega arith in subst (HasFirst o image cores) (sym one) (scheduler_at o image cores t)
          ]
          | inr ring ↦
              let is : FIRST_OUTPUT_RING + (i - 2) ≡ i = omega arith in
              subst (HasFirst o image cores) is (output_at o image cores (i - 2) t (omega arith))
        ]
      ]
    ]

-- The records stand for the objects.

abbrev IsRight : Image → (ℕ → ℕ → ℕ) → Page → Type 0
IsRight image content page = bytes_of content page.number (is_fresh image page.number) ≡ page.byte

abbrev page_with : ℕ → (ℕ → ℕ) → Page
page_with number byte = record { number = number; byte = byte }

pages_there : (image : Image) (content : ℕ → ℕ → ℕ) (pages : List Page) → All (IsRight image content) pages
    → map (page_of content) (map (mem_page_of image) pages) ≡ pages
pages_there image content [] h = refl
pages_there image content (p ∷ pages) h =
    ap (λ (byte : ℕ → ℕ). page_with p.number byte ∷ map (page_of content) (map (mem_page_of image) pages)) (All-head (IsRight image content) p pages h)
    ∙ ap (λ (l : List Page). p ∷ l) (pages_there image content pages (All-tail (IsRight image content) p pages h))

pub object_there : (image : Image) (cores : ℕ) (content : ℕ → ℕ → ℕ) (o : Option Object) → HasForm o
    → All (λ (page : Page). bytes_of content page.number (is_fresh image page.number) ≡ page.byte) (pages_of o)
    → object_in content (option_map (record_of_object image cores) o) ≡ o
object_there image cores content None form right = refl
object_there image cores content (Some (plain.Group slots)) form right = ap (λ (l : List (Option Capability)). Some (plain.Group l)) (caps_there slots)
object_there image cores content (Some (plain.Thread thread)) form right = refl
object_there image cores content (Some (plain.Space regions)) form right = ap (λ (l : List PlainRegion). Some (plain.Space l)) (regions_there regions)
object_there image cores content (Some (plain.Memory pages)) form right = ap (λ (l : List Page). Some (plain.Memory l)) (pages_there image content pages right)
object_there image cores content (Some (plain.Connection server client clients)) form right = refl
object_there image cores content (Some (plain.Notification count waiters)) form right = refl
object_there image cores content (Some (plain.OutputRing channel)) form right = rw (ne_eqb channel OUTPUT_CHANNELS (λ e. absurd (omega arith))) refl
object_there image cores content (Some plain.InputRing) form right = refl
object_there image cores content (Some plain.Scheduler) form right = refl

-- They are in range.

pub record_ranged : (s : State) (i : ℕ) (content : ℕ → ℕ → ℕ) (obj : Obj) → IsSoundState s → length s.cores ≤ CORES → object_in content (Some obj) ≡ s.objects i
    → IsUntoldInRange (slot_of obj) → (is_scheduler (slot_of obj) ≡ true → (s.cores ≡ cores_of (slot_of obj)) × (s.queue ≡ threads_of obj)) → IsObj obj
record_ranged s i content (Obj.Group group) sound few e untold running = group_ranged s i group sound (sym e)
record_ranged s i content (Obj.Thread thread) sound few e untold running = thread_ranged s i thread sound few (sym e)
record_ranged s i content (Obj.Space space) sound few e untold running = space_ranged s i space sound (sym e)
record_ranged s i content (Obj.Memory memory) sound few e untold running = memory_ranged s i content memory sound (sym e)
record_ranged s i content (Obj.Connection c) sound few e untold running = connection_ranged s i c.server c.client c.clients.items sound (sym e)
record_ranged s i content (Obj.Notification note) sound few e untold running = notification_ranged s i note.count note.waiters.items sound (sym e)
record_ranged s i content (Obj.Ring ring) sound few e untold running = untold
record_ranged s i content (Obj.Scheduler c) sound few e untold running =
    let told = running refl in
    scheduler_ranged s (record { cores = c.cores; running = c.running }) c.queue.items sound untold told.0 told.1

untold_first : (image : Image) (cores : ℕ) (object : Object) → 1 ≤ cores → cores ≤ CORES → HasForm (Some object) → IsUntoldInRange (slot_of (record_of_object image cores object))
untold_first image cores (plain.Group slots) some most form = tt
untold_first image cores (plain.Thread thread) some most form = tt
untold_first image cores (plain.Space regions) some most form = tt
untold_first image cores (plain.Memory pages) some most form = tt
untold_first image cores (plain.Connection server client clients) some most form = tt
untold_first image cores (plain.Notification count waiters) some most form = tt
untold_first image cores (plain.OutputRing channel) some most form =
    record { channel = omega arith; count = lit< tt; page = omega arith; input = inl form }
untold_first image cores plain.InputRing some most form =
    record { channel = lit≤ tt; count = lit< tt; page = lit< tt; input = inr (refl, refl, refl) }
untold_first image cores plain.Scheduler some most form =
    record { some = some; most = most; size = refl; past = λ core past. none_there (ℕ × ℕ) CORES core }

running_first : (image : Image) (cores : ℕ) (object : Object) → cores ≤ CORES → is_scheduler (slot_of (record_of_object image cores object)) ≡ true
    → ((initial image cores).cores ≡ cores_of (slot_of (record_of_object image cores object))) × ((initial image cores).queue ≡ threads_of (record_of_object image cores object))
running_first image cores (plain.Group slots) most is = absurd (false≢true is)
running_first image cores (plain.Thread thread) most is = absurd (false≢true is)
running_first image cores (plain.Space regions) most is = absurd (false≢true is)
running_first image cores (plain.Memory pages) most is = absurd (false≢true is)
running_first image cores (plain.Connection server client clients) most is = absurd (false≢true is)
running_first image cores (plain.Notification count waiters) most is = absurd (false≢true is)
running_first image cores (plain.OutputRing channel) most is = absurd (false≢true is)
running_first image cores plain.InputRing most is = absurd (false≢true is)
running_first image cores plain.Scheduler most is = (sym (take-replicate cores CORES None most), refl)

pub first_ranged : (image : Image) (cores i : ℕ) (content : ℕ → ℕ → ℕ) (o : Option Object) → IsSoundState (initial image cores) → 1 ≤ cores → cores ≤ CORES
    → (initial image cores).objects i ≡ o → object_in content (option_map (record_of_object image cores) o) ≡ o → IfSome (option_map (record_of_object image cores) o) IsObj
first_ranged image cores i content None sound some most at e = tt
first_ranged image cores i content (Some object) sound some most at e =
    let form = subst HasForm at (sound.forms i) in
    let count : length (initial image cores).cores ≡ cores = length-replicate cores None in
    record_ranged (initial image cores) i content (record_of_object image cores object) sound (omega arith) (e ∙ sym at)
    (untold_first image cores object some most form) (running_first image cores object most)
