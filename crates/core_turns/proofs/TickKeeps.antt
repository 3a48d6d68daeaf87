-- What a tick keeps of objects: records have content on the same pages, and the fixed objects stand in their slots.
use Rattle.std.specs.Prelude.{◌≡◌, ◌≢◌, ℕ, ◌+◌, ◌<◌, ◌==◌, ◌&&◌, ◌||◌, not, Bool, true, false, List, [], ◌∷◌, map}
use Rattle.std.specs.Prelude.{All, Some}
use Rattle.std.specs.List.{list_any}
use Rattle.std.proofs.Common.{refl, ap, sym, subst, ◌∙◌, arith, inl, inr}
use Rattle.std.proofs.Math.Bool.{and-false}
use Rattle.std.proofs.lemmas.Bool.{false≢true}
use Rattle.std.proofs.lemmas.List.Elements.{All-head, All-tail}
use Rattle.sls_base.specs.declared.limits.TheConstants.{OUTPUT_CHANNELS}
use Rattle.sls_base.specs.declared.fixed.TheConstants.{FIRST_OUTPUT_RING, INPUT_RING, SCHEDULER}
use Rattle.sls_base.specs.declared.thread.Ring.{Ring}
use Rattle.sls_base.proofs.ListTests.{any_same}
use Rattle.link_lists.specs.Lists.{list_at}
use Rattle.mem_space.specs.declared.memory.MemPage.{MemPage}
use Rattle.plain_state.specs.Objects as plain
use Rattle.plain_state.specs.Objects.{Object, Page, every_object, page_numbers}
use Rattle.plain_state.specs.States.{State}
use Rattle.plain_laws.specs.Fixed.{HasFixedObjects}
use Rattle.kobj_table.specs.declared.slot.Slot.{Slot}
use Rattle.kobj_table.specs.declared.slot.Cores.{Cores}
use Rattle.kobj_table.specs.declared.objects.Objects.{Objects}
use Rattle.kobj_table.specs.Objects.{Rest, slot_at, state_of}
use Rattle.kobj_table.specs.Slots.{is_scheduler, object_of, page_of, ring_of}
use Rattle.object_records.specs.Records.{record_at, record_of}
use Rattle.object_records.specs.Pages.{has_content_in, is_content}
use Rattle.object_records.specs.Ranges.{HasFixedSlots, IsOutputRing, IsUntoldInRange}
use Rattle.object_records.specs.Untold.{CountsOn, IsUntoldKept, KeepsRing, KeepsUntold}
use Rattle.object_records.proofs.Untold.{slot_ranged}
use Rattle.core_turns.proofs.Marking.{has_it}

-- Content.

nothing_or : (xs : List ℕ) → (xs ≢ [] → [] ≡ xs) → xs ≡ []
nothing_or [] same = refl
nothing_or (x ∷ xs) same = sym (same (λ none. cc))

no_pages : (content : ℕ → ℕ → ℕ) (page : ℕ) (items : List MemPage)
    → map (λ (p : Page). p.number) (map (page_of content) items) ≡ [] → list_any (has_it page) items ≡ false
no_pages content page [] none = refl
no_pages content page (p ∷ items) none = absurd (cc)

-- an object without pages has no content
no_content : (content : ℕ → ℕ → ℕ) (page : ℕ) (slot : Slot) (threads : List ℕ)
    → page_numbers (object_of content slot threads) ≡ [] → has_content_in (record_of slot threads) page ≡ false
no_content content page Slot.Empty threads none = refl
no_content content page (Slot.Group group) threads none = refl
no_content content page (Slot.Thread thread) threads none = refl
no_content content page (Slot.Space space) threads none = refl
no_content content page (Slot.Memory memory) threads none = no_pages content page memory.pages.items none
no_content content page (Slot.Connection c) threads none = refl
no_content content page (Slot.Notification note) threads none = refl
no_content content page (Slot.Ring ring) threads none =
    ap (λ (numbers : List ℕ). not ring.fresh && list_any (λ number. number == page) numbers) none ∙ and-false (not ring.fresh)
no_content content page (Slot.Scheduler cores) threads none = refl

all_fresh : (page : ℕ) (items : List MemPage) → All (λ (p : MemPage). p.fresh ≡ true) items
    → list_any (has_it page) items ≡ false
all_fresh page [] all = refl
all_fresh page (p ∷ items) all =
    let first = ap (λ (b : Bool). (p.page == page) && not b) (All-head (λ (p : MemPage). p.fresh ≡ true) p items all)
    ∙ and-false (p.page == page) in
    ap (λ (b : Bool). b || list_any (has_it page) items) first
    ∙ all_fresh page items (All-tail (λ (p : MemPage). p.fresh ≡ true) p items all)

same_ring : (page : ℕ) (old new : Ring) → KeepsRing old new
    → (not new.fresh && list_any (λ number. number == page) (page_numbers (Some (ring_of new.channel))))
    ≡ (not old.fresh && list_any (λ number. number == page) (page_numbers (Some (ring_of old.channel))))
same_ring page old new kept =
    ap (λ (b : Bool). not b && list_any (λ number. number == page) (page_numbers (Some (ring_of new.channel)))) kept.fresh
    ∙ ap (λ (c : ℕ). not old.fresh && list_any (λ number. number == page) (page_numbers (Some (ring_of c)))) kept.channel

module _ (page : ℕ) (before after : ℕ → ℕ → ℕ) (old : Slot) (threads threads' : List ℕ) where
  abbrev had : Bool
  had = has_content_in (record_of old threads) page

  had_none : (page_numbers (object_of before old threads) ≢ [] → [] ≡ page_numbers (object_of before old threads))
      → false ≡ had
  had_none same = sym (no_content before page old threads (nothing_or (page_numbers (object_of before old threads)) same))

  had_as : (slot : Slot) → old ≡ slot → has_content_in (record_of slot threads) page ≡ had
  had_as slot same = sym (ap (λ (s : Slot). has_content_in (record_of s threads) page) same)

  kept_content : (new : Slot) → IsUntoldKept old new
      → (page_numbers (object_of before old threads) ≢ []
      → page_numbers (object_of after new threads') ≡ page_numbers (object_of before old threads))
      → has_content_in (record_of new threads') page ≡ had
  kept_content Slot.Empty kept same = had_as Slot.Empty kept
  kept_content (Slot.Group group) kept same = had_none same
  kept_content (Slot.Thread thread) kept same = had_none same
  kept_content (Slot.Space space) kept same = had_none same
  kept_content (Slot.Memory memory) (inl kept) same = had_as (Slot.Memory memory) kept
  kept_content (Slot.Memory memory) (inr made) same =
      all_fresh page memory.pages.items made.1 ∙ had_as Slot.Empty made.0
  kept_content (Slot.Connection c) kept same = had_none same
  kept_content (Slot.Notification note) kept same = had_none same
  kept_content (Slot.Ring ring) kept same = same_ring page kept.0 ring kept.2 ∙ had_as (Slot.Ring kept.0) kept.1
  kept_content (Slot.Scheduler cores) kept same = had_as (Slot.Scheduler kept.0) kept.1

-- an object that has pages keeps their numbers
abbrev pub KeepNumbers : State → State → Type 0
KeepNumbers s t = (i : ℕ) → page_numbers (s.objects i) ≢ [] → page_numbers (t.objects i) ≡ page_numbers (s.objects i)

pub content_kept : (o n : Objects) (before after : Rest) (page : ℕ) → KeepsUntold o n
    → KeepNumbers (state_of o before) (state_of n after) → is_content (record_at n) page ≡ is_content (record_at o) page
unfolding is_content every_object state_of
content_kept o n before after page kept numbers =
    any_same (λ i. has_content_in (record_at n i) page) (λ i. has_content_in (record_at o i) page) every_object
    (λ i among. kept_content page before.content after.content (slot_at o i) (list_at o.links i) (list_at n.links i)
    (slot_at n i) (kept.each i) (numbers i))

-- Fixed slots.

scheduler_slot : (slot : Slot) → is_scheduler slot ≡ true → (cores : Cores) × (slot ≡ Slot.Scheduler cores)
scheduler_slot (Slot.Scheduler cores) is = (cores, refl)
scheduler_slot Slot.Empty is = absurd (false≢true is)
scheduler_slot (Slot.Group group) is = absurd (false≢true is)
scheduler_slot (Slot.Thread thread) is = absurd (false≢true is)
scheduler_slot (Slot.Space space) is = absurd (false≢true is)
scheduler_slot (Slot.Memory memory) is = absurd (false≢true is)
scheduler_slot (Slot.Connection c) is = absurd (false≢true is)
scheduler_slot (Slot.Notification note) is = absurd (false≢true is)
scheduler_slot (Slot.Ring ring) is = absurd (false≢true is)

output_slot : (content : ℕ → ℕ → ℕ) (channel : ℕ) (slot : Slot) (threads : List ℕ)
    → object_of content slot threads ≡ Some (plain.OutputRing channel) → (ring : Ring) × (slot ≡ Slot.Ring ring)
output_slot content channel (Slot.Ring ring) threads is = (ring, refl)
output_slot content channel Slot.Empty threads is = absurd (cc)
output_slot content channel (Slot.Group group) threads is = absurd (cc)
output_slot content channel (Slot.Thread thread) threads is = absurd (cc)
output_slot content channel (Slot.Space space) threads is = absurd (cc)
output_slot content channel (Slot.Memory memory) threads is = absurd (cc)
output_slot content channel (Slot.Connection c) threads is = absurd (cc)
output_slot content channel (Slot.Notification note) threads is = absurd (cc)
output_slot content channel (Slot.Scheduler cores) threads is = absurd (cc)

input_slot : (content : ℕ → ℕ → ℕ) (slot : Slot) (threads : List ℕ)
    → object_of content slot threads ≡ Some plain.InputRing → (ring : Ring) × (slot ≡ Slot.Ring ring)
input_slot content (Slot.Ring ring) threads is = (ring, refl)
input_slot content Slot.Empty threads is = absurd (cc)
input_slot content (Slot.Group group) threads is = absurd (cc)
input_slot content (Slot.Thread thread) threads is = absurd (cc)
input_slot content (Slot.Space space) threads is = absurd (cc)
input_slot content (Slot.Memory memory) threads is = absurd (cc)
input_slot content (Slot.Connection c) threads is = absurd (cc)
input_slot content (Slot.Notification note) threads is = absurd (cc)
input_slot content (Slot.Scheduler cores) threads is = absurd (cc)

-- a ring whose slot was kept, where another stood whole
was_ring : (slot : Slot) (first ring : Ring) → slot ≡ Slot.Ring first → IsUntoldKept slot (Slot.Ring ring)
    → KeepsRing first ring
was_ring slot first ring is kept =
    let same : Slot.Ring kept.0 ≡ Slot.Ring first = sym kept.1 ∙ is in
    let before : kept.0 ≡ first = cc in
    subst (λ (r : Ring). KeepsRing r ring) before kept.2

abbrev ring_with : ℕ → Bool → ℕ → ℕ → Ring
ring_with channel fresh count page = record { channel = channel; fresh = fresh; count = count; page = page }

output_kept : (channel : ℕ) (old new : Slot) (ring : Ring) → new ≡ Slot.Ring ring → IsUntoldKept old new
    → IsOutputRing channel old → IsOutputRing channel new
output_kept channel old new ring is kept output =
    let first = ring_with channel output.fresh output.count channel in
    let keeps = was_ring old first ring output.is (subst (λ (s : Slot). IsUntoldKept old s) is kept) in record {
      fresh = ring.fresh;
      count = ring.count;
      is = is ∙ ap (λ (n : ℕ). Slot.Ring (ring_with n ring.fresh ring.count ring.page)) keeps.channel
          ∙ ap (λ (n : ℕ). Slot.Ring (ring_with channel ring.fresh ring.count n)) keeps.page;
    }

no_count : (ring : Ring) (first : Ring) → first.channel ≡ OUTPUT_CHANNELS → ring.channel ≡ first.channel
    → CountsOn first ring → ring.count ≡ first.count
no_count ring first input same (inl count) = count
no_count ring first input same (inr more) = (let below = more.0 in absurd (omega (arith, below, input, same)))

input_kept : (old new : Slot) (ring : Ring) → new ≡ Slot.Ring ring → IsUntoldKept old new
    → old ≡ Slot.Ring (ring_with OUTPUT_CHANNELS false 0 0) → new ≡ Slot.Ring (ring_with OUTPUT_CHANNELS false 0 0)
input_kept old new ring is kept input =
    let first = ring_with OUTPUT_CHANNELS false 0 0 in
    let keeps = was_ring old first ring input (subst (λ (s : Slot). IsUntoldKept old s) is kept) in
    is ∙ ap (λ (n : ℕ). Slot.Ring (ring_with n ring.fresh ring.count ring.page)) keeps.channel
    ∙ ap (λ (b : Bool). Slot.Ring (ring_with OUTPUT_CHANNELS b ring.count ring.page)) keeps.fresh
    ∙ ap (λ (n : ℕ). Slot.Ring (ring_with OUTPUT_CHANNELS false n ring.page)) (no_count ring first refl keeps.channel keeps.count)
    ∙ ap (λ (n : ℕ). Slot.Ring (ring_with OUTPUT_CHANNELS false 0 n)) keeps.page

pub fixed_kept : (o n : Objects) (after : Rest) → KeepsUntold o n → HasFixedObjects (state_of n after)
    → is_scheduler (slot_at n SCHEDULER) ≡ true → HasFixedSlots o → HasFixedSlots n
unfolding state_of
fixed_kept o n after kept stand scheduler fixed =
    let now = scheduler_slot (slot_at n SCHEDULER) scheduler in
    let still = subst (λ (s : Slot). IsUntoldKept (slot_at o SCHEDULER) s) now.1 (kept.each SCHEDULER) in
    let was = subst IsUntoldInRange (sym fixed.scheduler) fixed.cores_are in
    let waits = input_slot after.content (slot_at n INPUT_RING) (list_at n.links INPUT_RING) stand.input in record {
      cores = now.0;
      scheduler = now.1;
      cores_are = slot_ranged (slot_at o SCHEDULER) (Slot.Scheduler now.0) still was;
      outputs = λ channel below. (
          let i = FIRST_OUTPUT_RING + channel in
          let ring = output_slot after.content channel (slot_at n i) (list_at n.links i) (stand.outputs channel below) in
          output_kept channel (slot_at o i) (slot_at n i) ring.0 ring.1 (kept.each i) (fixed.outputs channel below));
      input = input_kept (slot_at o INPUT_RING) (slot_at n INPUT_RING) waits.0 waits.1 (kept.each INPUT_RING) fixed.input;
    }
