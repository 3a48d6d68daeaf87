-- A page that is zero is the same to the plain machine whether it is marked fresh or not.
use Rattle.std.specs.Prelude.{◌≡◌, ℕ, ◌==◌, ◌&&◌, nat_lt, Bool, true, false, Some, ◌<◌, ◌≤◌, if◌then◌else◌, List, [], ◌∷◌, map, ◌⊎◌}
use Rattle.std.proofs.Common.{refl, ap, sym, subst, ◌∙◌, ⊎_elim, arith, inl, inr}
use Rattle.std.proofs.lemmas.Bool.{cases_Bool, cases_lt, eqb-true}
use mathlib.Core.Path.{fun_ext}
use Rattle.mem_space.specs.declared.memory.MemPage.{MemPage}
use Rattle.sls_base.specs.declared.limits.TheConstants.{OBJECTS, OUTPUT_CHANNELS}
use Rattle.sls_base.specs.declared.thread.Ring.{Ring}
use Rattle.plain_model.specs.Objects.{Page}
use Rattle.plain_model.specs.Objects as plain
use Rattle.kobj_table.specs.declared.slot.Slot.{Slot}
use Rattle.sls_base.specs.declared.fixed.TheConstants.{SCHEDULER}
use Rattle.ipc_note.specs.declared.lists.TheConstants.{RUN_QUEUE}
use Rattle.link_lists.specs.Lists.{list_at}
use Rattle.kobj_table.specs.declared.objects.Objects.{Objects}
use Rattle.kobj_table.specs.Objects.{Rest, slot_at, object_at, state_of}
use Rattle.kobj_table.specs.Slots.{object_of, bytes_of, cores_of, page_of}
use Rattle.object_records.specs.Marks.{marked, page_marked, ring_marked}

module _ (content : ℕ → ℕ → ℕ) (page : ℕ) (zero : (offset : ℕ) → content page offset ≡ 0) where
  byte_same : (a b : Bool) (offset : ℕ) → bytes_of content page a offset ≡ bytes_of content page b offset
  byte_same true true offset = refl
  byte_same true false offset = sym (zero offset)
  byte_same false true offset = zero offset
  byte_same false false offset = refl

  page_same : (fresh : Bool) (p : MemPage) → page_of content (page_marked page fresh p) ≡ page_of content p
  page_same fresh p = ⊎_elim
      (λ (is : (p.page == page) ≡ true).
      let here : p.page ≡ page = eqb-true p.page page is in
      ap (λ (b : Bool). page_of content (if b then record p { fresh = fresh } else p)) is
      ∙ ap (λ (f : ℕ → ℕ). record { number = p.page; byte = f })
      (fun_ext (λ offset. subst (λ (n : ℕ). bytes_of content n fresh offset ≡ bytes_of content n p.fresh offset) (sym here) (byte_same fresh p.fresh offset))))
      (λ (not : (p.page == page) ≡ false). ap (λ (b : Bool). page_of content (if b then record p { fresh = fresh } else p)) not)
      (cases_Bool (p.page == page))

  pages_same : (fresh : Bool) (items : List MemPage) → map (page_of content) (map (page_marked page fresh) items) ≡ map (page_of content) items
  pages_same fresh [] = refl
  pages_same fresh (p ∷ items) = rw (page_same fresh p, pages_same fresh items) refl

  ring_same : (fresh : Bool) (ring : Ring) → object_of content (Slot.Ring (ring_marked page fresh ring)) [] ≡ object_of content (Slot.Ring ring) []
  ring_same fresh ring = ⊎_elim
      (λ (is : ((ring.page == page) && nat_lt ring.channel OUTPUT_CHANNELS) ≡ true). ap (λ (b : Bool). object_of content (Slot.Ring (if b then record ring { fresh = fresh } else ring)) []) is)
      (λ (not : ((ring.page == page) && nat_lt ring.channel OUTPUT_CHANNELS) ≡ false). ap (λ (b : Bool). object_of content (Slot.Ring (if b then record ring { fresh = fresh } else ring)) []) not)
      (cases_Bool ((ring.page == page) && nat_lt ring.channel OUTPUT_CHANNELS))

  pub object_same : (fresh : Bool) (slot : Slot) (threads : List ℕ) → object_of content (marked page fresh slot) threads ≡ object_of content slot threads
  object_same fresh Slot.Empty threads = refl
  object_same fresh (Slot.Group group) threads = refl
  object_same fresh (Slot.Thread thread) threads = refl
  object_same fresh (Slot.Space space) threads = refl
  object_same fresh (Slot.Memory memory) threads = ap (λ (l : List Page). Some (plain.Memory l)) (pages_same fresh memory.pages.items)
  object_same fresh (Slot.Connection connection) threads = refl
  object_same fresh (Slot.Notification note) threads = refl
  object_same fresh (Slot.Ring ring) threads = ring_same fresh ring
  object_same fresh (Slot.Scheduler cores) threads = refl

cores_same : (page : ℕ) (fresh : Bool) (slot : Slot) → cores_of (marked page fresh slot) ≡ cores_of slot
cores_same page fresh Slot.Empty = refl
cores_same page fresh (Slot.Group group) = refl
cores_same page fresh (Slot.Thread thread) = refl
cores_same page fresh (Slot.Space space) = refl
cores_same page fresh (Slot.Memory memory) = refl
cores_same page fresh (Slot.Connection connection) = refl
cores_same page fresh (Slot.Notification note) = refl
cores_same page fresh (Slot.Ring ring) = refl
cores_same page fresh (Slot.Scheduler cores) = refl

pub marked_state : (a b : Objects) (rest : Rest) (page : ℕ) (fresh : Bool) → ((i : ℕ) → i < OBJECTS → slot_at b i ≡ marked page fresh (slot_at a i))
    → ((i : ℕ) → OBJECTS ≤ i → slot_at b i ≡ slot_at a i) → b.links ≡ a.links
    → ((offset : ℕ) → rest.content page offset ≡ 0) → state_of b rest ≡ state_of a rest
unfolding state_of
marked_state a b rest page fresh slots past links zero =
    let list : (i : ℕ) → list_at b.links i ≡ list_at a.links i = λ i. rw links refl in
    let object : (i : ℕ) → object_at rest.content b i ≡ object_at rest.content a i = λ i.
    elim (cases_lt i OBJECTS) [
      | inl below ↦
          ap (λ (s : Slot). object_of rest.content s (list_at b.links i)) (slots i below)
          ∙ object_same rest.content page zero fresh (slot_at a i) (list_at b.links i)
      | inr behind ↦ ap (λ (s : Slot). object_of rest.content s (list_at b.links i)) (past i behind)
    ]
    ∙ ap (object_of rest.content (slot_at a i)) (list i) in
    let cores : cores_of (slot_at b SCHEDULER) ≡ cores_of (slot_at a SCHEDULER) = ap cores_of (slots SCHEDULER (omega arith)) ∙ cores_same page fresh (slot_at a SCHEDULER) in
    rw (fun_ext object, cores, list RUN_QUEUE) refl
