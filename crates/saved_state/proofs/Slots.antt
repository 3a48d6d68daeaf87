-- Which slot it is that a record or a plain object is of.
use Rattle.std.proofs.Common.{◌≡◌, ◌==◌, ℕ, zero, suc, ◌+◌, ◌<◌, Bool, true, false, List, Option, Some, refl, ap, sym, ◌∙◌, subst, arith, inl, inr}
use Rattle.std.specs.Prelude.{IfSome}
use Rattle.std.proofs.lemmas.Bool.{false≢true, cases_lt, eqb-true}
use Rattle.sls_base.specs.declared.limits.TheConstants.{OUTPUT_CHANNELS}
use Rattle.sls_base.specs.declared.fixed.TheConstants.{FIRST_OUTPUT_RING, INPUT_RING}
use Rattle.sls_base.specs.declared.thread.Ring.{Ring}
use Rattle.plain_state.specs.declared.objects.Kind.TheVariants.{GroupKind, InputKind, OutputKind}
use Rattle.plain_model.specs.Objects as plain
use Rattle.plain_model.specs.Objects.{Object, is_kind}
use Rattle.plain_model.specs.States.{State}
use Rattle.plain_laws.specs.Fixed.{is_single, HasFixedObjects}
use Rattle.kobj_table.specs.declared.slot.Slot.{Slot}
use Rattle.kobj_table.specs.declared.slot.Cores.{Cores}
use Rattle.kobj_table.specs.Slots.{object_of, ring_of, is_scheduler}
use Rattle.kobj_codec.specs.declared.obj.Obj.{Obj}
use Rattle.kobj_codec.specs.Objects.{IsObj, IsRing}
use Rattle.object_records.specs.Records.{listed, record_of, slot_of, is_scheduler_in}
use Rattle.object_records.specs.Ranges.{IsUntoldInRange}

-- The scheduler.

abbrev is_the_scheduler : Option Object → Bool
is_the_scheduler (Some plain.Scheduler) = true
is_the_scheduler _ = false

ring_is_other : (channel : ℕ) (b : Bool) → (channel == OUTPUT_CHANNELS) ≡ b → is_the_scheduler (Some (ring_of channel)) ≡ false
ring_is_other channel true e = rw e refl
ring_is_other channel false e = rw e refl

pub scheduler_slot : (content : ℕ → ℕ → ℕ) (slot : Slot) (threads : List ℕ) → object_of content slot threads ≡ Some plain.Scheduler → is_scheduler slot ≡ true
scheduler_slot content (Slot.Scheduler cores) threads e = refl
scheduler_slot content (Slot.Ring ring) threads e = absurd (false≢true (sym (ring_is_other ring.channel (ring.channel == OUTPUT_CHANNELS) refl) ∙ ap is_the_scheduler e))
scheduler_slot content Slot.Empty threads e = absurd (false≢true (ap is_the_scheduler e))
scheduler_slot content (Slot.Group group) threads e = absurd (false≢true (ap is_the_scheduler e))
scheduler_slot content (Slot.Thread thread) threads e = absurd (false≢true (ap is_the_scheduler e))
scheduler_slot content (Slot.Space space) threads e = absurd (false≢true (ap is_the_scheduler e))
scheduler_slot content (Slot.Memory memory) threads e = absurd (false≢true (ap is_the_scheduler e))
scheduler_slot content (Slot.Connection c) threads e = absurd (false≢true (ap is_the_scheduler e))
scheduler_slot content (Slot.Notification note) threads e = absurd (false≢true (ap is_the_scheduler e))

pub scheduler_cores : (slot : Slot) → is_scheduler slot ≡ true → (cores : Cores) × (slot ≡ Slot.Scheduler cores)
scheduler_cores (Slot.Scheduler cores) is = (cores, refl)
scheduler_cores Slot.Empty is = absurd (false≢true is)
scheduler_cores (Slot.Group group) is = absurd (false≢true is)
scheduler_cores (Slot.Thread thread) is = absurd (false≢true is)
scheduler_cores (Slot.Space space) is = absurd (false≢true is)
scheduler_cores (Slot.Memory memory) is = absurd (false≢true is)
scheduler_cores (Slot.Connection c) is = absurd (false≢true is)
scheduler_cores (Slot.Notification note) is = absurd (false≢true is)
scheduler_cores (Slot.Ring ring) is = absurd (false≢true is)

pub scheduler_told : (slot : Slot) (threads : List ℕ) → is_scheduler slot ≡ is_scheduler_in (record_of slot threads)
scheduler_told (Slot.Scheduler cores) threads = refl
scheduler_told Slot.Empty threads = refl
scheduler_told (Slot.Group group) threads = refl
scheduler_told (Slot.Thread thread) threads = refl
scheduler_told (Slot.Space space) threads = refl
scheduler_told (Slot.Memory memory) threads = refl
scheduler_told (Slot.Connection c) threads = refl
scheduler_told (Slot.Notification note) threads = refl
scheduler_told (Slot.Ring ring) threads = refl

-- What no plain state tells is in range where the record is.

pub untold_of : ((obj : Obj) → IsObj obj → IsUntoldInRange (slot_of obj)) → (slot : Slot) (threads : List ℕ) → IfSome (record_of slot threads) IsObj → IsUntoldInRange slot
untold_of decoded Slot.Empty threads is = tt
untold_of decoded (Slot.Group group) threads is = tt
untold_of decoded (Slot.Thread thread) threads is = tt
untold_of decoded (Slot.Space space) threads is = tt
untold_of decoded (Slot.Memory memory) threads is = tt
untold_of decoded (Slot.Connection c) threads is = tt
untold_of decoded (Slot.Notification note) threads is = tt
untold_of decoded (Slot.Ring ring) threads is = decoded (Obj.Ring ring) is
untold_of decoded (Slot.Scheduler cores) threads is = decoded (Obj.Scheduler (record { cores = cores.cores; running = cores.running; queue = listed threads })) is

-- The input ring.

ring_with : ℕ → Bool → ℕ → ℕ → Slot
ring_with channel fresh count page = Slot.Ring (record { channel = channel; fresh = fresh; count = count; page = page })

input_ring : (ring : Ring) (b : Bool) → (ring.channel == OUTPUT_CHANNELS) ≡ b → Some (ring_of ring.channel) ≡ Some plain.InputRing → IsRing ring → Slot.Ring ring ≡ Slot.Ring (record { channel = OUTPUT_CHANNELS; fresh = false; count = 0; page = 0 })
unfolding ring_with
input_ring ring true e is h =
    let last : ring.channel ≡ OUTPUT_CHANNELS = eqb-true ring.channel OUTPUT_CHANNELS e in
    elim h.input [
      | inl lt ↦ absurd (omega (arith, lt, last))
      | inr empty ↦
          ap (λ (channel : ℕ). ring_with channel ring.fresh ring.count ring.page) last
          ∙ (ap (λ (fresh : Bool). ring_with OUTPUT_CHANNELS fresh ring.count ring.page) empty.0
          ∙ (ap (λ (count : ℕ). ring_with OUTPUT_CHANNELS false count ring.page) empty.1
          ∙ ap (λ (page : ℕ). ring_with OUTPUT_CHANNELS false 0 page) empty.2))
    ]
input_ring ring false e is h =
    let other : is_kind InputKind (Some (ring_of ring.channel)) ≡ false = rw e refl in
    absurd (false≢true (sym other ∙ ap (is_kind InputKind) is))

pub input_slot : (content : ℕ → ℕ → ℕ) (slot : Slot) (threads : List ℕ) → object_of content slot threads ≡ Some plain.InputRing → IsUntoldInRange slot → slot ≡ Slot.Ring (record { channel = OUTPUT_CHANNELS; fresh = false; count = 0; page = 0 })
input_slot content (Slot.Ring ring) threads e is = input_ring ring (ring.channel == OUTPUT_CHANNELS) refl e is
input_slot content Slot.Empty threads e is = absurd (false≢true (ap (is_kind InputKind) e))
input_slot content (Slot.Group group) threads e is = absurd (false≢true (ap (is_kind InputKind) e))
input_slot content (Slot.Thread thread) threads e is = absurd (false≢true (ap (is_kind InputKind) e))
input_slot content (Slot.Space space) threads e is = absurd (false≢true (ap (is_kind InputKind) e))
input_slot content (Slot.Memory memory) threads e is = absurd (false≢true (ap (is_kind InputKind) e))
input_slot content (Slot.Connection c) threads e is = absurd (false≢true (ap (is_kind InputKind) e))
input_slot content (Slot.Notification note) threads e is = absurd (false≢true (ap (is_kind InputKind) e))
input_slot content (Slot.Scheduler cores) threads e is = absurd (false≢true (ap (is_kind InputKind) e))

-- Output rings.

-- they stand at the numbers of output rings alone
pub output_at : (s : State) (id channel : ℕ) → HasFixedObjects s → s.objects id ≡ Some (plain.OutputRing channel) → (i : ℕ) × (i < OUTPUT_CHANNELS) × (FIRST_OUTPUT_RING + i ≡ id)
output_at s zero channel fixed e = absurd (false≢true (ap (is_kind GroupKind) (sym e) ∙ fixed.root))
output_at s (suc zero) channel fixed e = absurd (false≢true (ap (is_kind OutputKind) (sym fixed.scheduler ∙ e)))
output_at s (suc (suc i)) channel fixed e = elim (cases_lt i OUTPUT_CHANNELS) [
  | inl lt ↦ (i, lt, omega arith)
  | inr past ↦ elim (cases_lt OUTPUT_CHANNELS i) [
    | inl lt ↦ absurd (false≢true (sym (fixed.above (suc (suc i)) (omega (arith, lt))) ∙ ap is_single e))
    | inr le ↦
        let same : INPUT_RING ≡ suc (suc i) = omega (arith, past, le) in
        let input : s.objects (suc (suc i)) ≡ Some plain.InputRing = subst (λ (k : ℕ). s.objects k ≡ Some plain.InputRing) same fixed.input in
        absurd (false≢true (ap (is_kind OutputKind) (sym input ∙ e)))
  ]
]

-- the count of a ring

abbrev pub slot_count : Slot → ℕ
slot_count (Slot.Ring ring) = ring.count
slot_count slot = 0

abbrev pub slot_channel : Slot → ℕ
slot_channel (Slot.Ring ring) = ring.channel
slot_channel slot = 0
