-- What stands in slots after a sweep.
use Rattle.std.specs.Prelude.{◌≡◌, ℕ, zero, suc, ◌+◌, ◌<◌, ◌≤◌, ◌==◌, ◌||◌, nat_lt, Bool, true, false, if◌then◌else◌, List, [], ◌∷◌, ◌++◌, length, map, take, drop, None, slice_index_or}
use Rattle.std.proofs.Common.{refl, ap, sym, ◌∙◌, subst, arith, inl, inr}
use Rattle.std.proofs.lemmas.Bool.{cases_Bool, ltb-true}
use Rattle.sls_base.specs.declared.limits.TheConstants.{OUTPUT_CHANNELS}
use Rattle.sls_base.specs.declared.fixed.TheConstants.{SCHEDULER, FIRST_OUTPUT_RING, INPUT_RING, FIRST_PROGRAM_OBJECT}
use Rattle.sls_base.specs.declared.thread.Ring.{Ring}
use Rattle.link_lists.specs.Lists.{list_at}
use Rattle.plain_model.specs.States.{State}
use Rattle.plain_model.specs.Objects.{page_of_channel}
use Rattle.plain_model.specs.Sweep.{is_reached}
use Rattle.plain_laws.specs.Laws.{HasFixed}
use Rattle.kobj_table.specs.declared.slot.Slot.{Slot}
use Rattle.kobj_table.specs.declared.slot.Cores.{Cores}
use Rattle.kobj_table.specs.declared.objects.Objects.{Objects}
use Rattle.kobj_table.specs.Objects.{slot_at, HasNoStrays}
use Rattle.kobj_table.specs.Slots.{has_list}
use Rattle.kobj_codec.specs.Objects.{IsRing}
use Rattle.object_records.specs.Ranges.{HasFixedSlots, IsOutputRing, IsCores, IsUntoldInRange, AreUntoldInRange}
use Rattle.tree_walk.specs.Sweep.{left_on, left_cores, left_in, left_at}
use Rattle.leader_helper.specs.Sweep.{freshened, ring_freshened}

-- Cores.

first_length : {A : Type 0} (f : A → A) (n : ℕ) (xs : List A) → length (map f (take n xs) ++ drop n xs) ≡ length xs
first_length f zero xs = refl
first_length f (suc n) [] = refl
first_length f (suc n) (x ∷ xs) = ap suc (first_length f n xs)

first_past : {A : Type 0} (f : A → A) (n : ℕ) (xs : List A) (k : ℕ) (d : A) → n ≤ k → slice_index_or (map f (take n xs) ++ drop n xs) k d ≡ slice_index_or xs k d
first_past f zero xs k d past = refl
first_past f (suc n) [] k d past = refl
first_past f (suc n) (x ∷ xs) zero d past = absurd (omega arith)
first_past f (suc n) (x ∷ xs) (suc k) d past = first_past f n xs k d (omega arith)

cores_left : (s : State) (c : Cores) → IsCores c → IsCores (left_cores s c)
cores_left s c is = record {
  some = is.some;
  most = is.most;
  size = first_length (left_on s) c.cores c.running ∙ is.size;
  past = λ core past. first_past (left_on s) c.cores c.running core None past ∙ is.past core past;
}

-- Marks change no list.

has_list_freshened : (these : ℕ → Bool) (slot : Slot) → has_list (freshened these slot) ≡ has_list slot
has_list_freshened these Slot.Empty = refl
has_list_freshened these (Slot.Group group) = refl
has_list_freshened these (Slot.Thread thread) = refl
has_list_freshened these (Slot.Space space) = refl
has_list_freshened these (Slot.Memory memory) = refl
has_list_freshened these (Slot.Connection c) = refl
has_list_freshened these (Slot.Notification note) = refl
has_list_freshened these (Slot.Ring ring) = refl
has_list_freshened these (Slot.Scheduler cores) = refl

pub strays_kept : (m n : Objects) (these : ℕ → Bool) → ((i : ℕ) → slot_at n i ≡ freshened these (slot_at m i)) → n.links ≡ m.links → HasNoStrays m → HasNoStrays n
strays_kept m n these slots links none i other has_none =
    ap (λ (l : List (List ℕ)). list_at l i) links
    ∙ none i other (sym (has_list_freshened these (slot_at m i)) ∙ sym (ap has_list (slots i)) ∙ has_none)

-- The fixed objects stay in their slots.

reached_slot : (o n : Objects) (s : State) (these : ℕ → Bool) (i : ℕ) (slot : Slot) → is_reached s i ≡ true → slot_at n i ≡ freshened these (left_at s o i) → slot_at o i ≡ slot
    → slot_at n i ≡ freshened these (left_in s i slot)
reached_slot o n s these i slot reached is was = is ∙ ap (freshened these) (rw reached (ap (left_in s i) was))

output_kept : (slot : Slot) (these : ℕ → Bool) (channel : ℕ) (fresh : Bool) (count : ℕ) → channel < OUTPUT_CHANNELS
    → slot ≡ freshened these (Slot.Ring (record { channel = channel; fresh = fresh; count = count; page = page_of_channel channel })) → IsOutputRing channel slot
output_kept slot these channel fresh count lt is = elim (cases_Bool (nat_lt channel OUTPUT_CHANNELS)) [
  | inl output ↦ record { fresh = fresh || these channel; count = count; is = is ∙ rw output refl }
  | inr input ↦ record { fresh = fresh; count = count; is = is ∙ rw input refl }
]

pub fixed_kept : (o n : Objects) (s : State) (these : ℕ → Bool) → HasFixed (is_reached s) → ((i : ℕ) → slot_at n i ≡ freshened these (left_at s o i)) → HasFixedSlots o → HasFixedSlots n
fixed_kept o n s these reached slots fixed = record {
  cores = left_cores s fixed.cores;
  scheduler = reached_slot o n s these SCHEDULER (Slot.Scheduler fixed.cores) (reached SCHEDULER (omega arith)) (slots SCHEDULER) fixed.scheduler;
  cores_are = cores_left s fixed.cores fixed.cores_are;
  outputs = λ channel lt.
      let old = fixed.outputs channel lt in
      let id : ℕ = FIRST_OUTPUT_RING + channel in
      let low : FIRST_OUTPUT_RING + channel < FIRST_PROGRAM_OBJECT = omega (arith, lt) in
      output_kept (slot_at n (FIRST_OUTPUT_RING + channel)) these channel old.fresh old.count lt
      (reached_slot o n s these (FIRST_OUTPUT_RING + channel) _ (reached (FIRST_OUTPUT_RING + channel) low) (slots (FIRST_OUTPUT_RING + channel)) old.is);
  input = reached_slot o n s these INPUT_RING _ (reached INPUT_RING (omega arith)) (slots INPUT_RING) fixed.input;
}

-- What no plain state tells stays in range.

ring_untold : (these : ℕ → Bool) (r : Ring) (output : Bool) → nat_lt r.channel OUTPUT_CHANNELS ≡ output → IsRing r → IsRing (ring_freshened these r)
ring_untold these r true output is = rw output (record { channel = is.channel; count = is.count; page = is.page; input = inl (ltb-true r.channel OUTPUT_CHANNELS output) })
ring_untold these r false output is = rw output is

cores_untold : (s : State) (c : Cores) (b : Bool) → IsCores c → IsCores (if b then left_cores s c else c)
cores_untold s c true is = cores_left s c is
cores_untold s c false is = is

slot_untold : (s : State) (i : ℕ) (these : ℕ → Bool) (slot : Slot) → IsUntoldInRange slot → IsUntoldInRange (freshened these (left_in s i slot))
slot_untold s i these Slot.Empty is = tt
slot_untold s i these (Slot.Group group) is = tt
slot_untold s i these (Slot.Thread thread) is = tt
slot_untold s i these (Slot.Space space) is = tt
slot_untold s i these (Slot.Memory memory) is = tt
slot_untold s i these (Slot.Connection c) is = tt
slot_untold s i these (Slot.Notification note) is = tt
slot_untold s i these (Slot.Ring ring) is = ring_untold these ring (nat_lt ring.channel OUTPUT_CHANNELS) refl is
slot_untold s i these (Slot.Scheduler cores) is = cores_untold s cores (i == SCHEDULER) is

pub untold_kept : (o n : Objects) (s : State) (these : ℕ → Bool) → ((i : ℕ) → slot_at n i ≡ freshened these (left_at s o i)) → AreUntoldInRange o → AreUntoldInRange n
untold_kept o n s these slots untold i = subst IsUntoldInRange (sym (slots i)) (elim (cases_Bool (is_reached s i)) [
  | inl reached ↦ rw reached (slot_untold s i these (slot_at o i) (untold i))
  | inr gone ↦ rw gone tt
])
