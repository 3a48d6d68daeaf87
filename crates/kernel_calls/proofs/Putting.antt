-- What a put comes to.
use Rattle.std.specs.Prelude.{◌≡◌, ◌≢◌, ℕ, ◌+◌, ◌^◌, ◌-◌, ◌/◌, ◌<◌, ◌≤◌, ◌==◌, nat_le, min, Bool, true, false, List, length, map, Contains, Option, Some, None}
use Rattle.std.proofs.Common.{refl, ap, sym, subst, ◌∙◌, arith, inr}
use Rattle.std.proofs.lemmas.Bool.{and_parts, eq-eqb, eqb-false, eqb-true, leb-true, ne_eqb}
use Rattle.std.proofs.lemmas.List.{length_push, length-map}
use Rattle.sls_base.specs.declared.limits.TheConstants.{ENTRY_BYTES, FRAME_WORDS, OUTPUT_CHANNELS, RING_ENTRIES}
use Rattle.sls_base.specs.declared.fixed.TheConstants.{SCHEDULER}
use Rattle.sls_base.specs.declared.rights.TheConstants.{READ}
use Rattle.sls_base.specs.declared.thread.Thread.{Thread as ThreadRecord}
use Rattle.link_lists.specs.Lists.{list_at}
use Rattle.ipc_note.specs.declared.lists.TheConstants.{RUN_QUEUE}
use Rattle.pmem_model.specs.Memory.{Memory}
use Rattle.plain_state.specs.declared.effect.Output.{Output}
use Rattle.plain_state.specs.declared.objects.Kind.TheVariants.{OutputKind}
use Rattle.plain_state.specs.declared.calls.Call.TheVariants.{Put}
use Rattle.plain_state.specs.declared.calls.Refusal.TheVariants.{BadAddress, BadSize, Full}
use Rattle.plain_state.specs.Objects.{InputRing, Object, OutputRing, is_kind, page_numbers, page_of_channel, regions_of}
use Rattle.plain_state.specs.States.{State}
use Rattle.plain_state.specs.declared.objects.Region.{Region}
use Rattle.plain_state.specs.Memory.{byte_at, is_covered, places_of}
use Rattle.plain_state.specs.Worlds.{World, accepted_count, is_ring_full, put_count}
use Rattle.plain_state.specs.Calls.{arg, id_named, named}
use Rattle.plain_state.specs.CallRefusals.{is_entry_length, is_full_ring, refusal_of}
use Rattle.plain_state.specs.CallEffects.{put_effect}
use Rattle.plain_state.specs.Ticks.{stores_to, with_output}
use Rattle.plain_state.specs.Effects.{answers}
use Rattle.plain_laws.specs.Sound.{AreApart}
use Rattle.plain_laws.specs.Bounds.{HasRoom}
use Rattle.plain_laws.proofs.PageBytes.{covered_places}
use Rattle.kobj_table.specs.declared.objects.Objects.{Objects}
use Rattle.sls_base.specs.declared.thread.Ring.{Ring}
use Rattle.kobj_table.specs.declared.slot.Slot.{Slot}
use Rattle.kobj_table.specs.Slots.{is_scheduler, ring_of}
use Rattle.kobj_table.specs.Objects.{HasNoStrays, HasNoStraysAt, Puts, Rest, slot_at, object_at, state_of}
use Rattle.call_readings.specs.Kernel.{world_of, CountsEntries, IsCounted}
use Rattle.call_readings.specs.Content.{Reads}
use Rattle.page_bytes.specs.Bytes.{bytes_seen, with_bytes}
use Rattle.out_gate.specs.Entries.{entry_at, place_bytes, with_entry, EntriesStand}
use Rattle.kernel_calls.specs.declared.runtime.Runtime.{Runtime}
use Rattle.kernel_calls.specs.declared.done.Done.{Done}
use Rattle.kernel_calls.specs.Callers.{IsCaller}
use Rattle.kernel_calls.specs.Does.{Leaves, Obeys, Tells}
use Rattle.kernel_calls.proofs.Unrefused.{MeetsNeeds, MeetsBesides, met_by, not_false, or_false}
use Rattle.kernel_calls.proofs.Objects.{put_gives, same_given, told}
use Rattle.kernel_calls.proofs.Frames.{no_more, not_scheduler}
use Rattle.object_records.specs.Untold.{IsUntoldKept, KeepsRing}
use Rattle.kernel_calls.proofs.Contents.{counted_again}
use Rattle.kernel_calls.proofs.Untold.{put_kept}

-- The ring that is named.

-- a ring of the kind is an output's
is_output : (channel : ℕ) → is_kind OutputKind (Some (ring_of channel)) ≡ true → channel ≢ OUTPUT_CHANNELS
is_output channel e same = let input : is_kind OutputKind (Some InputRing) ≡ true = rw (eq-eqb channel OUTPUT_CHANNELS same) at e in cc

pub output_ring : (channel : ℕ) → channel ≢ OUTPUT_CHANNELS → ring_of channel ≡ OutputRing channel
output_ring channel ne = rw (ne_eqb channel OUTPUT_CHANNELS ne) refl

pub ring_there : (content : ℕ → ℕ → ℕ) (o : Objects) (id : ℕ) (ring : Ring) → slot_at o id ≡ Slot.Ring ring → object_at content o id ≡ Some (ring_of ring.channel)
ring_there content o id ring there = rw there refl

-- What is known of a put that isn't refused, where this ring stands at the number that it names.
pub record CanPut (o : Objects) (rest : Rest) (w : World) (thread : ThreadRecord) (id : ℕ) (ring : Ring) : Type 0 where
  pub output : ring.channel < OUTPUT_CHANNELS
  pub object : object_at rest.content o id ≡ Some (OutputRing ring.channel)
  pub named_is : named (state_of o rest) thread 0 ≡ Some (OutputRing ring.channel)
  pub count : ring.count ≡ w.base ring.channel + length (rest.out ring.channel)
  pub some : 1 ≤ arg thread 2
  pub most : arg thread 2 ≤ ENTRY_BYTES
  pub covered : is_covered (regions_of (object_at rest.content o thread.space)) READ (arg thread 1) (arg thread 2) ≡ true
  pub room : ring.count ≢ accepted_count w ring.channel + RING_ENTRIES
  pub more : ring.count ≢ 2 ^ 64 - 1

module _ (needs : MeetsNeeds) (besides : MeetsBesides) (o : Objects) (rest : Rest) (w : World) (me : ℕ) (thread : ThreadRecord)
    (unrefused : refusal_of (world_of o rest w) me thread Put ≡ None) where
  -- its kind
  pub kind_named : is_kind OutputKind (object_at rest.content o (id_named (state_of o rest) thread 0)) ≡ true
  unfolding world_of state_of
  kind_named = (met_by needs (world_of o rest w) me thread Put unrefused).0.kind

  -- so some output's ring is there
  pub some_ring : (id : ℕ) → id ≡ id_named (state_of o rest) thread 0 → is_kind OutputKind (object_at rest.content o id) ≡ false → ⊥
  some_ring id id_is none =
      let kind : is_kind OutputKind (object_at rest.content o id) ≡ true = rw id_is kind_named in
      let both : true ≡ false = sym kind ∙ none in
      absurd (cc)

  pub length_known : (1 ≤ arg thread 2) × (arg thread 2 ≤ ENTRY_BYTES)
  length_known =
      let whole = not_false (is_entry_length (arg thread 2)) (besides (world_of o rest w) me thread Put BadSize (λ x. cc) unrefused) in
      let parts = and_parts (nat_le 1 (arg thread 2)) (nat_le (arg thread 2) ENTRY_BYTES) whole in
      (leb-true 1 (arg thread 2) parts.0, leb-true (arg thread 2) ENTRY_BYTES parts.1)

  pub buffer_known : is_covered (regions_of (object_at rest.content o thread.space)) READ (arg thread 1) (arg thread 2) ≡ true
  unfolding world_of state_of
  buffer_known =
      let regions = regions_of (object_at rest.content o thread.space) in
      let most : min (arg thread 2) ENTRY_BYTES ≡ arg thread 2 = let known = length_known.1 in omega arith in
      let seen = not_false (is_covered regions READ (arg thread 1) (min (arg thread 2) ENTRY_BYTES)) (besides (world_of o rest w) me thread Put BadAddress (λ x. cc) unrefused) in
      ap (is_covered regions READ (arg thread 1)) (sym most) ∙ seen

  not_full : is_full_ring (world_of o rest w) (named (state_of o rest) thread 0) ≡ false
  unfolding world_of
  not_full = besides (world_of o rest w) me thread Put Full (λ x. cc) unrefused

  full_at : (channel : ℕ) → named (state_of o rest) thread 0 ≡ Some (OutputRing channel) → is_ring_full (world_of o rest w) channel ≡ false
  full_at channel is = sym (ap (is_full_ring (world_of o rest w)) is) ∙ not_full

  pub can_put : (id : ℕ) (ring : Ring) → id ≡ id_named (state_of o rest) thread 0 → slot_at o id ≡ Slot.Ring ring
      → CountsEntries (slot_at o id) (world_of o rest w) → CanPut o rest w thread id ring
  unfolding world_of state_of
  can_put id ring id_is there counts =
      let kind : is_kind OutputKind (object_at rest.content o id) ≡ true = rw id_is kind_named in
      let output = is_output ring.channel (sym (ap (is_kind OutputKind) (ring_there rest.content o id ring there)) ∙ kind) in
      let object : object_at rest.content o id ≡ Some (OutputRing ring.channel) =
      ring_there rest.content o id ring there ∙ ap (λ (x : Object). Some x) (output_ring ring.channel output) in
      let known : CountsEntries (Slot.Ring ring) (world_of o rest w) = subst (λ (s : Slot). CountsEntries s (world_of o rest w)) there counts in
      let count : ring.count ≡ w.base ring.channel + length (rest.out ring.channel) = known.1 output in
      let named_is : named (state_of o rest) thread 0 ≡ Some (OutputRing ring.channel) = ap (object_at rest.content o) (sym id_is) ∙ object in
      let full = or_false (put_count (world_of o rest w) ring.channel == accepted_count w ring.channel + RING_ENTRIES) (put_count (world_of o rest w) ring.channel == 2 ^ 64 - 1)
      (full_at ring.channel named_is) in
      let low = known.0 in
      record {
        output = omega (arith, low, output);
        object = object;
        named_is = named_is;
        count = count;
        some = length_known.0;
        most = length_known.1;
        covered = buffer_known;
        room = λ same. eqb-false _ _ full.0 (sym count ∙ same);
        more = λ same. eqb-false _ _ full.1 (sym count ∙ same);
      }

-- The entry.

-- what is put
pub output_is : (s : State) (thread : ThreadRecord) (channel : ℕ) (bytes : List ℕ) → named s thread 0 ≡ Some (OutputRing channel)
    → is_covered (regions_of (s.objects thread.space)) READ (arg thread 1) (arg thread 2) ≡ true
    → Some bytes ≡ bytes_seen s.objects (regions_of (s.objects thread.space)) READ (arg thread 1) (arg thread 2)
    → (put_effect s thread).output ≡ Some (record { channel = channel; bytes = record { items = bytes } })
output_is s thread channel bytes named_is covered seen =
    let all : List ℕ = map (byte_at s.objects) (places_of (regions_of (s.objects thread.space)) READ (arg thread 1) (arg thread 2)) in
    let same : Some bytes ≡ Some all = rw covered at seen in
    let items : bytes ≡ all = cc in
    rw named_is (ap (λ (l : List ℕ). Some (record { channel = channel; bytes = record { items = l } })) (sym items))

pub nothing_seen : (s : State) (thread : ThreadRecord) → is_covered (regions_of (s.objects thread.space)) READ (arg thread 1) (arg thread 2) ≡ true
    → None ≡ bytes_seen s.objects (regions_of (s.objects thread.space)) READ (arg thread 1) (arg thread 2) → ⊥
nothing_seen s thread covered seen =
    let none : None ≡ Some (map (byte_at s.objects) (places_of (regions_of (s.objects thread.space)) READ (arg thread 1) (arg thread 2))) = rw covered at seen in
    cc

-- so each channel has one ring
one_ring : (o : Objects) (rest : Rest) (i j channel : ℕ) → AreApart (state_of o rest)
    → object_at rest.content o i ≡ Some (OutputRing channel) → object_at rest.content o j ≡ Some (OutputRing channel) → i ≡ j
unfolding state_of
one_ring o rest i j channel apart first second =
    apart.apart i j (page_of_channel channel) (has (object_at rest.content o i) first) (has (object_at rest.content o j) second)
  where
    has : (object : Option Object) → object ≡ Some (OutputRing channel) → Contains (page_numbers object) (page_of_channel channel)
    has object is = rw is (0, omega arith, refl)

-- The ring with one more entry.

abbrev pub with_one_more : Ring → Ring
with_one_more ring = record { channel = ring.channel; fresh = ring.fresh; count = ring.count + 1; page = ring.page }

abbrev pub entry_on : Ring → List ℕ → Option Output
entry_on ring bytes = Some (record { channel = ring.channel; bytes = record { items = bytes } })

-- what of the state doesn't stand in the objects afterwards
abbrev pub left : Rest → Ring → List ℕ → (ℕ → ℕ → ℕ) → Rest
left rest ring bytes content = record { content = content; out = with_output rest.out (entry_on ring bytes); inputs = rest.inputs }

-- the objects are as before
alike : (o n : Objects) (rest : Rest) (id : ℕ) (ring : Ring) (content : ℕ → ℕ → ℕ) → slot_at o id ≡ Slot.Ring ring → Puts o n id (Slot.Ring (with_one_more ring))
    → ((i : ℕ) → object_at content o i ≡ object_at rest.content o i) → (i : ℕ) → object_at content n i ≡ object_at rest.content o i
alike o n rest id ring content there puts unseen i =
    put_gives content o n id (Slot.Ring (with_one_more ring)) (ring_of ring.channel) puts refl i
    ∙ same_given (object_at content o) id (ring_of ring.channel) i (ring_there content o id ring there) ∙ unseen i

-- Each ring counts its entries.

module _ (o n : Objects) (rest : Rest) (w : World) (id : ℕ) (ring : Ring) (bytes : List ℕ) (content : ℕ → ℕ → ℕ) (there : slot_at o id ≡ Slot.Ring ring)
    (puts : Puts o n id (Slot.Ring (with_one_more ring))) (apart : AreApart (state_of o rest)) (object : object_at rest.content o id ≡ Some (OutputRing ring.channel))
    (counts : (i : ℕ) → CountsEntries (slot_at o i) (world_of o rest w)) where
  one_more : ring.channel ≢ OUTPUT_CHANNELS → CountsEntries (Slot.Ring ring) (world_of o rest w) → ring.count + 1 ≡ put_count (world_of n (left rest ring bytes content) w) ring.channel
  unfolding world_of state_of
  one_more output known =
      let same : (ring.channel == ring.channel) ≡ true = eq-eqb ring.channel ring.channel refl in
      let count : ring.count ≡ w.base ring.channel + length (rest.out ring.channel) = known.1 output in
      rw same (omega (arith, count, length_push (rest.out ring.channel) bytes))

  others : (slot : Slot) → ((r : Ring) → slot ≡ Slot.Ring r → r.channel ≢ OUTPUT_CHANNELS → r.channel ≢ ring.channel)
      → CountsEntries slot (world_of o rest w) → CountsEntries slot (world_of n (left rest ring bytes content) w)
  unfolding world_of state_of
  others (Slot.Ring r) other is = (is.0, λ output. let apart = ne_eqb r.channel ring.channel (other r refl output) in rw apart (is.1 output))
  others Slot.Empty other is = tt
  others (Slot.Group group) other is = tt
  others (Slot.Thread thread) other is = tt
  others (Slot.Space space) other is = tt
  others (Slot.Memory memory) other is = tt
  others (Slot.Connection connection) other is = tt
  others (Slot.Notification note) other is = tt
  others (Slot.Scheduler cores) other is = tt

  -- another ring is of another channel
  other_channel : (i : ℕ) → i ≢ id → (r : Ring) → slot_at o i ≡ Slot.Ring r → r.channel ≢ OUTPUT_CHANNELS → r.channel ≢ ring.channel
  other_channel i ne r is output same =
      ne (one_ring o rest i id ring.channel apart
      (ring_there rest.content o i r is ∙ ap (λ (x : Object). Some x) (output_ring r.channel output ∙ ap OutputRing same)) object)

  counts_by : (i : ℕ) (b : Bool) → (i == id) ≡ b → CountsEntries (slot_at n i) (world_of n (left rest ring bytes content) w)
  counts_by i true here =
      let known : CountsEntries (Slot.Ring ring) (world_of o rest w) = subst (λ (s : Slot). CountsEntries s (world_of o rest w)) there (counts id) in
      let made : CountsEntries (Slot.Ring (with_one_more ring)) (world_of n (left rest ring bytes content) w) = (known.0, λ output. one_more output known) in
      rw (eqb-true i id here) (subst (λ (s : Slot). CountsEntries s (world_of n (left rest ring bytes content) w)) (sym puts.there) made)
  counts_by i false apart =
      let ne = eqb-false i id apart in
      subst (λ (s : Slot). CountsEntries s (world_of n (left rest ring bytes content) w)) (sym (puts.others i ne)) (others (slot_at o i) (other_channel i ne) (counts i))

  rings_count : (i : ℕ) → CountsEntries (slot_at n i) (world_of n (left rest ring bytes content) w)
  rings_count i = counts_by i (i == id) refl

-- So the put is obeyed.

abbrev pub RingsUnseen : Type 0
RingsUnseen = (objects : Objects) (rest : Rest) (id channel at : ℕ) (bytes : List ℕ) → AreApart (state_of objects rest) → object_at rest.content objects id ≡ Some (OutputRing channel)
    → state_of objects (record rest { content = with_bytes rest.content (page_of_channel channel) at bytes }) ≡ state_of objects rest

-- the content of pages where the ring has been given the entry
abbrev pub given : Rest → Ring → List ℕ → ℕ → ℕ → ℕ
given rest ring bytes = with_entry rest.content ring.channel ring.count bytes

unseen_at : RingsUnseen → (o : Objects) (rest : Rest) (id : ℕ) (ring : Ring) (bytes : List ℕ) → AreApart (state_of o rest)
    → object_at rest.content o id ≡ Some (OutputRing ring.channel) → (i : ℕ) → object_at (given rest ring bytes) o i ≡ object_at rest.content o i
unfolding state_of
unseen_at law o rest id ring bytes apart object i =
    ap (λ (s : State). s.objects i) (law o rest id ring.channel (entry_at ring.count) (place_bytes bytes) apart object)

module _ (law : RingsUnseen) (k k' : Runtime) (rest : Rest) (w : World) (m : Memory) (thread : ThreadRecord) (id : ℕ) (ring : Ring) (bytes : List ℕ) (done : Done)
    (can : CanPut k.objects rest w thread id ring) (there : slot_at k.objects id ≡ Slot.Ring ring) (puts : Puts k.objects k'.objects id (Slot.Ring (with_one_more ring)))
    (apart : AreApart (state_of k.objects rest)) (scheduler : is_scheduler (slot_at k.objects SCHEDULER) ≡ true) (numbers : k'.numbers ≡ k.numbers)
    (seen : Some bytes ≡ bytes_seen (object_at rest.content k.objects) (regions_of (object_at rest.content k.objects thread.space)) READ (arg thread 1) (arg thread 2)) where
  pub put_obeys : IsCounted k.numbers (world_of k.objects rest w) → ((i : ℕ) → CountsEntries (slot_at k.objects i) (world_of k.objects rest w))
      → Reads (given rest ring bytes) m → EntriesStand (given rest ring bytes) w (with_output rest.out (entry_on ring bytes)) → Tells done (answers thread 0)
      → Obeys k k' rest (left rest ring bytes (given rest ring bytes)) m w (put_effect (state_of k.objects rest) thread) done
  unfolding state_of
  put_obeys counted counts reads stand tells =
      let same = alike k.objects k'.objects rest id ring (given rest ring bytes) there puts (unseen_at law k.objects rest id ring bytes apart can.object) in
      record {
        objects = same;
        queue = rw puts.links (sym (no_more (list_at k.objects.links RUN_QUEUE)));
        scheduler = puts.others SCHEDULER (not_scheduler k.objects id scheduler (rw there refl));
        out = ap (with_output rest.out) (sym (output_is (state_of k.objects rest) thread ring.channel bytes can.named_is can.covered seen));
        inputs = refl;
        counted = rw numbers (counted_again k.numbers k.objects k'.objects rest (left rest ring bytes (given rest ring bytes)) w (λ i. ap told (same i)) counted);
        rings = rings_count k.objects k'.objects rest w id ring bytes (given rest ring bytes) there puts apart can.object counts;
        content = reads;
        entries = stand;
        caller = record { regs = tells.regs; goes = tells.goes; takes = tells.takes; wishes = tells.wishes };
      }

-- The entries that wait.

abbrev pub EntryIsPut : Type 0
EntryIsPut = (content : ℕ → ℕ → ℕ) (w : World) (out : ℕ → List (List ℕ)) (channel : ℕ) (entry : List ℕ) → 1 ≤ length entry → length entry ≤ ENTRY_BYTES
    → w.base channel + length (out channel) < accepted_count w channel + RING_ENTRIES → EntriesStand content w out
    → EntriesStand (with_entry content channel (w.base channel + length (out channel)) entry) w
    (with_output out (Some (record { channel = channel; bytes = record { items = entry } })))

pub still_waiting : EntryIsPut → (o : Objects) (rest : Rest) (w : World) (thread : ThreadRecord) (id : ℕ) (ring : Ring) (bytes : List ℕ) → CanPut o rest w thread id ring
    → length bytes ≡ arg thread 2 → HasRoom w (state_of o rest) → EntriesStand rest.content w rest.out
    → EntriesStand (given rest ring bytes) w (with_output rest.out (entry_on ring bytes))
unfolding state_of
still_waiting law o rest w thread id ring bytes can size room waiting =
    let most = room.ring ring.channel in
    let count = can.count in
    let apart = can.room in
    let fits : w.base ring.channel + length (rest.out ring.channel) < accepted_count w ring.channel + RING_ENTRIES = omega (arith, most, count, apart) in
    subst (λ (number : ℕ). EntriesStand (with_entry rest.content ring.channel number bytes) w (with_output rest.out (entry_on ring bytes))) (sym count)
    (law rest.content w rest.out ring.channel bytes (omega (arith, size, can.some)) (omega (arith, size, can.most)) fits waiting)

-- what is seen where the arguments say
pub seen_by_args : (seen : Option (List ℕ)) (objects : ℕ → Option Object) (regions : List Region) (right at at' n n' : ℕ) → at ≡ at' → n ≡ n' → seen ≡ bytes_seen objects regions right at n
    → seen ≡ bytes_seen objects regions right at' n'
seen_by_args seen objects regions right at at' n n' same same' is = is ∙ ap (λ (a : ℕ). bytes_seen objects regions right a n) same ∙ ap (λ (m : ℕ). bytes_seen objects regions right at' m) same'

-- How many bytes are put.

pub seen_length : (objects : ℕ → Option Object) (regions : List Region) (right at count : ℕ) (bytes : List ℕ) → is_covered regions right at count ≡ true
    → Some bytes ≡ bytes_seen objects regions right at count → length bytes ≡ count
seen_length objects regions right at count bytes covered seen =
    let same : Some bytes ≡ Some (map (byte_at objects) (places_of regions right at count)) = rw covered at seen in
    let items : bytes ≡ map (byte_at objects) (places_of regions right at count) = cc in
    ap length items ∙ length-map (places_of regions right at count) (byte_at objects) ∙ covered_places regions right at count covered

-- What it stores is on the page of its ring.

pub put_on : (s : State) (thread : ThreadRecord) (channel : ℕ) → named s thread 0 ≡ Some (OutputRing channel) → stores_to s (put_effect s thread) (page_of_channel channel) ≡ true
put_on s thread channel is = rw is (eq-eqb (page_of_channel channel) (page_of_channel channel) refl)

-- the place of an entry is within its page
pub place_within : (number : ℕ) → entry_at number / 8 + 8 ≤ FRAME_WORDS
place_within number = omega arith

-- a ring that counts one entry more
pub one_more_kept : (ring : Ring) → ring.channel < OUTPUT_CHANNELS → ring.count + 1 < 2 ^ 64 → KeepsRing ring (with_one_more ring)
one_more_kept ring output fits = record { channel = refl; fresh = refl; page = refl; count = inr (output, omega arith, fits) }

-- The caller is no ring, and is in no list.
pub put_leaves : (k k' : Runtime) (me id : ℕ) (thread : ThreadRecord) (ring : Ring) (slot : Slot) (done : Done) → IsCaller k.objects me thread → slot_at k.objects id ≡ Slot.Ring ring →
    Puts k.objects k'.objects id slot → HasNoStrays k'.objects → IsUntoldKept (slot_at k.objects id) slot → Leaves k k' me done
put_leaves k k' me id thread ring slot done caller there puts strays untold = record {
  caller = puts.others me (λ same.
      let clash : Slot.Thread thread ≡ Slot.Ring ring = sym caller.there ∙ ap (λ (i : ℕ). slot_at k.objects i) same ∙ there in
      absurd (cc));
  strays = strays;
  free = λ left back. rw puts.links caller.free;
  untold = put_kept puts refl untold;
}

-- no list of a ring has threads
pub ring_strays : (o : Objects) (id : ℕ) (ring other : Ring) → slot_at o id ≡ Slot.Ring ring → HasNoStrays o → HasNoStraysAt o (Slot.Ring other) id
ring_strays o id ring other there strays not_queue none = strays id not_queue (rw there refl)
