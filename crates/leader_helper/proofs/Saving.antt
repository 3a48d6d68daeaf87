-- Running objects can be saved once they are swept.
use Rattle.std.specs.Prelude.{◌≡◌, ℕ, ◌+◌, ◌/◌, ◌%◌, ◌<◌, ◌==◌, ◌&&◌, not, nat_lt, Bool, true, false, if◌then◌else◌, List, [], length, Option, None, is_some, slice_index_or}
use Rattle.std.specs.List.{list_any}
use Rattle.std.proofs.Common.{refl, ap, sym, ◌∙◌, subst, arith, inl, inr}
use Rattle.std.proofs.lemmas.Bool.{cases_Bool, eq-eqb, and_parts}
use mathlib.Core.Path.{fun_ext}
use Rattle.sls_base.specs.declared.limits.TheConstants.{OBJECTS, OUTPUT_CHANNELS, PAGES, PAGE_BYTES}
use Rattle.sls_base.specs.declared.fixed.TheConstants.{FIRST_OUTPUT_RING}
use Rattle.sls_base.specs.declared.thread.Ring.{Ring}
use Rattle.sls_base.proofs.ListTests.{any_in, in_range}
use Rattle.page_store.specs.Stages.{stage_of}
use Rattle.page_store.specs.Shows.{words_of}
use Rattle.plain_model.specs.Objects.{every_object, page_numbers}
use Rattle.plain_model.specs.States.{State}
use Rattle.plain_model.specs.Worlds.{World, has_page, put_count}
use Rattle.plain_model.specs.Sweep.{is_reached, swept}
use Rattle.plain_laws.specs.Fixed.{HasFixedObjects}
use Rattle.plain_laws.specs.Bounds.{HasRoom}
use Rattle.plain_laws.specs.Whole.{IsSound}
use Rattle.kobj_table.specs.declared.slot.Slot.{Slot}
use Rattle.kobj_table.specs.declared.objects.Objects.{Objects}
use Rattle.kobj_table.specs.Objects.{Rest, slot_at, state_of, HasNoStrays}
use Rattle.object_records.specs.Records.{record_at}
use Rattle.object_records.specs.Pages.{is_content}
use Rattle.object_records.specs.Ranges.{HasFixedSlots, IsSoundState}
use Rattle.call_readings.specs.declared.content.TheConstants.{WORD_BYTES}
use Rattle.call_readings.specs.Content.{byte_of}
use Rattle.call_readings.specs.Kernel.{CountsEntries}
use Rattle.call_readings.proofs.Words.{number_of_zeros}
use Rattle.out_gate.specs.Entries.{HasEntry, entry_at}
use Rattle.saved_state.specs.State.{content_of}
use Rattle.saved_state.specs.Running.{CanBeSaved}
use Rattle.version_rooms.specs.declared.rooms.Rooms.{Rooms}
use Rattle.tree_walk.specs.Sweep.{left_in, left_at}
use Rattle.leader_helper.specs.Sweep.{freshened, ring_freshened, is_zeroed_alone, is_zeroed_below, ReadAsZeros}
use Rattle.leader_helper.specs.Saving.{IsRunning, words_kept}
use Rattle.leader_helper.proofs.Contents.{content_left, content_inside, rings_in_place, three, of_three}

-- Rings count as before.

ring_counts : (these : ℕ → Bool) (ring : Ring) (w v : World) (output : Bool) → nat_lt ring.channel OUTPUT_CHANNELS ≡ output
    → ((channel : ℕ) → put_count v channel ≡ put_count w channel) → CountsEntries (Slot.Ring ring) w → CountsEntries (Slot.Ring (ring_freshened these ring)) v
ring_counts these ring w v true output same counts = rw output (counts.0, λ other. counts.1 other ∙ sym (same ring.channel))
ring_counts these ring w v false output same counts = rw output (counts.0, λ other. counts.1 other ∙ sym (same ring.channel))

slot_counts : (s : State) (i : ℕ) (these : ℕ → Bool) (slot : Slot) (w v : World) → ((channel : ℕ) → put_count v channel ≡ put_count w channel)
    → CountsEntries slot w → CountsEntries (freshened these (left_in s i slot)) v
slot_counts s i these Slot.Empty w v same counts = tt
slot_counts s i these (Slot.Group group) w v same counts = tt
slot_counts s i these (Slot.Thread thread) w v same counts = tt
slot_counts s i these (Slot.Space space) w v same counts = tt
slot_counts s i these (Slot.Memory memory) w v same counts = tt
slot_counts s i these (Slot.Connection c) w v same counts = tt
slot_counts s i these (Slot.Notification note) w v same counts = tt
slot_counts s i these (Slot.Ring ring) w v same counts = ring_counts these ring w v (nat_lt ring.channel OUTPUT_CHANNELS) refl same counts
slot_counts s i these (Slot.Scheduler cores) w v same counts = tt

counts_at : (o n : Objects) (s : State) (these : ℕ → Bool) (i : ℕ) (w v : World) → slot_at n i ≡ freshened these (left_at s o i)
    → ((channel : ℕ) → put_count v channel ≡ put_count w channel) → CountsEntries (slot_at o i) w → CountsEntries (slot_at n i) v
counts_at o n s these i w v is same counts = subst (λ (slot : Slot). CountsEntries slot v) (sym is) (elim (cases_Bool (is_reached s i)) [
  | inl reached ↦ rw reached (slot_counts s i these (slot_at o i) w v same counts)
  | inr gone ↦ rw gone tt
])

-- Pages.

kept_is : (o : Objects) (pages : ℕ → Option (ℕ → ℕ)) (page : ℕ) → is_content (record_at o) page ≡ true → words_kept o pages page ≡ pages page
kept_is o pages page is = rw is refl

kept_none : (o : Objects) (pages : ℕ → Option (ℕ → ℕ)) (page : ℕ) → is_content (record_at o) page ≡ false → words_kept o pages page ≡ None
kept_none o pages page is = rw is refl

content_kept : (o : Objects) (pages : ℕ → Option (ℕ → ℕ)) (page offset : ℕ) → is_content (record_at o) page ≡ true
    → content_of (words_kept o pages) page offset ≡ content_of pages page offset
content_kept o pages page offset is =
    ap (λ (words : Option (ℕ → ℕ)). if nat_lt page PAGES && nat_lt offset PAGE_BYTES then byte_of (words_of words (offset / WORD_BYTES)) (offset % WORD_BYTES) else 0)
    (kept_is o pages page is)

-- An entry that waits is on no page of zeros.
pub no_zeros : (byte : ℕ → ℕ) (number : ℕ) (entry : List ℕ) → HasEntry byte number entry → ((offset : ℕ) → byte offset ≡ 0) → ⊥
no_zeros byte number entry has zeros =
    let none : 0 ≡ length entry = number_of_zeros byte (entry_at number) WORD_BYTES zeros ∙ has.size in
    let some = has.some in
    absurd (omega (arith, none, some))

-- the page of a channel is of an object
channel_has_page : (s : State) (channel : ℕ) → HasFixedObjects s → channel < OUTPUT_CHANNELS → has_page s channel ≡ true
unfolding has_page every_object
channel_has_page s channel fixed inside =
    let numbers : list_any (λ number. number == channel) (page_numbers (s.objects (FIRST_OUTPUT_RING + channel))) ≡ true =
    ap (list_any (λ number. number == channel)) (fixed.pages channel inside) ∙ rw (eq-eqb channel channel refl) refl in
    any_in (λ j. list_any (λ number. number == channel) (page_numbers (s.objects j))) every_object (FIRST_OUTPUT_RING + channel)
    (in_range 0 OBJECTS (FIRST_OUTPUT_RING + channel) (omega arith) (omega arith)) numbers

same_out : (o : Objects) (rest : Rest) (channel : ℕ) → (state_of o rest).out channel ≡ rest.out channel
unfolding state_of
same_out o rest channel = refl

room_same : (w : World) (s t : State) → ((channel : ℕ) → t.out channel ≡ s.out channel) → HasRoom w s → HasRoom w t
room_same w s t same room = record {
  accepted = λ channel. rw (same channel) (room.accepted channel);
  ring = λ channel. rw (same channel) (room.ring channel);
  count = λ channel. rw (same channel) (room.count channel);
}

-- A sound world is sound at its first version too.
pub at_first : (w : World) → IsSound w → IsSound (record w { version = 0 })
at_first w sound = record {
  placed = sound.placed;
  present = sound.present;
  in_range = sound.in_range;
  forms = sound.forms;
  names = sound.names;
  apart = sound.apart;
  fixed = sound.fixed;
  entries = sound.entries;
  pages = sound.pages;
  threads = sound.threads;
  order = record { released = sound.order.released; saved = sound.order.saved };
  room = record { now = room_first w w.now sound.room.now; saved = room_first w w.saved sound.room.saved; version = omega arith };
  saved = record { swept = sound.saved.swept; objects = sound.saved.objects; pages = sound.saved.pages };
  tracked = record {
    objects = sound.tracked.objects;
    queue = sound.tracked.queue;
    cores = sound.tracked.cores;
    rings = sound.tracked.rings;
    pages = sound.tracked.pages;
    changed = sound.tracked.changed;
    stored = sound.tracked.stored;
  };
}
  where
    room_first : (w : World) (s : State) → HasRoom w s → HasRoom (record w { version = 0 }) s
    room_first w s room = record { accepted = room.accepted; ring = room.ring; count = room.count }

pub can_be_saved : (o n : Objects) (r : Rooms) (rest : Rest) (pages : ℕ → Option (ℕ → ℕ)) (w : World) → IsRunning o rest pages w → ReadAsZeros r rest.content
    → IsSoundState (state_of o rest) → IsSoundState (swept (state_of o rest)) → swept (swept (state_of o rest)) ≡ swept (state_of o rest)
    → state_of n rest ≡ swept (state_of o rest) → HasFixedSlots n → HasNoStrays n → ((i : ℕ) → slot_at n i ≡ freshened (is_zeroed_below r PAGES) (left_at (state_of o rest) o i))
    → CanBeSaved n rest (words_kept n pages) w
can_be_saved o n r rest pages w running zeros sound sound_after twice state fixed strays slots =
    let s = state_of o rest in
    let these = is_zeroed_below r PAGES in
    let places = rings_in_place o rest sound.fixed running.slots in
    let left = λ (page : ℕ). content_left o n rest these page sound.apart places slots in
    let was : (page : ℕ) → is_content (record_at n) page ≡ true → is_content (record_at o) page ≡ true =
    λ page is. (three (is_content (record_at o) page) (has_page (swept s) page) (not (these page)) (sym (left page) ∙ is)).0 in
    let inside : (page : ℕ) → is_content (record_at n) page ≡ true → page < PAGES = λ page is. content_inside o rest page sound.apart (was page is) in
    let agree : (page offset : ℕ) → is_content (record_at n) page ≡ true → content_of (words_kept n pages) page offset ≡ rest.content page offset =
    λ page offset is. content_kept n pages page offset is ∙ running.agree page offset (inside page is) (was page is) in
    let outs : (channel : ℕ) → (state_of n rest).out channel ≡ w.now.out channel =
    λ channel. same_out n rest channel ∙ sym (same_out o rest channel) ∙ ap (λ (t : State). t.out channel) (sym running.now) in
    record {
      sound = subst IsSoundState (sym state) sound_after;
      swept = ap swept state ∙ twice ∙ sym state;
      slots = fixed;
      strays = strays;
      words = record {
        told = record {
          each = λ page below. elim (cases_Bool (is_content (record_at n) page)) [
            | inl is ↦ ap is_some (kept_is n pages page is) ∙ running.words page below (was page is) ∙ sym is
            | inr none ↦ ap is_some (kept_none n pages page none) ∙ sym none
          ];
          past = λ page past. elim (cases_Bool (is_content (record_at n) page)) [
            | inl is ↦ (let below = inside page is in absurd (omega (arith, below, past)))
            | inr none ↦ kept_none n pages page none
          ];
        };
        agree = agree;
      };
      rings = λ id. counts_at o n s these id w (record w { now = state_of n rest }) (slots id)
          (λ channel. ap (λ (l : List (List ℕ)). w.base channel + length l) (outs channel)) (running.rings id);
      room = room_same w w.now (state_of n rest) outs running.sound.room.now;
      entries = λ channel i below lo hi.
          let waits : length (w.released channel) < length (rest.out channel) = omega (arith, lo, hi) in
          let entry = running.entries channel i below lo hi in
          let is_page : channel < PAGES = omega (arith, below) in
          let apart : these channel ≡ false = elim (cases_Bool (these channel)) [
            | inr stored ↦ stored
            | inl zeroed ↦
                absurd (no_zeros (rest.content channel) (w.base channel + i) (slice_index_or (rest.out channel) i []) entry
                (λ offset. zeros channel offset (is_page, (and_parts (is_zeroed_alone (stage_of r.pages channel)) (nat_lt channel PAGES) zeroed).0)))
          ] in
          let is : is_content (record_at n) channel ≡ true =
          left channel ∙ of_three (is_content (record_at o) channel) (has_page (swept s) channel) (not (these channel)) (running.waiting channel below waits)
          (channel_has_page (swept s) channel sound_after.fixed below) (rw apart refl) in
          subst (λ (byte : ℕ → ℕ). HasEntry byte (w.base channel + i) (slice_index_or (rest.out channel) i []))
          (sym (fun_ext (λ offset. agree channel offset is))) entry;
      channels = λ channel past. sym (same_out n rest channel) ∙ outs channel ∙ running.sound.entries.0.channels channel past;
    }
