-- Room in rings: of each channel as many entries were put as were accepted, and at most as many more as a ring holds.
use Rattle.std.specs.Prelude.{◌≡◌, ℕ, ◌+◌, ◌-◌, ◌^◌, ◌<◌, ◌≤◌, ◌==◌, not, Bool, true, false, if◌then◌else◌, List, [], ◌∷◌, ◌++◌, length, Option, Some, None}
use Rattle.std.proofs.Common.{refl, ap, sym, subst, arith}
use Rattle.std.proofs.lemmas.Bool.{not-false, eqb-true, eqb-false, ltb-true}
use Rattle.std.proofs.lemmas.List.{length-append, length_push}
use Rattle.sls_base.proofs.ListTests.{or_false}
use Rattle.sls_base.specs.declared.limits.TheConstants.{RING_ENTRIES}
use Rattle.sls_base.specs.declared.image.Image.{Image}
use Rattle.sls_base.specs.declared.thread.Thread.{Thread as ThreadRecord}
use Rattle.plain_state.specs.declared.calls.Call.TheVariants.{Put}
use Rattle.plain_state.specs.declared.calls.Refusal.TheVariants.{WrongKind, Full}
use Rattle.plain_state.specs.declared.effect.Output.{Output}
use Rattle.plain_state.specs.declared.label.Label.{Label}
use Rattle.plain_state.specs.declared.objects.Kind.TheVariants.{OutputKind}
use Rattle.plain_model.specs.Objects.{Object, OutputRing, is_kind}
use Rattle.plain_model.specs.States.{State, thread_at}
use Rattle.plain_model.specs.Worlds.{World, accepted_count, put_count}
use Rattle.plain_model.specs.Effects.{Effect}
use Rattle.plain_model.specs.Calls.{named}
use Rattle.plain_model.specs.CallRefusals.{is_full_ring, refusal_of}
use Rattle.plain_model.specs.CallEffects.{channel_of}
use Rattle.plain_model.specs.Instructions.{instruction}
use Rattle.plain_model.specs.Ticks.{Chosen, effect_for, state_of_effect, world_of_effect, with_output}
use Rattle.plain_model.specs.Play.{after, play, commit, cut, is_offered, next_bytes, with_released, with_input}
use Rattle.plain_model.specs.Initial.{first_world}
use Rattle.plain_model.specs.MayStep.{MayStep, MayPlay}
use Rattle.plain_laws.specs.Laws.{IsFirstPart, IsInOrder}
use Rattle.plain_laws.specs.Bounds.{HasRoom, IsInRoom}
use Rattle.plain_laws.proofs.FormsCalls.{not_refused}
use Rattle.plain_laws.proofs.Parts.{stays_in_order, first_in_order}
use Rattle.plain_laws.proofs.Traffic.{of_traffic}
use Rattle.plain_laws.proofs.Walk.{kept_after, may_played}

-- What a tick puts.

-- there is room for an entry of a channel
pub record HasSpace (w : World) (channel : ℕ) : Type 0 where
  pub ring : put_count w channel < accepted_count w channel + RING_ENTRIES
  pub count : put_count w channel < 2 ^ 64 - 1

abbrev HasSpaceFor : World → Option Output → Type 0
HasSpaceFor w None = Unit {0}
HasSpaceFor w (Some output) = HasSpace w output.channel

ring_space : (w : World) (o : Option Object) → is_kind OutputKind o ≡ true → is_full_ring w o ≡ false → HasRoom w w.now → HasSpace w (channel_of o)
ring_space w (Some (OutputRing channel)) e full h =
    let parts = or_false (put_count w channel == accepted_count w channel + RING_ENTRIES) (put_count w channel == 2 ^ 64 - 1) full in
    let ring = eqb-false (put_count w channel) (accepted_count w channel + RING_ENTRIES) parts.0 in
    let count = eqb-false (put_count w channel) (2 ^ 64 - 1) parts.1 in
    let below = h.ring channel in
    let least = h.count channel in
    record { ring = omega arith; count = omega arith }
ring_space w o e full h = absurd (cc)

put_space : (w : World) (id : ℕ) (thread : ThreadRecord) → HasRoom w w.now → refusal_of w id thread Put ≡ None → HasSpace w (channel_of (named w.now thread 0))
put_space w id thread h e =
    let unmet = or_false (not (is_kind OutputKind (named w.now thread 0))) false (not_refused w id thread Put 1 WrongKind e refl).0 in
    ring_space w (named w.now thread 0) (not-false (is_kind OutputKind (named w.now thread 0)) unmet.0) (not_refused w id thread Put 10 Full e refl).1 h

effect_space : (w : World) (id : ℕ) (thread : ThreadRecord) → HasRoom w w.now → HasSpaceFor w (instruction w id thread).output
effect_space w id thread h = of_traffic (λ e. HasSpaceFor w e.output) w id thread (record {
  quiet = λ e quiet. subst (HasSpaceFor w) (sym quiet.output) tt;
  fetches = λ places e p. p;
  stores = λ op at value does covered. tt;
  puts = put_space w id thread h;
  gets = λ e. tt;
})

-- Counts of a channel.

pub record HasCounts (w : World) (channel : ℕ) (out : List (List ℕ)) : Type 0 where
  pub accepted : accepted_count w channel ≤ w.base channel + length out
  pub ring : w.base channel + length out ≤ accepted_count w channel + RING_ENTRIES
  pub count : w.base channel + length out ≤ 2 ^ 64 - 1

counts_of : (w : World) (s : State) (channel : ℕ) → HasRoom w s → HasCounts w channel (s.out channel)
counts_of w s channel h = record { accepted = h.accepted channel; ring = h.ring channel; count = h.count channel }

room_by : (w : World) (s : State) → ((channel : ℕ) → HasCounts w channel (s.out channel)) → HasRoom w s
room_by w s h = record { accepted = λ channel. (h channel).accepted; ring = λ channel. (h channel).ring; count = λ channel. (h channel).count }

-- another state of another world, where the counts of channels are the same
alike_room : (v w : World) (s t : State) → v.base ≡ w.base → v.released ≡ w.released → s.out ≡ t.out → HasRoom v s → HasRoom w t
alike_room v w s t base released out h = room_by w t (λ channel.
    let b = ap (λ (counts : ℕ → ℕ). counts channel) base in
    let r = ap (λ (entries : ℕ → List (List ℕ)). length (entries channel)) released in
    let o = ap (λ (entries : ℕ → List (List ℕ)). length (entries channel)) out in
    let accepted = h.accepted channel in
    let ring = h.ring channel in
    let count = h.count channel in
    record { accepted = omega arith; ring = omega arith; count = omega arith })

counts_if : (w : World) (output : Output) (channel : ℕ) (b : Bool) → (channel == output.channel) ≡ b → HasSpace w output.channel → HasRoom w w.now
    → HasCounts w channel (if b then w.now.out channel ++ output.bytes.items ∷ [] else w.now.out channel)
counts_if w output channel true e space h =
    let here : HasSpace w channel = subst (HasSpace w) (sym (eqb-true channel output.channel e)) space in
    let longer = length_push (w.now.out channel) output.bytes.items in
    let ring = here.ring in
    let count = here.count in
    let accepted = h.accepted channel in
    record { accepted = omega arith; ring = omega arith; count = omega arith }
counts_if w output channel false e space h = counts_of w w.now channel h

counts_put : (w : World) (output : Option Output) (channel : ℕ) → HasSpaceFor w output → HasRoom w w.now → HasCounts w channel (with_output w.now.out output channel)
counts_put w None channel space h = counts_of w w.now channel h
counts_put w (Some output) channel space h = counts_if w output channel (channel == output.channel) refl space h

tick_room : (w : World) (core : ℕ) (c : Chosen) (e : Effect) → HasSpaceFor w e.output → HasRoom w w.now → HasRoom w (state_of_effect w.now core c e)
unfolding state_of_effect
tick_room w core c e space h = room_by w (state_of_effect w.now core c e) (λ channel. counts_put w e.output channel space h)

-- The device accepts an entry.

part_is_shorter : (xs ys : List (List ℕ)) → IsFirstPart xs ys → length xs ≤ length ys
part_is_shorter xs ys part = (let a = length-append xs part.0 in let b = ap (λ (l : List (List ℕ)). length l) part.1 in omega arith)

abbrev accepted_by : World → ℕ → World
accepted_by w channel = record w { released = with_released w.released channel (next_bytes w channel) }

-- what the saved copy has put and the device has not, others have put too
accepted_count_if : (w : World) (channel c : ℕ) (out : List (List ℕ)) (b : Bool) → (c == channel) ≡ b → is_offered w channel ≡ true → length (w.saved.out c) ≤ length out
    → HasCounts w c out → HasCounts (accepted_by w channel) c out
accepted_count_if w channel c out true e offered more h =
    let same : c ≡ channel = eqb-true c channel e in
    let longer = length_push (w.released c) (next_bytes w channel) in
    let is : length (with_released w.released channel (next_bytes w channel) c) ≡ length (w.released c ++ next_bytes w channel ∷ []) = rw e refl in
    let offered_there = ltb-true (length (w.released channel)) (length (w.saved.out channel)) offered in
    let offered_here : length (w.released c) < length (w.saved.out c) = rw same offered_there in
    let accepted = h.accepted in
    let ring = h.ring in
    record { accepted = omega arith; ring = omega arith; count = h.count }
accepted_count_if w channel c out false e offered more h =
    let is : length (with_released w.released channel (next_bytes w channel) c) ≡ length (w.released c) = rw e refl in
    let accepted = h.accepted in
    let ring = h.ring in
    record { accepted = omega arith; ring = omega arith; count = h.count }

accept_room : (w : World) (channel : ℕ) (s : State) → is_offered w channel ≡ true → ((c : ℕ) → length (w.saved.out c) ≤ length (s.out c)) → HasRoom w s → HasRoom (accepted_by w channel) s
accept_room w channel s offered more h = room_by (accepted_by w channel) s (λ c. accepted_count_if w channel c (s.out c) (c == channel) refl offered (more c) (counts_of w s c h))

-- Labels.

pub stays_in_room : (w : World) (label : Label) → MayStep w label → IsInOrder w → IsInRoom w → IsInRoom (after w label)
stays_in_room w label may order h = kept_after IsInRoom (MayStep w) w (record {
  ticks = λ core c passes e. (let v = world_of_effect w core c (effect_for w c) in record {
    now = alike_room w v v.now v.now refl refl refl (tick_room w core c (effect_for w c) (effect_space w c.occupant.thread (thread_at w.now c.occupant.thread) h.now) h.now);
    saved = alike_room w v w.saved w.saved refl refl refl h.saved;
    version = h.version;
  });
  commits = λ passes. (let room = alike_room w (commit w) w.now (commit w).now refl refl refl h.now in record { now = room; saved = room; version = omega arith });
  cuts = λ passes. record {
    now = alike_room w (cut w) w.saved (cut w).now refl refl refl h.saved;
    saved = alike_room w (cut w) w.saved w.saved refl refl refl h.saved;
    version = h.version;
  };
  accepts = λ channel passes offered. record {
    now = accept_room w channel w.now offered (λ c. part_is_shorter (w.saved.out c) (w.now.out c) (order.saved c)) h.now;
    saved = accept_room w channel w.saved offered (λ c. omega arith) h.saved;
    version = h.version;
  };
  inputs = λ bytes passes room. (let v : World = record w { now = with_input w.now bytes.items } in record {
    now = alike_room w v w.now v.now refl refl refl h.now;
    saved = alike_room w v w.saved w.saved refl refl refl h.saved;
    version = h.version;
  });
}) h label may

-- Plays.

first_room : (image : Image) (cores : ℕ) → HasRoom (first_world image cores) (first_world image cores).now
first_room image cores = record { accepted = λ channel. omega arith; ring = λ channel. omega arith; count = λ channel. omega arith }

pub first_in_room : (image : Image) (cores : ℕ) → IsInRoom (first_world image cores)
first_in_room image cores = record { now = first_room image cores; saved = first_room image cores; version = omega arith }

abbrev IsInOrderAndRoom : World → Type 0
IsInOrderAndRoom w = IsInOrder w × IsInRoom w

pub always_in_room : (image : Image) (cores : ℕ) (labels : List Label) → MayPlay (first_world image cores) labels → IsInRoom (play (first_world image cores) labels)
always_in_room image cores labels may =
    (may_played IsInOrderAndRoom (λ w label may h. (stays_in_order w label h.0, stays_in_room w label may h.0 h.1)) (first_world image cores) labels may (first_in_order image cores, first_in_room image cores)).1
