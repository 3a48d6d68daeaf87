-- Entries and inputs: each is of 1 to 56 bytes, entries are put on the channels that there are, and no more inputs wait than there
-- is room for.
use Rattle.std.specs.Prelude.{◌≡◌, ℕ, ◌<◌, ◌≤◌, ◌==◌, not, nat_le, min, Bool, true, false, if◌then◌else◌, List, [], ◌∷◌, ◌++◌, length, map, drop, All, Option, Some, None}
use Rattle.std.proofs.Common.{refl, sym, ◌∙◌, subst, arith}
use Rattle.std.proofs.lemmas.Bool.{not-false, eqb-true, leb-true, ltb-true}
use Rattle.std.proofs.lemmas.List.{length-map, length-drop, length_push}
use Rattle.std.proofs.lemmas.List.Elements.{All-nil, All-push, All-drop}
use Rattle.sls_base.proofs.ListTests.{and_left, and_right, or_false}
use Rattle.sls_base.specs.declared.limits.TheConstants.{ENTRY_BYTES, OUTPUT_CHANNELS, WAITING_INPUTS}
use Rattle.sls_base.specs.declared.rights.TheConstants.{READ}
use Rattle.sls_base.specs.declared.image.Image.{Image}
use Rattle.sls_base.specs.declared.thread.Thread.{Thread as ThreadRecord}
use Rattle.plain_state.specs.declared.calls.Call.TheVariants.{Put}
use Rattle.plain_state.specs.declared.calls.Refusal.TheVariants.{WrongKind, BadAddress, BadSize}
use Rattle.plain_state.specs.declared.effect.Output.{Output}
use Rattle.plain_state.specs.declared.label.Label.{Label}
use Rattle.plain_state.specs.declared.objects.Kind.TheVariants.{OutputKind}
use Rattle.plain_model.specs.Objects.{Object, OutputRing, is_kind, regions_of}
use Rattle.plain_model.specs.States.{State, thread_at}
use Rattle.plain_model.specs.Memory.{is_covered, places_of, byte_at}
use Rattle.plain_model.specs.Worlds.{World}
use Rattle.plain_model.specs.Effects.{Effect}
use Rattle.plain_model.specs.Calls.{arg, id_named, named}
use Rattle.plain_model.specs.CallRefusals.{is_entry_length, refusal_of}
use Rattle.plain_model.specs.CallEffects.{channel_of, put_effect}
use Rattle.plain_model.specs.Instructions.{instruction}
use Rattle.plain_model.specs.Ticks.{Chosen, effect_for, state_of_effect, with_output}
use Rattle.plain_model.specs.Play.{after}
use Rattle.plain_model.specs.Initial.{initial}
use Rattle.plain_model.specs.MayStep.{MayStep}
use Rattle.plain_laws.specs.Plays.{Both}
use Rattle.plain_laws.specs.Sound.{HasForm, HaveForms}
use Rattle.plain_laws.specs.Bounds.{HasBytes, IsEntry, HasEntries, HasPages}
use Rattle.plain_laws.proofs.FormsCalls.{not_refused}
use Rattle.plain_laws.proofs.PageBytes.{read_are_bytes, covered_places}
use Rattle.plain_laws.proofs.Traffic.{of_traffic}
use Rattle.plain_laws.proofs.WalkStates.{both_after}

-- What a call puts.

-- an entry in form, on a channel that there is
pub record IsPut (output : Output) : Type 0 where
  pub channel : output.channel < OUTPUT_CHANNELS
  pub entry : IsEntry output.bytes.items

abbrev IsPutIfAny : Option Output → Type 0
IsPutIfAny None = Unit {0}
IsPutIfAny (Some output) = IsPut output

ring_channel : (o : Option Object) → is_kind OutputKind o ≡ true → HasForm o → channel_of o < OUTPUT_CHANNELS
ring_channel (Some (OutputRing channel)) e h = h
ring_channel o e h = absurd (cc)

-- a buffer that is covered as far as an entry may reach, and no longer than that, is covered
covered_buffer : (s : State) (thread : ThreadRecord) → is_entry_length (arg thread 2) ≡ true → is_covered (regions_of (s.objects thread.space)) READ (arg thread 1) (min (arg thread 2) ENTRY_BYTES) ≡ true
    → is_covered (regions_of (s.objects thread.space)) READ (arg thread 1) (arg thread 2) ≡ true
covered_buffer s thread size e =
    let most = leb-true (arg thread 2) ENTRY_BYTES (and_right (nat_le 1 (arg thread 2)) (nat_le (arg thread 2) ENTRY_BYTES) size) in
    let same : min (arg thread 2) ENTRY_BYTES ≡ arg thread 2 = omega arith in
    subst (λ (count : ℕ). is_covered (regions_of (s.objects thread.space)) READ (arg thread 1) count ≡ true) same e

entry_of : (s : State) (thread : ThreadRecord) → HasPages s → is_entry_length (arg thread 2) ≡ true → is_covered (regions_of (s.objects thread.space)) READ (arg thread 1) (arg thread 2) ≡ true
    → IsEntry (map (byte_at s.objects) (places_of (regions_of (s.objects thread.space)) READ (arg thread 1) (arg thread 2)))
entry_of s thread pages size covered =
    let places = places_of (regions_of (s.objects thread.space)) READ (arg thread 1) (arg thread 2) in
    let count = length-map places (byte_at s.objects) ∙ covered_places (regions_of (s.objects thread.space)) READ (arg thread 1) (arg thread 2) covered in
    let least = leb-true 1 (arg thread 2) (and_left (nat_le 1 (arg thread 2)) (nat_le (arg thread 2) ENTRY_BYTES) size) in
    let most = leb-true (arg thread 2) ENTRY_BYTES (and_right (nat_le 1 (arg thread 2)) (nat_le (arg thread 2) ENTRY_BYTES) size) in
    record { some = omega arith; room = omega arith; bytes = read_are_bytes s places pages }

put_in_form : (w : World) (id : ℕ) (thread : ThreadRecord) → HaveForms w.now → HasPages w.now → refusal_of w id thread Put ≡ None → IsPutIfAny (put_effect w.now thread).output
put_in_form w id thread forms pages e =
    let kind = or_false (not (is_kind OutputKind (named w.now thread 0))) false (not_refused w id thread Put 1 WrongKind e refl).0 in
    let address = not-false _ (not_refused w id thread Put 3 BadAddress e refl).1 in
    let size = not-false (is_entry_length (arg thread 2)) (not_refused w id thread Put 4 BadSize e refl).1 in
    record {
      channel = ring_channel (named w.now thread 0) (not-false (is_kind OutputKind (named w.now thread 0)) kind.0) (forms (id_named w.now thread 0));
      entry = entry_of w.now thread pages size (covered_buffer w.now thread size address);
    }

effect_puts : (w : World) (id : ℕ) (thread : ThreadRecord) → HaveForms w.now → HasPages w.now → IsPutIfAny (instruction w id thread).output
effect_puts w id thread forms pages = of_traffic (λ e. IsPutIfAny e.output) w id thread (record {
  quiet = λ e quiet. subst IsPutIfAny (sym quiet.output) tt;
  fetches = λ places e p. p;
  stores = λ op at value does covered. tt;
  puts = put_in_form w id thread forms pages;
  gets = λ e. tt;
})

-- What a tick leaves on a channel, and of the inputs.

put_entries_if : (entries : List (List ℕ)) (bytes : List ℕ) (b : Bool) → IsEntry bytes → All IsEntry entries → All IsEntry (if b then entries ++ bytes ∷ [] else entries)
put_entries_if entries bytes true new h = All-push IsEntry entries bytes h new
put_entries_if entries bytes false new h = h

put_entries : (s : State) (output : Option Output) (channel : ℕ) → IsPutIfAny output → HasEntries s → All IsEntry (with_output s.out output channel)
put_entries s None channel put h = h.entries channel
put_entries s (Some output) channel put h = put_entries_if (s.out channel) output.bytes.items (channel == output.channel) put.entry (h.entries channel)

no_entries_if : (entries : List (List ℕ)) (output : Output) (channel : ℕ) (b : Bool) → (channel == output.channel) ≡ b → OUTPUT_CHANNELS ≤ channel → IsPut output → entries ≡ []
    → (if b then entries ++ output.bytes.items ∷ [] else entries) ≡ []
no_entries_if entries output channel true e l put none =
    let same = eqb-true channel output.channel e in
    let below = put.channel in
    absurd (omega arith)
no_entries_if entries output channel false e l put none = none

no_entries : (s : State) (output : Option Output) (channel : ℕ) → OUTPUT_CHANNELS ≤ channel → IsPutIfAny output → HasEntries s → with_output s.out output channel ≡ []
no_entries s None channel l put h = h.channels channel l
no_entries s (Some output) channel l put h = no_entries_if (s.out channel) output channel (channel == output.channel) refl l put (h.channels channel l)

taken_inputs : (inputs : List (List ℕ)) (b : Bool) → All IsEntry inputs → All IsEntry (if b then drop 1 inputs else inputs)
taken_inputs inputs true h = All-drop IsEntry 1 inputs h
taken_inputs inputs false h = h

taken_fewer : (inputs : List (List ℕ)) (b : Bool) → length (if b then drop 1 inputs else inputs) ≤ length inputs
taken_fewer inputs true = (let l = length-drop 1 inputs in omega arith)
taken_fewer inputs false = omega arith

tick_entries : (s : State) (core : ℕ) (c : Chosen) (e : Effect) → IsPutIfAny e.output → HasEntries s → HasEntries (state_of_effect s core c e)
unfolding state_of_effect
tick_entries s core c e put h = record {
  entries = λ channel. put_entries s e.output channel put h;
  channels = λ channel l. no_entries s e.output channel l put h;
  inputs = taken_inputs s.inputs e.takes h.inputs;
  waiting = (let fewer = taken_fewer s.inputs e.takes in let most = h.waiting in omega arith);
}

-- Labels.

-- a label may befall a world, and an input is bytes
abbrev Passes : World → Label → Type 0
Passes w label = MayStep w label × HasBytes label

pub stays_with_entries : (w : World) (label : Label) → MayStep w label → HasBytes label → HaveForms w.now → HasPages w.now → Both HasEntries w → Both HasEntries (after w label)
stays_with_entries w label may bytes forms pages h = both_after HasEntries (Passes w) w (record {
  ticks = λ core c passes e. tick_entries w.now core c (effect_for w c) (effect_puts w c.occupant.thread (thread_at w.now c.occupant.thread) forms pages) h.0;
  sweeps = record { entries = h.0.entries; channels = h.0.channels; inputs = h.0.inputs; waiting = h.0.waiting };
  cuts = record { entries = h.1.entries; channels = h.1.channels; inputs = All-nil IsEntry; waiting = omega arith };
  inputs = λ bytes passes room. record {
    entries = h.0.entries;
    channels = h.0.channels;
    inputs = All-push IsEntry w.now.inputs bytes.items h.0.inputs (record { some = passes.0.0; room = passes.0.1; bytes = passes.1 });
    waiting = (let longer = length_push w.now.inputs bytes.items in let few = ltb-true (length w.now.inputs) WAITING_INPUTS room in omega arith);
  };
}) h label (may, bytes)

pub first_entries : (image : Image) (cores : ℕ) → HasEntries (initial image cores)
first_entries image cores = record { entries = λ channel. All-nil IsEntry; channels = λ channel l. refl; inputs = All-nil IsEntry; waiting = omega arith }
