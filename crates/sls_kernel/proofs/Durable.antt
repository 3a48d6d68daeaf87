-- What is durable at every moment: the saved state, or the words of a memory that isn't formatted yet.
use Rattle.std.proofs.Common.{◌≡◌, ◌⊎◌, inl, inr, refl, ℕ, ◌+◌, ◌*◌, ◌/◌, ◌%◌, ◌<◌, ◌≤◌, ◌∙◌, ap, sym, subst, arith, List, [], length, length-append, slice_index_or}
use Rattle.sls_base.specs.declared.limits.TheConstants.{TABLE_WORDS, FRAME_WORDS, LAST_VERSION, RING_ENTRIES}
use Rattle.pmem_model.specs.Words.{Word}
use Rattle.pmem_model.specs.Memory.{word_at}
use Rattle.pmem_model.specs.Events.{Clean, WordIs}
use Rattle.sls_kernel.specs.Plain.{State, World, accepted_count}
use Rattle.sls_kernel.specs.Areas.{PartsAre}
use Rattle.sls_kernel.specs.Words.{Holds, IsPage, IsRing, IsEntry, byte_of, area_place, area_of, part_words}
use Rattle.sls_kernel.specs.Stages.{format_word}
use Rattle.sls_kernel.specs.Shows.{Shows, Stands, StandsFor, IsUnformatted, IsPrefixOf, durable_words, area_words, put_count, AreState, WordsShow, AtStage, IsFirst}
use Rattle.sls_kernel.specs.Side.{Formatting, mode_of}
use Rattle.sls_kernel.specs.declared.machine.Machine.{Machine}
use Rattle.sls_kernel.specs.declared.record.TheConstants.{RECORD_WORDS}
use Rattle.sls_kernel.specs.declared.stage.Stage.{Stage}
use Rattle.sls_kernel.specs.declared.stage.Stage.TheVariants.{Format, Recover, Up, Checkpoint}
use Rattle.sls_kernel.specs.declared.stage.FormatStep.TheVariants.{Fill, Save, StoreWord, FlushWord, FenceWord}

-- Equal words are the same state.

abbrev pub SameParts : (ℕ → ℕ → ℕ) → (ℕ → ℕ → ℕ) → Type 0
SameParts words words' = (part i : ℕ) → part < 6 → i < part_words part → words' part i ≡ words part i

page_along : (words words' : ℕ → ℕ) (byte : ℕ → ℕ) → ((i : ℕ) → i < FRAME_WORDS → words' i ≡ words i) → IsPage words byte → IsPage words' byte
page_along words words' byte same is = λ a lt. is a lt ∙ ap (λ (x : ℕ). byte_of x (a % 8)) (sym (same (a / 8) (omega arith)))

pub entry_along : (words words' : ℕ → ℕ) (number : ℕ) (entry : List ℕ) → ((i : ℕ) → i < FRAME_WORDS → words' i ≡ words i) → IsEntry words number entry → IsEntry words' number entry
entry_along words words' number entry same is = record {
  some = is.some;
  most = is.most;
  size = same (8 * (number % RING_ENTRIES)) (omega arith) ∙ is.size;
  bytes = λ k lt. ap (λ (x : ℕ). byte_of x (k % 8)) (same (8 * (number % RING_ENTRIES) + 1 + k / 8) (omega arith)) ∙ is.bytes k lt;
}

ring_along : (words words' : ℕ → ℕ) (accepted : ℕ) (out : List (List ℕ)) → ((i : ℕ) → i < FRAME_WORDS → words' i ≡ words i) → IsRing words accepted out → IsRing words' accepted out
ring_along words words' accepted out same is = record {
  entries = λ number low high. entry_along words words' number (slice_index_or out number []) same (is.entries number low high);
  room = is.room;
  number = is.number;
}

pub holds_along : (words words' : ℕ → ℕ → ℕ) (accepted : ℕ → ℕ) (s : State) → ((page i : ℕ) → page < 5 → i < FRAME_WORDS → words' page i ≡ words page i) → Holds words accepted s → Holds words' accepted s
holds_along words words' accepted s same is = record {
  page = page_along (words 4) (words' 4) s.byte (λ i lt. same 4 i (omega arith) lt) is.page;
  rings = λ channel below. ring_along (words channel) (words' channel) (accepted channel) (s.out channel) (λ i lt. same channel i (omega arith) lt) (is.rings channel below);
  thread = is.thread;
}

page_part : (page i : ℕ) → page < 5 → i < FRAME_WORDS → i < part_words page
page_part page i p lt = grind (arith)

pub state_along : (words words' : ℕ → ℕ → ℕ) (accepted : ℕ → ℕ) (s : State) → SameParts words words' → AreState words accepted s → AreState words' accepted s
state_along words words' accepted s same is = record {
  holds = holds_along words words' accepted s (λ page i p lt. same page i (omega arith) (page_part page i p lt)) is.holds;
  thread_record = λ i lt. same 5 i (omega arith) lt ∙ is.thread_record i lt;
}

-- a prefix is no longer than the list
prefix_length : (xs ys : List (List ℕ)) → IsPrefixOf xs ys → length xs ≤ length ys
prefix_length xs ys (rest, e) = let all = ap length e in let both = length-append xs rest in omega arith

area_below : (v : ℕ) → area_of v < 2
area_below v = omega arith

-- The saved area is durable.

pub stands_of : (f : ℕ → Word) (v : ℕ) (saved : ℕ → ℕ → ℕ) (accepted : ℕ → ℕ) (s : State) → (f 0).durable ≡ format_word → (f 1).durable ≡ v → v ≤ LAST_VERSION
    → ((i : ℕ) → 2 ≤ i → i < TABLE_WORDS → WordIs 0 Clean (f i) 0) → PartsAre (λ part. Clean) f (area_place (area_of v)) saved → AreState saved accepted s
    → ((i : ℕ) → RECORD_WORDS ≤ i → i < FRAME_WORDS → (f (area_place (area_of v) 5 i)).durable ≡ 0) → ((channel : ℕ) → channel < 4 → accepted channel ≤ put_count s channel)
    → Stands (λ i. (f i).durable) accepted s
stands_of f v saved accepted s formatted version fits table area is rest put = record {
  formatted = formatted;
  in_range = subst (λ (x : ℕ). x ≤ LAST_VERSION) (sym version) fits;
  table = λ i low high. (table i low high).1;
  area = subst (λ (x : ℕ). AreState (area_words (λ i. (f i).durable) (area_of x)) accepted s) (sym version)
      (state_along saved (area_words (λ i. (f i).durable) (area_of v)) accepted s (λ part i p lt. (area part i p lt).1) is);
  record_rest = subst (λ (x : ℕ). (i : ℕ) → RECORD_WORDS ≤ i → i < FRAME_WORDS → (f (area_place (area_of x) 5 i)).durable ≡ 0) (sym version) rest;
  accepted_put = put;
}

unformatted : (m : Machine) (w : World) (s : Shows m w) → IsFirst m w s.now_words s.saved_words → (word_at m.nvm 0).durable ≡ 0 → IsUnformatted (durable_words m.nvm) w
unformatted m w s at zero_word = record {
  unformatted = zero_word;
  version = s.words.version_durable ∙ ap (λ (x : World). x.version) at.world;
  program = m.program.items;
  in_range = at.in_range;
  words = at.formatting.durable;
  world = at.world;
}

standing : (m : Machine) (w : World) (s : Shows m w) → (word_at m.nvm 0).durable ≡ format_word → PartsAre (λ part. Clean) (word_at m.nvm) (area_place (area_of w.version)) s.saved_words → Stands (durable_words m.nvm) (accepted_count w) w.saved
standing m w s formatted area = stands_of (word_at m.nvm) w.version s.saved_words (accepted_count w) w.saved formatted s.words.version_durable s.counted.version s.words.table area s.saved_is
    (λ i low high. (s.words.record_rest (area_of w.version) i (area_below w.version) low high).1) (λ channel lt. prefix_length (w.released channel) (w.saved.out channel) (s.counted.released channel))

at_stage : (m : Machine) (w : World) (s : Shows m w) (stage : Stage) → WordsShow stage (word_at m.nvm) w.version s.now_words s.saved_words → AtStage stage m w s.now_words s.saved_words
    → Stands (durable_words m.nvm) (accepted_count w) w.saved ⊎ IsUnformatted (durable_words m.nvm) w
at_stage m w s (Format Fill) known at = inr (unformatted m w s at known.format.1)
at_stage m w s (Format (Save step)) known at = inr (unformatted m w s at known.format.1)
at_stage m w s (Format StoreWord) known at = inr (unformatted m w s at known.format.1)
at_stage m w s (Format FlushWord) known at = elim known.format.1 [ inl done ↦ inl (standing m w s done known.saved_area) | inr not_yet ↦ inr (unformatted m w s at not_yet) ]
at_stage m w s (Format FenceWord) known at = elim known.format.1 [ inl done ↦ inl (standing m w s done known.saved_area) | inr not_yet ↦ inr (unformatted m w s at not_yet.0) ]
at_stage m w s (Recover page) known at = inl (standing m w s known.format.1 known.saved_area)
at_stage m w s Up known at = inl (standing m w s known.format.1 known.saved_area)
at_stage m w s (Checkpoint step) known at = inl (standing m w s known.format.1 known.saved_area)

pub durable_stands : (m : Machine) (w : World) → Shows m w → Stands (durable_words m.nvm) (accepted_count w) w.saved ⊎ IsUnformatted (durable_words m.nvm) w
durable_stands m w s = at_stage m w s m.stage s.words s.stage

-- a machine whose memory has no format word formats
pub formats_at : (m : Machine) (w : World) (stage : Stage) (now saved : ℕ → ℕ → ℕ) → WordsShow stage (word_at m.nvm) w.version now saved → (word_at m.nvm 0).durable ≡ 0 → mode_of stage ≡ Formatting
formats_at m w (Format step) now saved known is = refl
formats_at m w (Recover page) now saved known is = absurd (omega (arith, known.format.1))
formats_at m w Up now saved known is = absurd (omega (arith, known.format.1))
formats_at m w (Checkpoint step) now saved known is = absurd (omega (arith, known.format.1))

-- the durable words stand for the saved state of the world's version, but where the machine formats
pub stands_for : (m : Machine) (w : World) → Shows m w → StandsFor (durable_words m.nvm) w ⊎ (mode_of m.stage ≡ Formatting) × IsUnformatted (durable_words m.nvm) w
stands_for m w s =
    elim (durable_stands m w s) [
      | inl stands ↦ inl (record { version = s.words.version_durable; saved = stands })
      | inr not_yet ↦ inr (formats_at m w m.stage s.now_words s.saved_words s.words not_yet.unformatted, not_yet)
    ]
