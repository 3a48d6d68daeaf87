-- How formatting goes on.
use Rattle.std.proofs.Common.{arith, ◌≡◌, ◌⊎◌, inl, inr, ℕ, ◌+◌, ◌-◌, ◌<◌, ◌≤◌, ◌^◌, ◌∙◌, ap, sym, refl, subst, Option, Some, None, List, slice_index, ⊎_elim, true, if◌then◌else◌, nat_lt}
use Rattle.std.proofs.lemmas.Bool.{cases_lt}
use Rattle.std.proofs.lemmas.Bool.Decides.{nat_tests}
use Rattle.sls_base.specs.declared.limits.TheConstants.{FRAME_WORDS}
use Rattle.pmem_model.specs.Words.{Word, bursts}
use Rattle.pmem_model.specs.Memory.{word_at}
use Rattle.pmem_model.specs.Events.{Any, Cached, Clean, WordIs, WordCalm, calm_word, burst_off, burst_in, burst_cached}
use Rattle.sls_kernel.specs.Plain.{World, first}
use Rattle.sls_kernel.specs.Words.{area_of, area_place, running_place, frame_place}
use Rattle.sls_kernel.specs.Counts.{SameCounts}
use Rattle.sls_kernel.specs.Areas.{StoresPart}
use Rattle.sls_kernel.specs.Stages.{format_next, format_word}
use Rattle.sls_kernel.specs.Program.{page_bytes}
use Rattle.sls_kernel.specs.Shows.{Shows, WordsShow, AtStage, IsFirst, IsFormatting, MayBeFormatted, first_words}
use Rattle.sls_kernel.specs.declared.machine.Machine.{Machine}
use Rattle.sls_kernel.specs.declared.stage.SaveStep.{SaveStep}
use Rattle.sls_kernel.specs.declared.stage.SaveStep.TheVariants.{Copy}
use Rattle.sls_kernel.specs.declared.stage.Stage.{Stage}
use Rattle.sls_kernel.specs.declared.stage.Stage.TheVariants.{Format}
use Rattle.sls_kernel.specs.declared.stage.FormatStep.TheVariants.{Fill, Save}
use Rattle.sls_kernel.proofs.Facts.{shows_on, formatting_on, nothing_saved, rest_calm}
use Rattle.sls_kernel.proofs.WriteBacks.{running_on}

-- the first world is at version 0
pub first_version : (m : Machine) (w : World) (now saved : ℕ → ℕ → ℕ) → IsFirst m w now saved → w.version ≡ 0
first_version m w now saved at = ap (λ (x : World). x.version) at.world

-- the machine with other words still formats
pub still_first : (m n : Machine) (w : World) (now saved : ℕ → ℕ → ℕ) → n.thread ≡ m.thread → n.put ≡ m.put → n.program.items ≡ m.program.items → IsFormatting m.program.items (word_at n.nvm) → IsFirst m w now saved → IsFirst n w now saved
still_first m n w now saved thread put program formatting at = record {
  now_is = at.now_is ∙ ap first_words (sym program);
  saved_is = at.saved_is ∙ ap first_words (sym program);
  world = at.world ∙ ap (λ (p : List ℕ). first (page_bytes p) w.commits w.cuts) (sym program);
  in_range = subst (λ (p : List ℕ). (i : ℕ) → slice_index p i < 2 ^ 64) (sym program) at.in_range;
  formatting = subst (λ (p : List ℕ). IsFormatting p (word_at n.nvm)) (sym program) formatting;
  running = running_on m n w.now thread put at.running;
}

-- what a save stores is what formatting stores there
pub part_formats : (program : List ℕ) (words : ℕ → ℕ → ℕ) (f g : ℕ → Word) → words ≡ first_words program → ((i : ℕ) → StoresPart 0 words f g i) → IsFormatting program f → IsFormatting program g
part_formats program words f g is stores = formatting_on program f g (λ i. elim (stores i) [
  | inl calm ↦ inl calm
  | inr stored ↦ inr (inr (inr (inr (stored.part, stored.place, stored.is_part, stored.inside, stored.at, stored.cached ∙ ap (λ (ws : ℕ → ℕ → ℕ). ws stored.part stored.place) is))), stored.durable)
])

first_or_not : (i : ℕ) → (i ≡ 0) ⊎ (1 ≤ i)
first_or_not i = grind arith

-- the format word
pub word_formats : (program : List ℕ) (f g : ℕ → Word) → (g 0).cached ≡ format_word → (g 0).durable ≡ (f 0).durable → ((i : ℕ) → 1 ≤ i → WordCalm (f i) (g i)) → IsFormatting program f → IsFormatting program g
word_formats program f g cached durable calm = formatting_on program f g (λ i. elim (first_or_not i) [
  | inl zero_place ↦ subst (λ (k : ℕ). WordCalm (f k) (g k) ⊎ MayBeFormatted program k (g k).cached × ((g k).durable ≡ (f k).durable)) (sym zero_place) (inr (inr (inl (refl, cached)), durable))
  | inr other ↦ inl (calm i other)
])

-- the program's page
pub page_formats : (program : List ℕ) (f g : ℕ → Word) → ((i : ℕ) → (WordCalm (f i) (g i)) ⊎ ((o : ℕ) × (o < FRAME_WORDS) × (i ≡ running_place 4 o) × ((g i).cached ≡ slice_index program o) × ((g i).durable ≡ (f i).durable))) → IsFormatting program f → IsFormatting program g
page_formats program f g each = formatting_on program f g (λ i. elim (each i) [
  | inl calm ↦ inl calm
  | inr stored ↦ inr (inr (inr (inl (stored.0, stored.1, stored.2, stored.3))), stored.4)
])

in_page : (program : List ℕ) (f g : ℕ → Word) → ((p : ℕ) → g p ≡ bursts (frame_place 8 + 0) 512 (slice_index program) f p) → (i : ℕ) → frame_place 8 ≤ i → i < frame_place 9
    → (o : ℕ) × (o < FRAME_WORDS) × (i ≡ running_place 4 o) × ((g i).cached ≡ slice_index program o) × ((g i).durable ≡ (f i).durable)
in_page program f g e i high inside =
    let o = i - frame_place 8 in
    let lt : o < 512 = omega arith in
    let at : frame_place 8 + 0 + o ≡ i = omega arith in
    let s = burst_in f g (frame_place 8 + 0) 512 o (slice_index program) e lt in
    let cached = burst_cached f g (frame_place 8 + 0) 512 o (slice_index program) e lt in (
      o,
      lt,
      sym at,
      subst (λ (k : ℕ). (g k).cached ≡ slice_index program o) at cached,
      subst (λ (k : ℕ). (g k).durable ≡ (f k).durable) at (ap (λ (u : Word). u.durable) s),
    )

-- a burst over the program's page
pub page_burst : (program : List ℕ) (f g : ℕ → Word) → ((p : ℕ) → g p ≡ bursts (frame_place 8 + 0) 512 (slice_index program) f p) → (i : ℕ) → (WordCalm (f i) (g i)) ⊎ ((o : ℕ) × (o < FRAME_WORDS) × (i ≡ running_place 4 o) × ((g i).cached ≡ slice_index program o) × ((g i).durable ≡ (f i).durable))
page_burst program f g e i = ⊎_elim
    (λ (low : i < frame_place 8). inl (burst_off f g (frame_place 8 + 0) 512 i (slice_index program) e (inl (omega arith))))
    (λ (high : frame_place 8 ≤ i). ⊎_elim
    (λ (inside : i < frame_place 9). inr (in_page program f g e i high inside))
    (λ (behind : frame_place 9 ≤ i). inl (burst_off f g (frame_place 8 + 0) 512 i (slice_index program) e (inr (omega arith))))
    (cases_lt i (frame_place 9)))
    (cases_lt i (frame_place 8))

abbrev pub FillsPage : List ℕ → (ℕ → Word) → (ℕ → Word) → Type 0
FillsPage program f g = (i : ℕ) → (WordCalm (f i) (g i)) ⊎ ((o : ℕ) × (o < FRAME_WORDS) × (i ≡ running_place 4 o) × ((g i).cached ≡ slice_index program o) × ((g i).durable ≡ (f i).durable))

off_page : (program : List ℕ) (f g : ℕ → Word) → FillsPage program f g → (i : ℕ) → (i < frame_place 8) ⊎ (frame_place 9 ≤ i) → WordCalm (f i) (g i)
off_page program f g each i off = elim (each i) [ inl calm ↦ calm | inr stored ↦ let o = stored.0 in let lt = stored.1 in let at = stored.2 in elim off [ inl low ↦ absurd (omega arith) | inr high ↦ absurd (omega arith) ] ]

-- a page below the program's is known, whether the program's is or not
ring_known : (f : ℕ → Word) (now : ℕ → ℕ → ℕ) (page i : ℕ) → page < 4 → WordIs 0 (if nat_lt page 4 then Cached else Any) (f (running_place page i)) (now page i) → (f (running_place page i)).cached ≡ now page i
ring_known f now page i ring known = let test : nat_lt page 4 ≡ true = grind (arith, nat_tests) in rw test at known

own_place : (i : ℕ) → frame_place 8 + 0 + i ≡ running_place 4 i
own_place i = omega arith

-- the program's page was stored
pub filled : (program : List ℕ) (f g : ℕ → Word) (v : ℕ) (now saved : ℕ → ℕ → ℕ) → now ≡ first_words program
    → ((p : ℕ) → g p ≡ bursts (frame_place 8 + 0) 512 (slice_index program) f p)
    → WordsShow (Format Fill) f v now saved → WordsShow (Format (Save (Copy 0))) g v now saved
filled program f g v now saved is event known =
    let calm = off_page program f g (page_burst program f g event) in
    let version = calm_word 0 Clean (f 1) (g 1) v (calm 1 (inl (omega arith))) known.version in
    record {
      format = calm_word 0 Clean (f 0) (g 0) 0 (calm 0 (inl (omega arith))) known.format;
      version = version;
      version_durable = version.1;
      table = λ i low high. calm_word 0 Clean (f i) (g i) 0 (calm i (inl (omega arith))) (known.table i low high);
      saved_area = nothing_saved g (area_place (area_of v)) saved;
      other_area = λ part i p lt. tt;
      running = λ page i p lt. ⊎_elim
          (λ (ring : page < 4). (calm (running_place page i) (inl (omega arith))).cached ∙ ring_known f now page i ring (known.running page i p lt))
          (λ (own : 4 ≤ page). let at : page ≡ 4 = omega arith in
          subst (λ (k : ℕ). (g (running_place k i)).cached ≡ now k i) (sym at)
          (subst (λ (k : ℕ). (g k).cached ≡ slice_index program i) (own_place i) (burst_cached f g (frame_place 8 + 0) 512 i (slice_index program) event lt) ∙ sym (ap (λ (ws : ℕ → ℕ → ℕ). ws 4 i) is)))
          (cases_lt page 4);
      record_rest = rest_calm f g (λ area i a low high. calm (area_place area 5 i) (inr (omega arith))) known.record_rest;
    }

format_on : (n : Machine) (w : World) (now saved : ℕ → ℕ → ℕ) (o : Option SaveStep) → IsFirst n w now saved → AtStage (format_next o) n w now saved
format_on n w now saved None at = at
format_on n w now saved (Some step) at = at

-- the world stays while formatting saves
pub shows_formatting : (m n : Machine) (w : World) (s : Shows m w) (o : Option SaveStep) → n.stage ≡ format_next o → n.accepted ≡ m.accepted → n.thread ≡ m.thread → n.put ≡ m.put → n.program.items ≡ m.program.items
    → SameCounts m.nvm n.nvm → WordsShow (format_next o) (word_at n.nvm) w.version s.now_words s.saved_words → IsFormatting m.program.items (word_at n.nvm) → IsFirst m w s.now_words s.saved_words → Shows n w
shows_formatting m n w s o stage accepted thread put program counts words formatting at =
    shows_on m n w s accepted counts
    (subst (λ (t : Stage). WordsShow t (word_at n.nvm) w.version s.now_words s.saved_words) (sym stage) words)
    (subst (λ (t : Stage). AtStage t n w s.now_words s.saved_words) (sym stage) (format_on n w s.now_words s.saved_words o (still_first m n w s.now_words s.saved_words thread put program formatting at)))
