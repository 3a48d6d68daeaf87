-- What a power cut leaves.
use Rattle.std.proofs.Common.{arith, ◌≡◌, ◌⊎◌, inl, inr, ℕ, ◌∙◌, ap, sym, refl, subst}
use mathlib.Core.Path.{fun_ext}
use Rattle.pmem_model.specs.Words.{Word, cuts}
use Rattle.pmem_model.specs.Memory.{Memory, word_at, count_up}
use Rattle.sls_kernel.specs.Plain.{World, first, cut, accepted_count}
use Rattle.sls_base.specs.Counts.{one_more}
use Rattle.sls_kernel.specs.Program.{page_bytes}
use Rattle.sls_kernel.specs.Shows.{Shows, ShowsOff, Stands, IsUnformatted, WordsShow, AtStage, durable_words}
use Rattle.sls_kernel.specs.Side.{Formatting, mode_of}
use Rattle.sls_kernel.specs.Words.{area_place}
use Rattle.sls_kernel.specs.declared.machine.Machine.{Machine}
use Rattle.sls_kernel.specs.declared.stage.Stage.{Stage}
use Rattle.sls_kernel.specs.declared.stage.Stage.TheVariants.{Format, Recover, Up, Checkpoint}
use Rattle.sls_kernel.proofs.Facts.{counted_cut}
use Rattle.sls_kernel.proofs.Durable.{durable_stands, formats_at}

unformatted_cut : (durable : ℕ → ℕ) (w : World) → IsUnformatted durable w → IsUnformatted durable (cut w)
unformatted_cut durable w is = record {
  unformatted = is.unformatted;
  version = is.version;
  program = is.program;
  in_range = is.in_range;
  words = is.words;
  world = ap cut is.world;
}

same_words : (m n : Memory) → ((i : ℕ) → word_at n i ≡ cuts (word_at m) i) → durable_words m ≡ durable_words n
same_words m n words = fun_ext (λ i. sym (ap (λ (u : Word). u.durable) (words i)))

pub shows_off : (m : Machine) (n : Memory) (w : World) → Shows m w → ((i : ℕ) → word_at n i ≡ cuts (word_at m.nvm) i) → n.commits ≡ m.nvm.commits → n.cuts ≡ count_up m.nvm.cuts → ShowsOff (record { nvm = n; accepted = m.accepted }) (cut w)
shows_off m n w s words commits cuts = record {
  clean = λ i. ap (λ (u : Word). u.cached) (words i) ∙ sym (ap (λ (u : Word). u.durable) (words i));
  version = ap (λ (u : Word). u.durable) (words 1) ∙ s.words.version_durable;
  words = subst (λ (d : ℕ → ℕ). Stands d (accepted_count w) w.saved ⊎ IsUnformatted d (cut w)) (same_words m.nvm n words)
      (elim (durable_stands m w s) [ inl stands ↦ inl stands | inr not_yet ↦ inr (unformatted_cut (durable_words m.nvm) w not_yet) ]);
  counted = counted_cut m.accepted w s.counted;
  counts = record { commits = commits ∙ s.counts.commits; cuts = cuts ∙ ap count_up s.counts.cuts };
  now = refl;
  record_rest = λ area i a low high. ap (λ (u : Word). u.durable) (words (area_place area 5 i)) ∙ (s.words.record_rest area i a low high).1;
}

first_at : (m : Machine) (w : World) (stage : Stage) (now saved : ℕ → ℕ → ℕ) → WordsShow stage (word_at m.nvm) w.version now saved → AtStage stage m w now saved → (word_at m.nvm 0).durable ≡ 0 → w ≡ first (page_bytes m.program.items) w.commits w.cuts
first_at m w (Format step) now saved known at is = at.world
first_at m w (Recover page) now saved known at is = absurd (omega (arith, known.format.1))
first_at m w Up now saved known at is = absurd (omega (arith, known.format.1))
first_at m w (Checkpoint step) now saved known at is = absurd (omega (arith, known.format.1))

-- a memory without its format word is of a machine that formats
pub first_cut : (m : Machine) (n : Memory) (w : World) → Shows m w → ((i : ℕ) → word_at n i ≡ cuts (word_at m.nvm) i) → durable_words n 0 ≡ 0 → cut w ≡ first (page_bytes m.program.items) w.commits (one_more w.cuts)
first_cut m n w s words is = ap cut (first_at m w m.stage s.now_words s.saved_words s.words s.stage (sym (ap (λ (u : Word). u.durable) (words 0)) ∙ is))

pub formats : (m : Machine) (n : Memory) (w : World) → Shows m w → ((i : ℕ) → word_at n i ≡ cuts (word_at m.nvm) i) → durable_words n 0 ≡ 0 → mode_of m.stage ≡ Formatting
formats m n w s words is = formats_at m w m.stage s.now_words s.saved_words s.words (sym (ap (λ (u : Word). u.durable) (words 0)) ∙ is)
