-- A write-back that commits nothing: what the machine is at, and what is seen of it, stay.
use Rattle.std.specs.Prelude.{◌≡◌, ℕ, List, Bool, None}
use Rattle.std.proofs.Common.{refl, ap, sym, subst, ◌∙◌, inl, inr, arith}
use Rattle.sls_base.specs.declared.image.Image.{Image}
use Rattle.sls_base.specs.declared.limits.TheConstants.{VERSION_AT}
use Rattle.pmem_model.specs.Words.{Word, is_within, writes_back}
use Rattle.pmem_model.specs.Events.{IsCalm, write_back_calm}
use Rattle.pmem_model.specs.Memory.{AllHome, KeepsCounts, Memory, SameHomes, word_at}
use Rattle.plain_state.specs.Worlds.{World}
use Rattle.durable_state.specs.Parts.{Parts}
use Rattle.first_format.specs.declared.formatting.Formatting.{Formatting}
use Rattle.first_format.specs.Parts.{first_parts}
use Rattle.first_format.specs.Shows.{FormattingShows}
use Rattle.first_format.proofs.Places.{at_fixed}
use Rattle.tree_restore.specs.declared.recovery.Recovery.{Recovery}
use Rattle.tree_restore.specs.Restores.{RestoreShows}
use Rattle.core_turns.specs.declared.running.Running.{Running}
use Rattle.core_turns.specs.Runs.{Runs}
use Rattle.checkpoint_turns.specs.declared.checkpoint.Checkpoint.{Checkpoint}
use Rattle.checkpoint_turns.specs.Checkpoints.{Before, Behind, IsOf}
use Rattle.checkpoint_turns.proofs.Settled.{version_of}
use Rattle.machine_contract.specs.Courses.{Course}
use Rattle.machine_contract.specs.Goes.{WriteBackGoes}
use Rattle.machine_contract.specs.Shown.{Seen}
use Rattle.kernel_machine.specs.declared.kernel.Kernel.{Kernel}
use Rattle.kernel_machine.specs.declared.work.FirstFormat.{FirstFormat}
use Rattle.kernel_machine.specs.declared.work.Work.{Work}
use Rattle.kernel_machine.specs.declared.work.Work.TheVariants as works
use Rattle.kernel_machine.specs.Formats.{format}
use Rattle.kernel_machine.specs.Sides.{seen_of}
use Rattle.kernel_machine.specs.Shows.{IsAt}
use Rattle.kernel_machine.specs.Worlds.{IsFormatting, IsWorkOf}
use Rattle.kernel_machine.proofs.SaveEvents.{none_counted}

-- What the laws below say of events that store nothing.
pub record CalmLaws : Type 0 where
  pub formats : (s : Formatting) (f g : ℕ → Word) (image : Image) (cores : ℕ) → IsCalm f g
      → FormattingShows s f image cores → FormattingShows s g image cores
  pub restores : (r : Recovery) (f g : ℕ → Word) (v : ℕ) (saved : Parts) → IsCalm f g → RestoreShows r f v saved
      → RestoreShows r g v saved
  pub runs : (k : Running) (accepted : List ℕ) (old new : Memory) (w : World)
      → IsCalm (word_at old) (word_at new) → SameHomes old new → Runs k accepted old w → Runs k accepted new w

-- a write-back stores nothing
pub back_calm : (f g : ℕ → Word) (chosen : ℕ → Bool) → ((i : ℕ) → g i ≡ writes_back chosen f i) → IsCalm f g
back_calm f g chosen words = record { at = write_back_calm f g chosen words }

-- All frames are at home, and the version word has the version of the world.

saves_home : (c : Checkpoint) (accepted : List ℕ) (m : Memory) (w : World) → IsOf c accepted m w → AllHome m
saves_home c accepted m w (Before h) = h.home
saves_home c accepted m w (Behind h) = h.home

pub all_home : (now : Work) (cores : ℕ) (accepted : List ℕ) (m : Memory) (w : World)
    → IsWorkOf now cores accepted m w → AllHome m
all_home (works.Formats s) cores accepted m w h = h.home
all_home (works.Recovers s) cores accepted m w h = h.home
all_home (works.Runs k) cores accepted m w h = h.home
all_home (works.Saves c) cores accepted m w h = saves_home c accepted m w h
all_home works.Between cores accepted m w h = absurd h

formatting_version : (s : FirstFormat) (cores : ℕ) (accepted : List ℕ) (m : Memory) (w : World)
    → IsFormatting s cores accepted m w → (word_at m VERSION_AT).durable ≡ w.version
formatting_version s cores accepted m w h =
    let p = first_parts s.image cores in
    let blank = h.shows.words.each VERSION_AT (omega arith) in
    let zero : (word_at m VERSION_AT).durable ≡ 0 = elim blank.durable [
      | inl none ↦ none
      | inr value ↦ value ∙ at_fixed p VERSION_AT (omega arith)
    ] in
    zero ∙ sym (ap (λ (x : World). x.version) h.world)

pub version_word : (now : Work) (cores : ℕ) (accepted : List ℕ) (m : Memory) (w : World)
    → IsWorkOf now cores accepted m w → (word_at m VERSION_AT).durable ≡ w.version
version_word (works.Formats s) cores accepted m w h = formatting_version s cores accepted m w h
version_word (works.Recovers s) cores accepted m w h = h.shows.version.1
version_word (works.Runs k) cores accepted m w h = (h.at_rest.shows (λ id. None)).version.durable
version_word (works.Saves c) cores accepted m w h = version_of c accepted m w h
version_word works.Between cores accepted m w h = absurd h

-- What the machine is at stays, beside checkpoints.
pub calm_work : (now : Work) (cores : ℕ) (accepted : List ℕ) (old new : Memory) (w : World) → CalmLaws
    → IsCalm (word_at old) (word_at new) → SameHomes old new → ((c : Checkpoint) → now ≡ works.Saves c → ⊥)
    → IsWorkOf now cores accepted old w → IsWorkOf now cores accepted new w
calm_work (works.Formats s) cores accepted old new w laws calm homes other h = record {
  bytes = h.bytes;
  shows = laws.formats s.formatting (word_at old) (word_at new) s.image cores calm h.shows;
  world = h.world;
  counted = h.counted;
  home = λ bank below. homes bank ∙ h.home bank below;
}
calm_work (works.Recovers s) cores accepted old new w laws calm homes other h = record {
  saved = h.saved;
  shows = laws.restores s.recovery (word_at old) (word_at new) w.version h.saved calm h.shows;
  are = h.are;
  off = h.off;
  sound = h.sound;
  counted = h.counted;
  home = λ bank below. homes bank ∙ h.home bank below;
}
calm_work (works.Runs k) cores accepted old new w laws calm homes other h = laws.runs k accepted old new w calm homes h
calm_work (works.Saves c) cores accepted old new w laws calm homes other h = absurd (other c refl)
calm_work works.Between cores accepted old new w laws calm homes other h = absurd h

-- the machine with another memory
abbrev pub with_memory : Kernel → Memory → Kernel
with_memory old next = record old { nvm = next }

-- It wrote a word back: nothing but words and commits is other.
pub record WroteBack (word : ℕ) (old next : Memory) : Type 0 where
  pub words : (i : ℕ) → word_at next i ≡ writes_back (is_within word 1) (word_at old) i
  pub homes : SameHomes old next
  pub ops : next.ops ≡ old.ops
  pub counts : KeepsCounts old next

module _ (word : ℕ) (old : Kernel) (next : Memory) (wrote : WroteBack word old.nvm next) where
  pub wrote_calm : IsCalm (word_at old.nvm) (word_at next)
  wrote_calm = back_calm (word_at old.nvm) (word_at next) (is_within word 1) wrote.words

  -- what is seen of a machine whose words are other, if nothing else is
  abbrev seen_with : ℕ → ℕ → Seen
  seen_with ops cuts = record (seen_of old) { words = word_at next; ops = ops; commits = next.commits; cuts = cuts }

  module _ (c : Course) where
    pub stays_goes : WriteBackGoes format word None (seen_of old) c (seen_of (with_memory old next))
    stays_goes = record {
      lawful = refl;
      words = wrote.words;
      renewed = tt;
      opened = tt;
      rest = ap (λ (ops : ℕ). seen_with ops next.cuts) wrote.ops
          ∙ ap (λ (cuts : ℕ). seen_with old.nvm.ops cuts) wrote.counts.cuts;
    }

    pub stays_at : IsAt old c → IsWorkOf old.work old.cores old.accepted next c.world → IsAt (with_memory old next) c
    stays_at at work =
        let was = version_word old.work old.cores old.accepted old.nvm c.world at.work in
        let is = version_word old.work old.cores old.accepted next c.world work in
        record {
          work = work;
          hands = at.hands;
          some = at.some;
          most = at.most;
          cores = at.cores;
          saved_cores = at.saved_cores;
          commits = none_counted old.nvm next c.world.version wrote.counts was is ∙ at.commits;
          cuts = wrote.counts.cuts ∙ at.cuts;
        }

-- A checkpoint that goes on as it was.
module _ (word : ℕ) (old : Kernel) (next : Memory) (wrote : WroteBack word old.nvm next) (c : Course)
    (k n : Checkpoint) (is : old.work ≡ works.Saves k) (same : n ≡ k) where
  now_is : old.work ≡ works.Saves n
  now_is = is ∙ ap works.Saves (sym same)

  pub none_at : IsAt old c → IsOf n old.accepted next c.world
      → IsAt (record old { nvm = next; work = works.Saves n }) c
  none_at at saves =
      stays_at word (record old { work = works.Saves n }) next wrote c
      (subst (λ (x : Work). IsAt (record old { work = x }) c) now_is at) saves
