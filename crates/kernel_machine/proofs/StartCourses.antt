-- The courses that a machine is at when it begins.
use Rattle.std.specs.Prelude.{◌≡◌, ◌≢◌, ℕ, zero, suc, ◌≤◌, length, replicate, slice_index}
use Rattle.std.proofs.Common.{◌∙◌, sym, ap, refl, subst, arith, inl, inr}
use Rattle.std.proofs.lemmas.List.{length-replicate}
use Rattle.sls_base.specs.declared.limits.TheConstants.{CORES, OUTPUT_CHANNELS, VERSION_AT}
use Rattle.sls_base.specs.declared.image.Image.{Image}
use Rattle.pmem_model.specs.Words.{Word}
use Rattle.pmem_model.specs.Memory.{Memory, word_at, AllHome}
use Rattle.pmem_layout.specs.declared.places.TheConstants.{CORES_AT, FORMAT_AT}
use Rattle.pmem_layout.specs.Owners.{Fixed, owner}
use Rattle.plain_state.specs.Worlds.{World, accepted_count}
use Rattle.plain_model.specs.Initial.{first_world}
use Rattle.plain_laws.specs.Bounds.{IsOfBytes}
use Rattle.page_store.specs.Slots.{IsAllClean, durable_words}
use Rattle.durable_state.specs.Parts.{Parts, PartsStand}
use Rattle.first_format.specs.Clean.{HoldsClean}
use Rattle.first_format.specs.Shows.{FormattingShows}
use Rattle.tree_restore.specs.Restores.{RestoreShows}
use Rattle.machine_contract.specs.declared.answers.Off.{Off}
use Rattle.machine_contract.specs.Courses.{Course, first_course}
use Rattle.machine_contract.specs.Shown.{IsSaved, durable_of}
use Rattle.machine_contract.specs.Begins.{IsZero}
use Rattle.kernel_machine.specs.declared.work.FirstFormat.{FirstFormat}
use Rattle.kernel_machine.specs.declared.work.Restoring.{Restoring}
use Rattle.kernel_machine.specs.declared.work.Work.TheVariants as work
use Rattle.kernel_machine.specs.Formats.{format}
use Rattle.kernel_machine.specs.Worlds.{HasAccepted}
use Rattle.kernel_machine.specs.Shows.{IsAt, IsLive, ShowsOff, IsLightable}
use Rattle.kernel_machine.proofs.StartSides.{started}

-- words that are zero are clean
pub zero_clean : (f : ℕ → Word) → ((i : ℕ) → IsZero (f i)) → HoldsClean f (λ i. 0)
zero_clean f none = record { at = λ i. none i }

-- so are words of which only the durable values are left
pub left_clean : (f : ℕ → Word) → ((i : ℕ) → (f i).cached ≡ (f i).durable) → HoldsClean f (durable_of f)
left_clean f clean = record { at = λ i. (clean i, refl) }

all_clean : (f : ℕ → Word) → ((i : ℕ) → (f i).cached ≡ (f i).durable) → IsAllClean f
all_clean f clean = record { at = λ i. (clean i, refl) }

-- the device has accepted nothing of the first world
none_accepted : (n : ℕ) (image : Image) (cores channel : ℕ)
    → slice_index (replicate n 0) channel ≡ accepted_count (first_world image cores) channel
none_accepted zero image cores channel = refl
none_accepted (suc n) image cores zero = refl
none_accepted (suc n) image cores (suc channel) = none_accepted n image cores channel

-- A machine that was booted.
module _ (image : Image) (cores : ℕ) (nvm : Memory) (s : FirstFormat) where
  pub boots_at : 1 ≤ cores → cores ≤ CORES → AllHome nvm → IsOfBytes s.image
      → first_world s.image cores ≡ first_world image cores
      → FormattingShows s.formatting (word_at nvm) s.image cores
      → IsAt (started nvm (replicate OUTPUT_CHANNELS 0) cores (work.Formats s)) (first_course image cores nvm)
  boots_at some most home bytes world shows = record {
    work = record {
      bytes = bytes;
      shows = shows;
      world = sym world;
      counted = λ channel below. none_accepted OUTPUT_CHANNELS image cores channel;
      home = home;
    };
    hands = tt;
    some = some;
    most = most;
    cores = length-replicate cores _;
    saved_cores = length-replicate cores _;
    commits = refl;
    cuts = refl;
  }

-- A machine that formats again.
module _ (off : Off) (image : Image) (cores : ℕ) (s : FirstFormat) where
  pub formats_at : 1 ≤ cores → cores ≤ CORES → AllHome off.nvm → IsOfBytes s.image
      → first_world s.image cores ≡ first_world image cores
      → FormattingShows s.formatting (word_at off.nvm) s.image cores
      → (c : Course) → ShowsOff off c → c.world ≡ first_world image cores
      → IsAt (started off.nvm off.accepted cores (work.Formats s)) c
  formats_at some most home bytes same shows c h world =
      let now : length c.world.now.cores ≡ cores =
      ap (λ (w : World). length w.now.cores) world ∙ length-replicate cores _ in
      let saved : length c.world.saved.cores ≡ cores =
      ap (λ (w : World). length w.saved.cores) world ∙ length-replicate cores _ in
      record {
        work = record {
          bytes = bytes;
          shows = shows;
          world = world ∙ sym same;
          counted = h.shown.counted.counts;
          home = home;
        };
        hands = tt;
        some = some;
        most = most;
        cores = now;
        saved_cores = saved;
        commits = h.shown.commits;
        cuts = h.shown.cuts;
      }

  -- nothing was accepted yet
  pub none_counted : IsLightable off → (word_at off.nvm FORMAT_AT).durable ≡ 0
      → HasAccepted off.accepted (first_world image cores)
  none_counted h blank channel below = elim h.shows.shown.words [
    | inl saved ↦ absurd (saved.formatted blank)
    | inr first ↦
        h.shows.shown.counted.counts channel below ∙ ap (λ (w : World). accepted_count w channel) first.world
  ]

  -- it is at the first course of the image
  pub formats_live : 1 ≤ cores → cores ≤ CORES → AllHome off.nvm → IsOfBytes s.image
      → first_world s.image cores ≡ first_world image cores
      → FormattingShows s.formatting (word_at off.nvm) s.image cores
      → HasAccepted off.accepted (first_world image cores)
      → IsLive (started off.nvm off.accepted cores (work.Formats s))
  formats_live some most home bytes same shows counted = record {
    course = first_course image cores off.nvm;
    is_at = record {
      work = record {
        bytes = bytes;
        shows = shows;
        world = sym same;
        counted = counted;
        home = home;
      };
      hands = tt;
      some = some;
      most = most;
      cores = length-replicate cores _;
      saved_cores = length-replicate cores _;
      commits = refl;
      cuts = refl;
    };
  }

-- A memory that is formatted.

-- its words are the saved copy
saved_of : (off : Off) (c : Course) → ShowsOff off c → (word_at off.nvm FORMAT_AT).durable ≢ 0
    → IsSaved format (durable_of (word_at off.nvm)) c.world
saved_of off c h there = elim h.shown.words [ inl saved ↦ saved | inr blank ↦ absurd (there blank.unformatted) ]

cores_fixed : owner CORES_AT ≡ Fixed
unfolding owner
cores_fixed = refl

-- the word of the cores has their number
cores_word : (words : ℕ → ℕ) (v : ℕ) (p : Parts) → PartsStand words v p → words CORES_AT ≡ p.cores
cores_word words v p h = h.fixed.each CORES_AT cores_fixed

-- Its word of the cores has 1 to 8.
pub record AreFew (cores : ℕ) : Type 0 where
  pub some : 1 ≤ cores
  pub most : cores ≤ CORES

pub cores_few : (off : Off) → IsLightable off → (word_at off.nvm FORMAT_AT).durable ≢ 0
    → AreFew (word_at off.nvm CORES_AT).durable
cores_few off h there =
    let stands = (saved_of off h.course h.shows there).stands in
    let cores = cores_word (durable_of (word_at off.nvm)) _ stands.parts stands.stand in
    let some = stands.stand.fixed.some in let most = stands.stand.fixed.most in
    record { some = omega arith; most = omega arith }

-- A machine that recovers.
module _ (off : Off) (s : Restoring) (cores : ℕ) (is : cores ≡ (word_at off.nvm CORES_AT).durable) where
  pub recovers_at : AreFew (word_at off.nvm CORES_AT).durable → AllHome off.nvm
      → ((i : ℕ) → (word_at off.nvm i).cached ≡ (word_at off.nvm i).durable)
      → ((v : ℕ) (saved : Parts) → IsAllClean (word_at off.nvm) → (word_at off.nvm VERSION_AT).durable ≡ v
      → PartsStand (durable_words (word_at off.nvm)) v saved → RestoreShows s.recovery (word_at off.nvm) v saved)
      → (word_at off.nvm FORMAT_AT).durable ≢ 0
      → (c : Course) → ShowsOff off c → IsAt (started off.nvm off.accepted cores (work.Recovers s)) c
  recovers_at few home clean shows there c h =
      let words = durable_of (word_at off.nvm) in
      let is_saved = saved_of off c h there in
      let stands = is_saved.stands in
      let counted = cores_word words _ stands.parts stands.stand in
      let now : c.world.now.cores ≡ c.world.saved.cores = ap (λ (w : World). w.now.cores) (sym h.shown.off) in
      let saved : length c.world.saved.cores ≡ cores = stands.are.cores ∙ sym counted ∙ sym is in
      record {
        work = record {
          saved = stands.parts;
          shows = shows c.world.version stands.parts (all_clean (word_at off.nvm) clean) is_saved.version
              (subst (λ (v : ℕ). PartsStand words v stands.parts) is_saved.version stands.stand);
          are = stands.are;
          off = h.shown.off;
          sound = h.sound;
          counted = h.shown.counted.counts;
          home = home;
        };
        hands = tt;
        some = subst (λ (n : ℕ). 1 ≤ n) (sym is) few.some;
        most = subst (λ (n : ℕ). n ≤ CORES) (sym is) few.most;
        cores = ap length now ∙ saved;
        saved_cores = saved;
        commits = h.shown.commits;
        cuts = h.shown.cuts;
      }
