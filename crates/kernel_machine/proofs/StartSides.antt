-- What is seen of a machine that begins.
use Rattle.std.specs.Prelude.{◌≡◌, ◌≢◌, ℕ, zero, suc, ◌<◌, ◌≤◌, false, List, [], Option, replicate}
use Rattle.std.proofs.Common.{sym, ap, refl, subst, arith, inl, inr}
use Rattle.std.proofs.Math.Path.{fun_ext}
use Rattle.std.proofs.lemmas.List.{length-replicate}
use Rattle.sls_base.specs.declared.limits.TheConstants.{OUTPUT_CHANNELS, PAGES}
use Rattle.pmem_model.specs.Memory.{Memory, word_at}
use Rattle.pmem_layout.specs.declared.places.TheConstants.{FORMAT_AT}
use Rattle.first_format.specs.declared.formatting.TheConstants.{MOST_TURNS}
use Rattle.first_format.specs.Shows as formats
use Rattle.tree_restore.specs.declared.recovery.TheConstants.{RECOVERY_TURNS}
use Rattle.tree_restore.specs.Restores as restores
use Rattle.machine_contract.specs.declared.bounds.TheConstants.{START_TURNS}
use Rattle.machine_contract.specs.declared.answers.Off.{Off}
use Rattle.machine_contract.specs.Side.{Mode, Formatting, Recovering, IsStarting, Side, IsSound, begun, none_given, none_spent, none_writable, free_core}
use Rattle.machine_contract.specs.Begins.{IsBooted, IsLit}
use Rattle.kernel_machine.specs.declared.work.FirstFormat.{FirstFormat}
use Rattle.kernel_machine.specs.declared.work.Restoring.{Restoring}
use Rattle.kernel_machine.specs.declared.work.Work.{Work}
use Rattle.kernel_machine.specs.declared.work.Work.TheVariants as work
use Rattle.kernel_machine.specs.declared.kernel.Kernel.{Kernel}
use Rattle.kernel_machine.specs.Sides.{spent_at, mode_of, left_of, side_of, seen_of}

-- the machine that begins with this work
abbrev pub started : Memory → List ℕ → ℕ → Work → Kernel
started nvm accepted cores work = record {
  nvm = nvm;
  accepted = accepted;
  cores = cores;
  work = work;
  spent = replicate PAGES 0;
  wish = false;
}

-- no page was prepared
zero_at : (n i : ℕ) → spent_at (replicate n 0) i ≡ none_spent i
zero_at zero i = refl
zero_at (suc n) zero = refl
zero_at (suc n) (suc i) = zero_at n i

none_yet : (n : ℕ) → spent_at (replicate n 0) ≡ none_spent
none_yet n = fun_ext (zero_at n)

-- its side is that of one that begins
side_with : Mode → ℕ → ℕ → (ℕ → ℕ) → Side
side_with mode left cores spent = record {
  mode = mode;
  left = left;
  cores = replicate cores free_core;
  spent = spent;
  writable = none_writable;
  board = [];
  is_open = false;
  hot = [];
  given = none_given;
  wish = false;
}

formats_side : (nvm : Memory) (accepted : List ℕ) (cores : ℕ) (s : FirstFormat)
    → side_of (started nvm accepted cores (work.Formats s))
    ≡ begun Formatting (left_of (work.Formats s)) cores none_given
unfolding side_with
formats_side nvm accepted cores s =
    ap (side_with Formatting (left_of (work.Formats s)) cores) (none_yet PAGES)

recovers_side : (nvm : Memory) (accepted : List ℕ) (cores : ℕ) (s : Restoring)
    → side_of (started nvm accepted cores (work.Recovers s))
    ≡ begun (mode_of (work.Recovers s)) (left_of (work.Recovers s)) cores none_given
unfolding side_with
recovers_side nvm accepted cores s =
    ap (side_with (mode_of (work.Recovers s)) (left_of (work.Recovers s)) cores) (none_yet PAGES)

-- the law that a side which begins is sound
abbrev pub BeginsSound : Type 0
BeginsSound = (mode : Mode) (left cores : ℕ) (given : ℕ → Option ℕ) → IsStarting mode → 0 < left
    → IsSound (begun mode left cores given)

-- A machine that formats.

formats_few : (s : FirstFormat) → formats.turns_left s.formatting ≤ MOST_TURNS → left_of (work.Formats s) ≤ START_TURNS
formats_few s few = omega arith

formats_sound : (nvm : Memory) (accepted : List ℕ) (cores : ℕ) (s : FirstFormat) → BeginsSound
    → IsSound (side_of (started nvm accepted cores (work.Formats s)))
formats_sound nvm accepted cores s sound =
    subst IsSound (sym (formats_side nvm accepted cores s))
    (sound Formatting (left_of (work.Formats s)) cores none_given (inl refl) (omega arith))

pub boots : (nvm : Memory) (cores : ℕ) (s : FirstFormat) → formats.turns_left s.formatting ≤ MOST_TURNS → BeginsSound
    → IsBooted cores nvm (seen_of (started nvm (replicate OUTPUT_CHANNELS 0) cores (work.Formats s)))
boots nvm cores s few sound =
    let accepted = replicate OUTPUT_CHANNELS 0 in
    record {
      side = formats_side nvm accepted cores s;
      left = formats_few s few;
      sound = formats_sound nvm accepted cores s sound;
      rest = refl;
    }

pub formats_again : (off : Off) (cores : ℕ) (s : FirstFormat) → formats.turns_left s.formatting ≤ MOST_TURNS
    → BeginsSound → (word_at off.nvm FORMAT_AT).durable ≡ 0
    → IsLit off (seen_of (started off.nvm off.accepted cores (work.Formats s)))
formats_again off cores s few sound blank = record {
  begins = record {
    mode = inl refl;
    unformatted = (λ e. blank, λ e. refl);
    side = rw (length-replicate cores free_core) (formats_side off.nvm off.accepted cores s);
    left = formats_few s few;
  };
  sound = formats_sound off.nvm off.accepted cores s sound;
  rest = refl;
}

-- A machine that recovers behind a cut.
pub recovers_again : (off : Off) (cores : ℕ) (s : Restoring) → s.is_first ≡ false
    → restores.turns_left s.recovery ≤ RECOVERY_TURNS → BeginsSound → (word_at off.nvm FORMAT_AT).durable ≢ 0
    → IsLit off (seen_of (started off.nvm off.accepted cores (work.Recovers s)))
recovers_again off cores s first few sound there =
    let mode : mode_of (work.Recovers s) ≡ Recovering = rw first refl in
    let side = recovers_side off.nvm off.accepted cores s in
    record {
      begins = record {
        mode = inr mode;
        unformatted = (λ e. cc, λ e. absurd (there e));
        side = rw (length-replicate cores free_core) side;
        left = omega arith;
      };
      sound = subst IsSound (sym side)
          (sound (mode_of (work.Recovers s)) (left_of (work.Recovers s)) cores none_given (inr mode) (omega arith));
      rest = refl;
    }
