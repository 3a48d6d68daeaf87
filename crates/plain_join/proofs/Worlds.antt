-- Joined worlds: the first ones, and the whole kernel's world that a world of the program is.
use Rattle.std.specs.Prelude.{◌≡◌, ℕ, ◌+◌, Bool, List}
use Rattle.std.proofs.Common.{refl, ap, sym, ◌∙◌}
use mathlib.Core.Path.{fun_ext}
use Rattle.sls_base.specs.declared.image.Image.{Image}
use Rattle.sls_kernel.specs.Plain.{World as ProgramWorld, first, commit as program_commit}
use Rattle.sls_kernel.specs.Program.{IsOfCode, program_bytes}
use Rattle.plain_model.specs.States.{State}
use Rattle.plain_model.specs.Worlds.{World}
use Rattle.plain_model.specs.Sweep.{swept}
use Rattle.plain_model.specs.Play.{commit}
use Rattle.plain_model.specs.Initial.{first_world}
use Rattle.plain_join.specs.Joined.{IsJoined}
use Rattle.plain_join.proofs.Canon.{code_state, whole_is, initial_is}
use Rattle.plain_join.proofs.Sweeps.{swept_is}

abbrev made : State → State → (ℕ → List (List ℕ)) → (ℕ → ℕ) → ℕ → (ℕ → Bool) → (ℕ → Bool) → World
made now saved released base version stored changed = record {
  now = now;
  saved = saved;
  released = released;
  base = base;
  version = version;
  stored = stored;
  changed = changed;
}

-- the world of the whole kernel that a world of the program is, with what was stored to and changed
abbrev pub code_world : ProgramWorld → (ℕ → Bool) → (ℕ → Bool) → World
code_world v stored changed = made (code_state v.now) (code_state v.saved) v.released (λ channel. 0) v.version stored changed

pub joined_is : (image : Image) (v : ProgramWorld) (w : World) → IsOfCode image → IsJoined image v w → w ≡ code_world v w.stored w.changed
joined_is image v w code h =
    ap (λ (s : State). made s w.saved w.released w.base w.version w.stored w.changed) (h.now ∙ whole_is image v.now code)
    ∙ ap (λ (s : State). made (code_state v.now) s w.released w.base w.version w.stored w.changed) (h.saved ∙ whole_is image v.saved code)
    ∙ ap (λ (released : ℕ → List (List ℕ)). made (code_state v.now) (code_state v.saved) released w.base w.version w.stored w.changed) h.released
    ∙ ap (λ (base : ℕ → ℕ). made (code_state v.now) (code_state v.saved) v.released base w.version w.stored w.changed) (fun_ext h.base)
    ∙ ap (λ (version : ℕ). made (code_state v.now) (code_state v.saved) v.released (λ channel. 0) version w.stored w.changed) h.version

-- a world with such states is joined
pub joined : (image : Image) (v : ProgramWorld) (w : World) → IsOfCode image → w.now ≡ code_state v.now → w.saved ≡ code_state v.saved
    → w.released ≡ v.released → ((channel : ℕ) → w.base channel ≡ 0) → w.version ≡ v.version → IsJoined image v w
joined image v w code now saved released base version = record {
  now = now ∙ sym (whole_is image v.now code);
  saved = saved ∙ sym (whole_is image v.saved code);
  released = released;
  base = base;
  version = version;
}

pub first_joined : (image : Image) (commits cuts : ℕ) → IsOfCode image
    → IsJoined image (first (program_bytes image) commits cuts) (first_world image 1)
first_joined image commits cuts code =
    joined image (first (program_bytes image) commits cuts) (first_world image 1) code
    (initial_is image code) (initial_is image code) refl (λ channel. refl) refl

pub commit_joined : (image : Image) (v : ProgramWorld) (w : World) → IsOfCode image → IsJoined image v w
    → IsJoined image (program_commit v) (commit w)
commit_joined image v w code h =
    let now : swept w.now ≡ code_state v.now = ap swept (h.now ∙ whole_is image v.now code) ∙ swept_is v.now in
    joined image (program_commit v) (commit w) code now now h.released h.base (ap (λ (n : ℕ). n + 1) h.version)
