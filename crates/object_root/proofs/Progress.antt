-- The stages of objects, by the progress that is kept.
use Rattle.std.proofs.Common.{◌≡◌, ◌≢◌, ℕ, ◌+◌, ◌<◌, ◌≤◌, ◌==◌, ◌∙◌, Bool, true, false, cond, subst, sym, ap, refl, arith, List, length, slice_index_or, slice_set, map, ⊎_elim, get_or-set_same, get_or-set_other}
use Rattle.std.proofs.Math.ListN.{get_or-map, get_or-eq_default, length-replicate, replicate}
use Rattle.std.proofs.lemmas.List.{get_or-replicate}
use Rattle.std.proofs.lemmas.Bool.{cases_lt}
use Rattle.std.proofs.lemmas.Bool.Decides.{nat_tests}
use Rattle.object_root.specs.declared.stage.Stage.{Stage}
use Rattle.object_root.specs.declared.stage.Stage.TheVariants.{Idle}
use Rattle.object_root.specs.declared.roots.Progress.{Progress}
use Rattle.object_root.specs.Room.{stage_under, stages_under, nothing}

either_idle : (b : Bool) → cond b Idle Idle ≡ Idle
either_idle true = refl
either_idle false = refl

pub nothing_idle : (version : ℕ) → stage_under version nothing ≡ Idle
nothing_idle version = either_idle (0 == version)

pub all_nothing : (n id : ℕ) → slice_index_or (replicate n nothing) id nothing ≡ nothing
all_nothing n id =
    ⊎_elim
    (λ (lt : id < n). get_or-replicate n id nothing nothing lt)
    (λ (past : n ≤ id). get_or-eq_default (replicate n nothing) nothing (simp length-replicate past))
    (cases_lt id n)

pub stage_in : (version : ℕ) (progress : List Progress) (id : ℕ)
    → slice_index_or (stages_under version progress) id Idle ≡ stage_under version (slice_index_or progress id nothing)
stage_in version progress id =
    subst (λ (s : Stage). slice_index_or (map (stage_under version) progress) id s
    ≡ stage_under version (slice_index_or progress id nothing))
    (nothing_idle version) (get_or-map (stage_under version) progress id nothing)

pub stage_now : (version : ℕ) (stage : Stage) → stage_under version (record { version = version; stage = stage })
    ≡ stage
stage_now version stage = let same : (version == version) ≡ true = grind (arith, nat_tests) in rw same refl

pub stage_past : (version : ℕ) (p : Progress) → p.version ≤ version → stage_under (version + 1) p ≡ Idle
stage_past version p le = let other : (p.version == version + 1) ≡ false = grind (arith, nat_tests) in rw other refl

pub comes_here : (version id : ℕ) (progress : List Progress) (stage : Stage) → id < length progress
    → slice_index_or (stages_under version (slice_set progress id
    (record { version = version; stage = stage }))) id Idle ≡ stage
comes_here version id progress stage lt =
    stage_in version (slice_set progress id (record { version = version; stage = stage })) id
    ∙ ap (stage_under version) (get_or-set_same progress id (record { version = version; stage = stage }) nothing lt)
    ∙ stage_now version stage

pub others_stay : (version id i : ℕ) (progress : List Progress) (p : Progress) → i ≢ id
    → slice_index_or (stages_under version (slice_set progress id p)) i Idle
    ≡ slice_index_or (stages_under version progress) i Idle
others_stay version id i progress p ne =
    stage_in version (slice_set progress id p) i ∙ ap (stage_under version)
    (get_or-set_other progress id i p nothing ne)
    ∙ sym (stage_in version progress i)
