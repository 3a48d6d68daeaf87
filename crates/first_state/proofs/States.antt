-- The state that an image begins with.
use Rattle.std.proofs.Common.{◌≡◌, ℕ, ◌≤◌, List, [], Option, None, refl, ap, ◌∙◌, replicate}
use Rattle.std.specs.Prelude.{slice_index}
use Rattle.std.proofs.lemmas.List.{take-replicate}
use mathlib.Core.Path.{fun_ext}
use Rattle.sls_base.specs.declared.image.Image.{Image}
use Rattle.plain_state.specs.declared.objects.Occupant.{Occupant}
use Rattle.plain_model.specs.Objects.{Object}
use Rattle.plain_model.specs.States.{State}
use Rattle.plain_model.specs.Initial.{image_objects, initial}
use Rattle.kobj_table.specs.declared.slot.Slot.{Slot}
use Rattle.kobj_table.specs.declared.objects.Objects.{Objects}
use Rattle.kobj_table.specs.Slots.{cores_of}
use Rattle.kobj_table.specs.Objects.{slot_at, state_of}
use Rattle.first_state.specs.Content.{content_on, HoldsImage}
use Rattle.first_state.specs.Filled.{IsFilled, first_rest}

made_of : (ℕ → Option Object) → List ℕ → List (Option Occupant) → State
made_of objects queue cores = record { objects = objects; queue = queue; cores = cores; out = λ channel. []; inputs = [] }

same_parts : (objects objects' : ℕ → Option Object) (queue queue' : List ℕ) (cores cores' : List (Option Occupant)) → ((i : ℕ) → objects i ≡ objects' i) → queue ≡ queue' → cores ≡ cores' →
    made_of objects queue cores ≡ made_of objects' queue' cores'
same_parts objects objects' queue queue' cores cores' o q c =
    ap (λ (f : ℕ → Option Object). made_of f queue cores) (fun_ext o)
    ∙ (ap (λ (l : List ℕ). made_of objects' l cores) q ∙ ap (λ (l : List (Option Occupant)). made_of objects' queue' l) c)

no_occupants : (cores : ℕ) → cores ≤ 8 → cores_of (Slot.Scheduler (record { cores = cores; running = replicate 8 None })) ≡ replicate cores None
no_occupants cores few = take-replicate cores 8 None few

-- a table that has the image's objects is the state that it begins with
pub same_state : (content : ℕ → ℕ → ℕ) (o : Objects) (image : Image) (cores : ℕ) → IsFilled content o (image_objects image.programs.items) → cores ≤ 8 →
    slot_at o 1 ≡ Slot.Scheduler (record { cores = cores; running = replicate 8 None }) → state_of o (first_rest content) ≡ initial image cores
unfolding state_of made_of
same_state content o image cores filled few scheduler =
    same_parts _ _ _ _ _ _ filled.objects filled.queue (ap (λ (s : Slot). cores_of s) scheduler ∙ no_occupants cores few)

-- the bytes of the image themselves
pub image_bytes : Image → ℕ → ℕ → ℕ
image_bytes image page offset = slice_index (content_on image page) offset

pub bytes_hold : (image : Image) → HoldsImage (image_bytes image) image
unfolding image_bytes
bytes_hold image page offset some = refl
