-- Copies of a state.
use Rattle.std.specs.Prelude.{◌≡◌, ℕ, zero, suc, List, [], ◌∷◌, Option, None, map, drop, slice_index_or}
use Rattle.std.proofs.Common.{refl, ap, ◌∙◌}
use Rattle.plain_state.specs.declared.effect.Output.{Output}
use Rattle.plain_state.specs.declared.objects.Occupant.{Occupant}
use Rattle.plain_state.specs.declared.object.Object.{Object as SlowObject}
use Rattle.plain_state.specs.declared.state.Waiting.{Waiting}
use Rattle.plain_state.specs.Objects.{Object}
use Rattle.plain_state.specs.States.{State}
use Rattle.plain_state.specs.Slow.{slot_of, entries_of, inputs_of}

-- a state of these parts
abbrev pub parts : List (Option Object) → List ℕ → List (Option Occupant) → List Output → List (List ℕ) → State
parts slots queue cores out inputs = record {
  objects = λ i. slice_index_or slots i None;
  queue = queue;
  cores = cores;
  out = entries_of out;
  inputs = inputs;
}

inputs_drop : (n : ℕ) (inputs : List Waiting) → inputs_of (drop n inputs) ≡ drop n (inputs_of inputs)
inputs_drop zero inputs = refl
inputs_drop (suc n) [] = refl
inputs_drop (suc n) (x ∷ xs) = inputs_drop n xs

pub state_same : (objects objects' : List (Option SlowObject)) (queue queue' : List ℕ) (cores cores' : List (Option Occupant)) (out out' : List Output) (inputs inputs' : List Waiting) (from : ℕ) →
    map slot_of objects ≡ map slot_of objects' → queue ≡ queue' → cores ≡ cores' → out ≡ out' → inputs ≡ drop from inputs' →
    parts (map slot_of objects) queue cores out (inputs_of inputs) ≡ parts (map slot_of objects') queue' cores' out' (drop from (inputs_of inputs'))
state_same objects objects' queue queue' cores cores' out out' inputs inputs' from a b c d e =
    ap (λ s. parts s queue cores out (inputs_of inputs)) a
    ∙ ap (λ s. parts (map slot_of objects') s cores out (inputs_of inputs)) b
    ∙ ap (λ s. parts (map slot_of objects') queue' s out (inputs_of inputs)) c
    ∙ ap (λ s. parts (map slot_of objects') queue' cores' s (inputs_of inputs)) d
    ∙ ap (parts (map slot_of objects') queue' cores' out') (ap inputs_of e ∙ inputs_drop from inputs')

-- states with the same parts are the same

abbrev pub made : (ℕ → Option Object) → List ℕ → List (Option Occupant) → (ℕ → List (List ℕ)) → List (List ℕ) → State
made objects queue cores out inputs =
    record { objects = objects; queue = queue; cores = cores; out = out; inputs = inputs }

pub state_is : (s t : State) → s.objects ≡ t.objects → s.queue ≡ t.queue → s.cores ≡ t.cores → s.out ≡ t.out → s.inputs ≡ t.inputs → s ≡ t
state_is s t objects queue cores out inputs =
    ap (λ (x : ℕ → Option Object). made x s.queue s.cores s.out s.inputs) objects
    ∙ ap (λ (x : List ℕ). made t.objects x s.cores s.out s.inputs) queue
    ∙ ap (λ (x : List (Option Occupant)). made t.objects t.queue x s.out s.inputs) cores
    ∙ ap (λ (x : ℕ → List (List ℕ)). made t.objects t.queue t.cores x s.inputs) out
    ∙ ap (λ (x : List (List ℕ)). made t.objects t.queue t.cores t.out x) inputs
