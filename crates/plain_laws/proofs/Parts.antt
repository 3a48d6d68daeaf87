-- First parts of lists: what the device has, what the saved copy has put and what the running state has put.
use Rattle.std.specs.Prelude.{◌≡◌, ℕ, ◌<◌, ◌==◌, Bool, true, false, List, [], ◌∷◌, ◌++◌, length, Option, Some, None, if◌then◌else◌, slice_index_or}
use Rattle.std.proofs.Common.{refl, ap, arith, sym, ◌∙◌, append_assoc, append-nil}
use Rattle.std.proofs.lemmas.Bool.{ltb-true, eqb-true}
use Rattle.sls_base.specs.declared.image.Image.{Image}
use Rattle.plain_model.specs.Initial.{first_world}
use Rattle.plain_state.specs.declared.effect.Output.{Output}
use Rattle.plain_state.specs.declared.label.Label.{Label}
use Rattle.plain_state.specs.declared.label.Label.TheVariants.{Tick, Commit, Cut, Accept, Input}
use Rattle.plain_model.specs.Worlds.{World}
use Rattle.plain_model.specs.Effects.{Effect}
use Rattle.plain_model.specs.Ticks.{Chosen, chosen, ticked, world_of_effect, state_of_effect, with_output, effect_for}
use Rattle.plain_model.specs.Play.{after, play, accept, is_offered, next_bytes, with_released, has_input_room, input}
use Rattle.plain_laws.specs.Laws.{IsFirstPart, IsInOrder}

pub part_of_itself : (xs : List (List ℕ)) → IsFirstPart xs xs
part_of_itself xs = ([], append-nil xs)

pub part_of_more : (xs : List (List ℕ)) (ys : List (List ℕ)) → IsFirstPart xs (xs ++ ys)
part_of_more xs ys = (ys, refl)

pub part_of_part : (xs ys zs : List (List ℕ)) → IsFirstPart xs ys → IsFirstPart ys zs → IsFirstPart xs zs
part_of_part xs ys zs p q = (p.0 ++ q.0, sym (append_assoc xs p.0 q.0) ∙ ap (λ (l : List (List ℕ)). l ++ q.0) p.1 ∙ q.1)

-- the next of a list after its first part makes a longer first part
pub one_longer : (xs ys rest : List (List ℕ)) → xs ++ rest ≡ ys → length xs < length ys → IsFirstPart (xs ++ slice_index_or ys (length xs) [] ∷ []) ys
one_longer [] [] rest e l = absurd (omega arith)
one_longer [] (y ∷ ys) rest e l = (ys, refl)
one_longer (x ∷ xs) [] rest e l = absurd (omega arith)
one_longer (x ∷ xs) (y ∷ ys) rest e l =
    let heads : x ≡ y = cc in
    let tails : xs ++ rest ≡ ys = cc in
    let longer = one_longer xs ys rest tails (omega arith) in
    (longer.0, ap (λ (l : List (List ℕ)). x ∷ l) longer.1 ∙ ap (λ (h : List ℕ). h ∷ ys) heads)

pub put_longer : (xs : List (List ℕ)) (bytes : List ℕ) (b : Bool) → IsFirstPart xs (if b then xs ++ bytes ∷ [] else xs)
put_longer xs bytes true = part_of_more xs (bytes ∷ [])
put_longer xs bytes false = part_of_itself xs

-- what a tick puts comes behind what was put
pub output_longer : (out : ℕ → List (List ℕ)) (output : Option Output) (channel : ℕ) → IsFirstPart (out channel) (with_output out output channel)
output_longer out None channel = part_of_itself (out channel)
output_longer out (Some output) channel = put_longer (out channel) output.bytes.items (channel == output.channel)

-- Each label keeps them in order.

pub effect_in_order : (w : World) (core : ℕ) (c : Chosen) (e : Effect) → IsInOrder w → IsInOrder (world_of_effect w core c e)
unfolding state_of_effect
effect_in_order w core c e h = record {
  released = h.released;
  saved = λ channel. part_of_part (w.saved.out channel) (w.now.out channel) (with_output w.now.out e.output channel) (h.saved channel) (output_longer w.now.out e.output channel);
}

pub ticked_in_order : (w : World) (core : ℕ) (c : Option Chosen) → IsInOrder w → IsInOrder (ticked w core c)
ticked_in_order w core None h = h
ticked_in_order w core (Some c) h = effect_in_order w core c (effect_for w c) h

pub released_by : (w : World) (channel c : ℕ) (b : Bool) → is_offered w channel ≡ true → (c == channel) ≡ b → IsInOrder w → IsFirstPart (with_released w.released channel (next_bytes w channel) c) (w.saved.out c)
released_by w channel c true offered e h =
    let same : c ≡ channel = eqb-true c channel e in
    rw e (rw same (one_longer (w.released channel) (w.saved.out channel) (h.released channel).0 (h.released channel).1 (ltb-true (length (w.released channel)) (length (w.saved.out channel)) offered)))
released_by w channel c false offered e h = rw e (h.released c)

pub accepted_in_order : (w : World) (channel : ℕ) (b : Bool) → is_offered w channel ≡ b → IsInOrder w → IsInOrder (accept w channel)
accepted_in_order w channel true e h = rw e (record {
  released = λ c. released_by w channel c (c == channel) e refl h;
  saved = h.saved;
})
accepted_in_order w channel false e h = rw e h

pub input_in_order : (w : World) (bytes : List ℕ) (b : Bool) → has_input_room w ≡ b → IsInOrder w → IsInOrder (input w bytes)
input_in_order w bytes true e h = rw e (record { released = h.released; saved = h.saved })
input_in_order w bytes false e h = rw e h

pub stays_in_order : (w : World) (label : Label) → IsInOrder w → IsInOrder (after w label)
stays_in_order w (Tick core) h = ticked_in_order w core (chosen w.now core) h
stays_in_order w Commit h = record {
  released = λ channel. part_of_part (w.released channel) (w.saved.out channel) (w.now.out channel) (h.released channel) (h.saved channel);
  saved = λ channel. part_of_itself (w.now.out channel);
}
stays_in_order w Cut h = record { released = h.released; saved = λ channel. part_of_itself (w.saved.out channel) }
stays_in_order w (Accept channel) h = accepted_in_order w channel (is_offered w channel) refl h
stays_in_order w (Input bytes) h = input_in_order w bytes.items (has_input_room w) refl h

-- What the device has never shrinks.

pub first_in_order : (image : Image) (cores : ℕ) → IsInOrder (first_world image cores)
first_in_order image cores = record { released = λ channel. part_of_itself []; saved = λ channel. part_of_itself [] }

pub released_more : (released : ℕ → List (List ℕ)) (channel : ℕ) (bytes : List ℕ) (c : ℕ) → IsFirstPart (released c) (with_released released channel bytes c)
released_more released channel bytes c = put_longer (released c) bytes (c == channel)

pub ticked_released : (w : World) (core : ℕ) (c : Option Chosen) (channel : ℕ) → IsFirstPart (w.released channel) ((ticked w core c).released channel)
ticked_released w core None channel = part_of_itself (w.released channel)
ticked_released w core (Some c) channel = part_of_itself (w.released channel)

pub accepted_released : (w : World) (channel c : ℕ) (b : Bool) → is_offered w channel ≡ b → IsFirstPart (w.released c) ((accept w channel).released c)
accepted_released w channel c true e = rw e (released_more w.released channel (next_bytes w channel) c)
accepted_released w channel c false e = rw e (part_of_itself (w.released c))

pub input_released : (w : World) (bytes : List ℕ) (c : ℕ) (b : Bool) → has_input_room w ≡ b → IsFirstPart (w.released c) ((input w bytes).released c)
input_released w bytes c true e = rw e (part_of_itself (w.released c))
input_released w bytes c false e = rw e (part_of_itself (w.released c))

pub released_after : (w : World) (label : Label) (c : ℕ) → IsFirstPart (w.released c) ((after w label).released c)
released_after w (Tick core) c = ticked_released w core (chosen w.now core) c
released_after w Commit c = part_of_itself (w.released c)
released_after w Cut c = part_of_itself (w.released c)
released_after w (Accept channel) c = accepted_released w channel c (is_offered w channel) refl
released_after w (Input bytes) c = input_released w bytes.items c (has_input_room w) refl

pub released_played : (w : World) (labels : List Label) (c : ℕ) → IsFirstPart (w.released c) ((play w labels).released c)
released_played w [] c = part_of_itself (w.released c)
released_played w (label ∷ labels) c =
    part_of_part (w.released c) ((after w label).released c) ((play (after w label) labels).released c) (released_after w label c) (released_played (after w label) labels c)
