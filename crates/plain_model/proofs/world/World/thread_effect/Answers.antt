use Rattle.std.proofs.Common.{◌≡◌, ℕ, List, [], ◌∷◌, ◌++◌, ap, ◌∙◌, refl}
use Rattle.plain_state.specs.Objects.{Thread}
use Rattle.plain_state.specs.Effects.{Effect}
use Rattle.plain_state.specs.CallEffects.{makes, new_id, new_thread}
use Rattle.plain_state.specs.Slow.{effect_of}
use Rattle.plain_model.specs.SlowWorld.{world_of}
use Rattle.plain_model.proofs.world.World.thread_effect.Goals as goal

abbrev with_wakes : Effect → List ℕ → Effect
with_wakes e wakes = record e { wakes = wakes }

-- where an effect that wakes none is made to wake one
woken : (e made : Effect) (wakes : List ℕ) (id : ℕ) → e ≡ made → made.wakes ≡ [] → wakes ≡ e.wakes ++ id ∷ [] → with_wakes e wakes ≡ with_wakes made (id ∷ [])
woken e made wakes id same none longer =
    let woke : wakes ≡ id ∷ [] = longer ∙ ap (λ (f : Effect). f.wakes ++ id ∷ []) same ∙ ap (λ (ids : List ℕ). ids ++ id ∷ []) none in
    ap (λ (f : Effect). with_wakes f wakes) same ∙ ap (with_wakes made) woke

pub returns : goal.returns
unfolding effect_of world_of
returns c =
    let w = world_of c.args.self.now in
    let thread = c.args.thread.now in
    let object : Thread c.new_thread-new.result ≡ Thread (new_thread w.now thread) = ap Thread c.new_thread-new.ensures in
    let made = c.in_ok-effect.ensures.0 ∙ ap (makes w thread) object in
    let longer = c.in_ok-push.ensures.items ∙ ap (λ (n : ℕ). c.in_ok-effect.effect.wakes.items ++ n ∷ []) c.new_id.ensures in
    (woken (effect_of c.in_ok-effect.effect) (makes w thread (Thread (new_thread w.now thread))) c.push.new.self.items (new_id w) made refl longer, c.in_ok-effect.ensures.1)
