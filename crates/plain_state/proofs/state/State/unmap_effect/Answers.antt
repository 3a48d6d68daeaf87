use Rattle.std.proofs.Common.{◌≡◌, ◌==◌, ◌/◌, ◌∙◌, IfOk, [], ◌∷◌, ap, subst, filter, List, Bool}
use Rattle.std.specs.Prelude.{not}
use Rattle.sls_base.specs.declared.limits.TheConstants.{PAGE_BYTES}
use Rattle.plain_state.specs.declared.objects.Region.{Region}
use Rattle.plain_state.specs.Objects as objects
use Rattle.plain_state.specs.Calls as calls
use Rattle.plain_state.specs.CallEffects as plain
use Rattle.plain_state.specs.Effects.{Change}
use Rattle.plain_state.specs.Slow.{change_of, state_of, effect_of, StoresInPages}
use Rattle.plain_state.proofs.state.State.unmap_effect.Goals as goal

pub returns : goal.returns
unfolding state_of
returns c =
    let s = state_of c.args.self.now in
    let thread = c.args.thread.now in
    let stays : Region → Bool = λ region. not (region.base == calls.arg thread 1 / PAGE_BYTES) in
    let had : c.regions_of-regions.result.now ≡ objects.regions_of (calls.named s thread 0) = c.regions_of-regions.ensures ∙ ap objects.regions_of c.named.ensures in
    let left : c.in_ok-left.left.items ≡ filter stays (objects.regions_of (calls.named s thread 0)) = c.in_ok-left.ensures ∙ ap (filter stays) had in
    let change : change_of c.change-space.result ≡ plain.change (calls.id_named s thread 0) (objects.Space (filter stays (objects.regions_of (calls.named s thread 0)))) =
    c.change-space.ensures ∙ ap (λ id. plain.change id (objects.Space c.in_ok-left.left.items)) c.id_named.ensures ∙ ap (λ (regions : List Region). plain.change (calls.id_named s thread 0) (objects.Space regions)) left in
    subst (λ (x : Change). IfOk c.answers_with.result (λ e. (effect_of e ≡ plain.answers_with thread 0 (x ∷ [])) × StoresInPages e)) change c.answers_with.ensures
