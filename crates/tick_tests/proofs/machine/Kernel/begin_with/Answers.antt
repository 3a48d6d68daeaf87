use Rattle.std.proofs.Common.{rules, ◌≡◌, true, ap, ◌∷◌, []}
use Rattle.sls_base.specs.declared.fixed.TheConstants.{SCHEDULER}
use Rattle.plain_model.specs.Initial.{first_world}
use Rattle.kobj_table.specs.Slots.{is_scheduler}
use Rattle.kobj_table.specs.Objects.{slot_at}
use Rattle.first_state.specs.Filled.{first_rest}
use Rattle.tick_tests.specs.FirstKernel.{content_of}
use Rattle.tick_tests.proofs.FirstKernel.{begun, holds_image, zeros}
use Rattle.tick_tests.proofs.machine.Kernel.begin_with.Goals as goal

pub returns : goal.returns
returns g c =
    let image = c.args.image.now in
    let cores = c.args.cores in
    let m = c.in_ok-nvm.nvm in
    let o = c.first_objects-objects.result in
    let is_accepted : c.is_accepted.result ≡ true = search rules in
    let is_of_bytes : c.is_of_bytes.result ≡ true = search rules in
    let stands : c.stands.result ≡ true = search rules in
    let none : c.count_none.result ≡ true = search rules in
    let accepted = c.is_accepted.ensures.0 is_accepted in
    let bytes = c.is_of_bytes.ensures.0 is_of_bytes in
    let state = c.first_objects-objects.ensures.state (content_of m) (holds_image image m accepted (c.stands.ensures stands)) in
    let scheduler : is_scheduler (slot_at o SCHEDULER) ≡ true = ap is_scheduler c.first_objects-objects.ensures.scheduler in
    let rest = first_rest (content_of m) in
    let w = first_world image cores in
    let saved = begun image cores m o (0 ∷ 0 ∷ 0 ∷ 0 ∷ []) (c.worlds_are_sound.ensures.first image cores accepted bytes) state scheduler c.first_objects-objects.ensures.strays (c.count_none.ensures none) (λ channel below. zeros channel) in
    record { world = w; rest = rest; holds = c.begin.ensures.holds (0 ∷ 0 ∷ 0 ∷ 0 ∷ []) m rest w saved }
