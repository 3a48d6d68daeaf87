use Rattle.std.specs.Prelude.{◌≡◌, false, Option, Some, None}
use Rattle.std.proofs.Common.{refl, ap, sym}
use Rattle.sls_base.specs.declared.thread.ThreadView.{ThreadView}
use Rattle.plain_state.specs.Objects.{Object, Thread, is_thread}
use Rattle.plain_model.specs.States.{view_of}
use Rattle.kernel_machine.proofs.SeenCores.{runs_of}
use Rattle.kernel_machine.proofs.kernel.Kernel.thread.Goals as goal

-- nothing is told of another object
no_view : (o : Option Object) → is_thread o ≡ false → ◌≡◌ {A = Option ThreadView} None (view_of o)
no_view (Some (Thread thread)) other = absurd (cc)
no_view o other = refl

pub returns-in-Some : goal.returns-in-Some
returns-in-Some c = λ course is.
    let k = c.args.self.now in
    let h = runs_of k course c.in-Runs.running c.in-Runs.is is in
    sym (ap view_of (c.in-Some.ensures.some k.accepted k.nvm h.rest course.world h.holds))

pub returns-in-None : goal.returns-in-None
returns-in-None c = λ course is.
    let k = c.args.self.now in
    let h = runs_of k course c.in-Runs.running c.in-Runs.is is in
    no_view (course.world.now.objects c.args.id)
    (c.in-None.ensures.none k.accepted k.nvm h.rest course.world h.holds)
