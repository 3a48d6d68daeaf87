use Rattle.kernel_calls.proofs.JustSaved.{object_held, no_thread_held, thread_held}
use Rattle.kernel_calls.proofs.calls.Calls.thread.Goals as goal

pub returns-clause-some : goal.returns-clause-some
returns-clause-some c accepted m rest w h =
    thread_held c.thread.result c.args.self.now.runtime.objects rest.content c.args.id (w.now.objects c.args.id) (object_held c.args.self.now accepted m rest w h c.args.id) c.thread.ensures.some

pub returns-clause-none : goal.returns-clause-none
returns-clause-none c accepted m rest w h =
    no_thread_held c.thread.result c.args.self.now.runtime.objects rest.content c.args.id (w.now.objects c.args.id) (object_held c.args.self.now accepted m rest w h c.args.id) c.thread.ensures.none
