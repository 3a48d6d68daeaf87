use Rattle.std.proofs.Common.{refl}
use Rattle.kernel_calls.proofs.JustSaved.{still_held}
use Rattle.kernel_calls.proofs.calls.Calls.mark_page.Goals as goal

pub returns-clause-holds : goal.returns-clause-holds
returns-clause-holds c accepted m rest w zero h =
    let k = c.args.self.now in
    still_held c.args.page c.args.fresh k (record k { runtime = record k.runtime { objects = c.mark_page.new.objects } }) accepted m rest w c.mark_page.ensures.slots c.mark_page.ensures.past c.mark_page.ensures.links
    refl refl (c.mark_page.ensures.state rest zero) h
