use Rattle.kernel_calls.proofs.JustSaved.{ring_counts, some_ring}
use Rattle.kernel_calls.proofs.calls.Calls.put_count.Goals as goal

pub returns-in-Some : goal.returns-in-Some
returns-in-Some c accepted m rest w h = ring_counts c.args.self.now accepted m rest w h c.args.channel c.in-Some.ring c.requires c.in-Some.ensures.some

pub returns-in-None : goal.returns-in-None
returns-in-None c accepted m rest w h = absurd (some_ring c.args.self.now accepted m rest w h c.args.channel c.requires (c.in-None.ensures.no_output rest.content))
