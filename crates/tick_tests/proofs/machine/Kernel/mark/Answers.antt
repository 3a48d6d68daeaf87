use Rattle.tick_tests.proofs.machine.Kernel.mark.Goals as goal

pub returns-then-has_bytes : goal.returns-then-has_bytes
returns-then-has_bytes c =
    let k = c.args.self.now in
    let held = c.requires in
    let zero = c.has_bytes.ensures c.if-has_bytes.true held.rest.content held.holds.content in
    record { world = held.world; rest = held.rest; holds = c.mark_page.ensures.holds k.accepted k.nvm held.rest held.world zero held.holds }
