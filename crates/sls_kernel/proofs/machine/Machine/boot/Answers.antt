use Rattle.std.proofs.Common.{refl}
use Rattle.sls_kernel.proofs.Begins.{boots}
use Rattle.sls_kernel.proofs.machine.Machine.boot.Goals as goal

pub returns-in-Ok-clause-shows : goal.returns-in-Ok-clause-shows
returns-in-Ok-clause-shows c =
    boots _ _ (record { stage = refl; thread = c.initial_thread.ensures; put = refl; in_range = c.in-Ok.ensures.range }) refl c.in-Ok.ensures.bytes c.requires.zero
