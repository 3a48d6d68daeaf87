use Rattle.kernel_machine.proofs.ImagesAlike.{accepted_alike, worlds_alike, formats_alike}
use Rattle.kernel_machine.proofs.laws.images_of_programs.Goals as goal

pub returns-clause-accepted : goal.returns-clause-accepted
returns-clause-accepted c = accepted_alike

pub returns-clause-worlds : goal.returns-clause-worlds
returns-clause-worlds c = worlds_alike

pub returns-clause-formats : goal.returns-clause-formats
returns-clause-formats c = formats_alike
