use Rattle.saved_state.proofs.Inputs.{inputs_are_free}
use Rattle.saved_state.proofs.Accepted.{accept_keeps}
use Rattle.saved_state.proofs.laws.devices_leave_words.Goals as goal

pub returns-clause-inputs : goal.returns-clause-inputs
returns-clause-inputs c = λ words version base accepted s inputs h.
    record { parts = h.parts; stand = h.stand; are = inputs_are_free s inputs base accepted h.parts h.are }

pub returns-clause-accepts : goal.returns-clause-accepts
returns-clause-accepts c = λ words version base accepted s channel waits h.
    record { parts = h.parts; stand = h.stand; are = accept_keeps base accepted s channel waits h.parts h.are }
