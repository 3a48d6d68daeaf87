use Rattle.std.proofs.Common.{ℕ, Option, ap}
use Rattle.plain_state.specs.Objects.{Object}
use Rattle.plain_state.specs.States.{State}
use Rattle.kobj_table.specs.Objects.{state_of}
use Rattle.page_bytes.proofs.Unseen.{objects_alike, ring_page_alike}
use Rattle.page_bytes.proofs.laws.other_pages_are_not_seen.Goals as goal

pub returns-clause-pages : goal.returns-clause-pages
unfolding state_of
returns-clause-pages c objects rest content same =
    let state : (ℕ → Option Object) → State = λ told. record (state_of objects rest) { objects = told } in
    ap state (objects_alike objects content rest.content same)

pub returns-clause-rings : goal.returns-clause-rings
unfolding state_of
returns-clause-rings c objects rest id channel at bytes apart ring =
    let state : (ℕ → Option Object) → State = λ told. record (state_of objects rest) { objects = told } in
    ap state (objects_alike objects _ rest.content (ring_page_alike objects rest id channel at bytes apart ring))
