-- The course of the plain machine: its world, with what is counted beside it, and how labels lead it on.
use Rattle.std.specs.Prelude.{ℕ, Bool, List, [], ◌∷◌, Option, Some, None}
use Rattle.sls_base.specs.declared.image.Image.{Image}
use Rattle.pmem_model.specs.Memory.{Memory, count_up}
use Rattle.plain_state.specs.declared.label.Label.{Label}
use Rattle.plain_state.specs.declared.label.Label.TheVariants as label
use Rattle.plain_model.specs.Worlds.{World}
use Rattle.plain_model.specs.Initial.{first_world}
use Rattle.plain_model.specs.Play as plain
use Rattle.machine_contract.specs.declared.answers.Did.{Did}
use Rattle.machine_contract.specs.declared.answers.Did.TheVariants as did
use Rattle.machine_contract.specs.declared.answers.Event.{Event}
use Rattle.machine_contract.specs.declared.answers.Event.TheVariants.{Turn, WriteBack, Input, Accept, Cut}
use Rattle.machine_contract.specs.declared.answers.Answer.{Answer}
use Rattle.machine_contract.specs.declared.answers.Answer.TheVariants as told

-- A world, how many commits and cuts its memory counted, and for each epoch that ended since the last cut, the latest
-- first, the pages that were stored to in it.
pub record Course : Type 0 where
  pub world : World
  pub commits : ℕ
  pub cuts : ℕ
  pub ended : List (ℕ → Bool)

-- the course of a machine that was booted from an image on a memory
abbrev pub first_course : Image → ℕ → Memory → Course
first_course image cores nvm =
    record { world = first_world image cores; commits = nvm.commits; cuts = nvm.cuts; ended = [] }

-- Labels: what an event with its answer is to the plain machine, if it is anything.

-- a tick, a commit, or nothing
abbrev pub turn_label : ℕ → Did → Option Label
turn_label core did.Retired = Some (label.Tick core)
turn_label core did.Idle = Some (label.Tick core)
turn_label core (did.Inner why) = None
turn_label core (did.Committed version) = Some label.Commit
turn_label core (did.Up version) = None

-- a write-back that commits is a commit
abbrev pub back_label : Option ℕ → Option Label
back_label None = None
back_label (Some version) = Some label.Commit

-- the label of an event with its answer; others have none
abbrev pub label_of : Event → Answer → Option Label
label_of (Turn core) (told.Did did) = turn_label core did
label_of (WriteBack word) (told.WroteBack version) = back_label version
label_of (Input bytes) (told.Given given) = Some (label.Input bytes)
label_of (Accept channel) (told.Accepted entry) = Some (label.Accept channel)
label_of Cut (told.Restarted version) = Some label.Cut
label_of event answer = None

-- a label, if there is one, before others
abbrev pub and_more : Option Label → List Label → List Label
and_more None labels = labels
and_more (Some label) labels = label ∷ labels

-- the labels of events with their answers
abbrev pub labels_of : List Event → List Answer → List Label
labels_of (event ∷ events) (answer ∷ answers) = and_more (label_of event answer) (labels_of events answers)
labels_of events answers = []

-- The course after labels.

-- a commit is counted and ends an epoch; a cut is counted, and no epoch before it counts any more
abbrev pub after_label : Course → Label → Course
after_label c (label.Tick core) = record c { world = plain.after c.world (label.Tick core) }
after_label c label.Commit = record {
  world = plain.commit c.world;
  commits = count_up c.commits;
  cuts = c.cuts;
  ended = c.world.stored ∷ c.ended;
}
after_label c label.Cut = record {
  world = plain.cut c.world;
  commits = c.commits;
  cuts = count_up c.cuts;
  ended = [];
}
after_label c (label.Accept channel) = record c { world = plain.accept c.world channel }
after_label c (label.Input bytes) = record c { world = plain.input c.world bytes.items }

-- after a label, if there is one
abbrev pub after : Course → Option Label → Course
after c None = c
after c (Some label) = after_label c label

-- after labels, one after another
abbrev pub played : Course → List Label → Course
played c [] = c
played c (label ∷ labels) = played (after_label c label) labels
