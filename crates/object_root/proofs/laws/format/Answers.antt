use Rattle.object_root.proofs.RoomLaws.{chosen_only, object_only, objects_same}
use Rattle.object_root.proofs.laws.format.Goals as goal

pub returns-clause-chosen : goal.returns-clause-chosen
returns-clause-chosen c = chosen_only

pub returns-clause-object : goal.returns-clause-object
returns-clause-object c = object_only c.one_object.ensures

pub returns-clause-same : goal.returns-clause-same
returns-clause-same c = λ a b v objects same h. objects_same same h
