-- What is sound of a world that a machine comes to, all together.
use Rattle.plain_model.specs.Worlds.{World}
use Rattle.plain_laws.specs.Plays.{Both}
use Rattle.plain_laws.specs.Places.{IsPlaced, IsPresent}
use Rattle.plain_laws.specs.Sound.{HaveForms, NameWhatIs, AreApart}
use Rattle.plain_laws.specs.Laws.{AreInRange, IsInOrder}
use Rattle.plain_laws.specs.Fixed.{HasFixedObjects}
use Rattle.plain_laws.specs.Bounds.{HasEntries, IsInRoom, HasPages, HasThreads}
use Rattle.plain_laws.specs.Kept.{IsSaved, IsTracked}

-- Of both states: each thread stands in one place, and where its state says; objects have numbers in range and their
-- forms, what they name is there, each page is of one object alone, and the fixed objects stand at their numbers;
-- entries, inputs, pages and threads are in range. Of the world: output is in order and has room, the saved copy is
-- swept, and what wasn't changed is as it was saved.
pub record IsSound (w : World) : Type 0 where
  pub placed : Both IsPlaced w
  pub present : Both IsPresent w
  pub in_range : Both AreInRange w
  pub forms : Both HaveForms w
  pub names : Both NameWhatIs w
  pub apart : Both AreApart w
  pub fixed : Both HasFixedObjects w
  pub entries : Both HasEntries w
  pub pages : Both HasPages w
  pub threads : Both HasThreads w
  pub order : IsInOrder w
  pub room : IsInRoom w
  pub saved : IsSaved w
  pub tracked : IsTracked w
