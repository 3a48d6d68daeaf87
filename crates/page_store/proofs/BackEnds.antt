-- Pages that recovery has passed may be forgotten, and nothing was stored to them.
use Rattle.page_store.specs.Stages.{IsAsRecovered, IsSettled}
use Rattle.page_store.specs.Back.{IsPassed}
use Rattle.page_store.specs.declared.stage.PageStage.{PageStage}
use Rattle.page_store.specs.declared.stage.PageStage.TheVariants.{Fresh, Protected, Preparing, Writable}
use Rattle.page_store.specs.declared.stage.Origin.TheVariants.{Zeros, Copy}
use Rattle.page_store.specs.declared.stage.Writes.TheVariants.{Nothing, Stored, Flushed}

pub passed_settles : (stage : PageStage) → IsPassed stage → IsSettled stage
passed_settles Fresh ok = tt
passed_settles Protected ok = tt
passed_settles (Preparing core next) ok = absurd ok
passed_settles (Writable origin writes) ok = tt

pub passed_is_as_recovered : (stage : PageStage) → IsPassed stage → IsAsRecovered stage
passed_is_as_recovered Fresh ok = tt
passed_is_as_recovered Protected ok = tt
passed_is_as_recovered (Preparing core next) ok = absurd ok
passed_is_as_recovered (Writable Zeros writes) ok = absurd ok
passed_is_as_recovered (Writable Copy Nothing) ok = tt
passed_is_as_recovered (Writable Copy Stored) ok = absurd ok
passed_is_as_recovered (Writable Copy Flushed) ok = absurd ok
