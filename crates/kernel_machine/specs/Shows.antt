-- Which courses a machine shows, and from which image it is made.
use Rattle.std.specs.Prelude.{◌≡◌, ◌≤◌, length}
use Rattle.sls_base.specs.declared.limits.TheConstants.{CORES}
use Rattle.sls_base.specs.declared.image.Image.{Image}
use Rattle.plain_laws.specs.Whole.{IsSound}
use Rattle.boot_image.specs.Values.{programs_of}
use Rattle.machine_contract.specs.declared.answers.Off.{Off}
use Rattle.machine_contract.specs.Courses.{Course}
use Rattle.machine_contract.specs.Shown.{IsShown, IsShownOff}
use Rattle.kernel_machine.specs.declared.work.Work.{Work}
use Rattle.kernel_machine.specs.declared.work.Work.TheVariants as work
use Rattle.kernel_machine.specs.declared.kernel.Kernel.{Kernel}
use Rattle.kernel_machine.specs.Sides.{seen_of}
use Rattle.kernel_machine.specs.Formats.{format}
use Rattle.kernel_machine.specs.Worlds.{IsWorkOf, HaveHands}

-- The machine is at a course of the plain machine: what it is at is the world's, for 1 to 8 cores, and the memory has
-- counted the commits and cuts.
pub record IsAt (k : Kernel) (c : Course) : Type 0 where
  pub work : IsWorkOf k.work k.cores k.accepted k.nvm c.world
  pub hands : HaveHands k.work k.cores k.spent
  pub some : 1 ≤ k.cores
  pub most : k.cores ≤ CORES
  pub cores : length c.world.now.cores ≡ k.cores
  pub saved_cores : length c.world.saved.cores ≡ k.cores
  pub commits : k.nvm.commits ≡ c.commits
  pub cuts : k.nvm.cuts ≡ c.cuts

-- it is at some course
pub record IsLive (k : Kernel) : Type 0 where
  pub course : Course
  pub is_at : IsAt k course

-- The machine shows the courses that it is at, and what is seen of it says so.
pub record Shows (k : Kernel) (c : Course) : Type 0 where
  pub is_at : IsAt k c
  pub shown : IsShown format (seen_of k) c

-- As long as it stores the first version, it is that of an image of these programs.
abbrev pub WorksFrom : Work → Image → Type 0
WorksFrom (work.Formats s) image = programs_of s.image ≡ programs_of image
WorksFrom (work.Recovers s) image = Unit {0}
WorksFrom (work.Runs k) image = Unit {0}
WorksFrom (work.Saves c) image = Unit {0}
WorksFrom work.Between image = Unit {0}

abbrev pub IsMadeFrom : Kernel → Image → Type 0
IsMadeFrom k image = WorksFrom k.work image

-- A memory without power shows a course: its words say so, and the world is sound.
pub record ShowsOff (off : Off) (c : Course) : Type 0 where
  pub shown : IsShownOff format off.nvm off.accepted c
  pub sound : IsSound c.world

-- it shows some course
pub record IsLightable (off : Off) : Type 0 where
  pub course : Course
  pub shows : ShowsOff off course
