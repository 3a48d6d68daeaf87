-- Capabilities.
use Rattle.std.specs.Prelude.{◌<◌, ◌≤◌}
use Rattle.sls_base.specs.declared.limits.TheConstants.{OBJECTS}
use Rattle.sls_base.specs.declared.rights.TheConstants.{ALL_RIGHTS}
use Rattle.cap_group.specs.declared.cap.Cap.{Cap}

-- The object is one that there can be, and so are the rights.
pub record IsCap (cap : Cap) : Type 0 where
  pub object : cap.object < OBJECTS
  pub rights : cap.rights ≤ ALL_RIGHTS
