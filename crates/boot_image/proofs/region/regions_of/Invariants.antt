use Rattle.std.proofs.Common.{◌≤◌, ◌-◌, length}
use Rattle.std.specs.Prelude.{map}
use Rattle.sls_base.specs.declared.limits.TheConstants.{PAGES}
use Rattle.boot_image.specs.Values.{region_value}
use Rattle.boot_image.proofs.RegionLoop.{IsReadTo}
use Rattle.boot_image.proofs.region.regions_of.Given as goal

-- the regions so far, and what is left of the bytes, are what the bytes say
abbrev pub invariant-loop : goal.invariant-loop
invariant-loop l = record {
  so_far : IsReadTo l.count l.at l.pages l.bytes (l.count - l.counter) l.size l.taken (map region_value l.specs.items);
  few : l.taken ≤ PAGES;
  whole : l.size ≤ length l.bytes;
}
