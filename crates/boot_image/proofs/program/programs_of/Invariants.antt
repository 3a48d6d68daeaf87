use Rattle.std.proofs.Common.{◌≤◌, ◌-◌, length}
use Rattle.std.specs.Prelude.{map}
use Rattle.sls_base.specs.declared.limits.TheConstants.{PAGES, OBJECTS}
use Rattle.boot_image.specs.Values.{program_value}
use Rattle.boot_image.proofs.ProgramLoop.{IsReadTo}
use Rattle.boot_image.proofs.program.programs_of.Given as goal

-- the programs so far, and what is left of the bytes, are what the bytes say
abbrev pub invariant-loop : goal.invariant-loop
invariant-loop l = record {
  so_far : IsReadTo l.count l.at l.fn.objects l.fn.pages l.bytes (l.count - l.counter) l.size l.objects l.pages (map program_value l.programs.items);
  few_objects : l.objects ≤ OBJECTS;
  few_pages : l.pages ≤ PAGES;
  whole : l.size ≤ length l.bytes;
}
