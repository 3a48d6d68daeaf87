-- What the kernel becomes whose objects are lent.
use Rattle.std.specs.Borrow.{Lends, MutBor, Fml}
use Rattle.kobj_table.specs.declared.objects.Objects.{Objects}
use Rattle.kobj_table.specs.contracts.objects.Objects.{the_row as objects_row}
use Rattle.kernel_calls.specs.declared.calls.Calls.{Calls}
use Rattle.kernel_calls.specs.contracts.calls.Calls.{the_row}

-- the kernel with other objects
abbrev pub with_objects : Calls → Objects → Calls
with_objects k o = record k { runtime = record k.runtime { objects = o } }

-- It ends with the objects that the borrower leaves.
abbrev pub LendsObjects : MutBor Calls → MutBor Objects → Fml
LendsObjects k objects = Lends the_row objects_row k objects (with_objects k.now)
