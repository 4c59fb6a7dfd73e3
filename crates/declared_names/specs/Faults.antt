-- What a fault tells of the names.
use Rattle.std.specs.Prelude.{List, string_bytes}
use Rattle.declared_names.specs.declared.fault.Fault.{Fault}
use Rattle.declared_names.specs.declared.fault.Fault.TheVariants.{NotDeclared, DeclaredTwice, NoMemory}
use Rattle.declared_names.specs.Names.{Mention, IsFirstUndeclared, IsFirstDeclaredAgain}

abbrev pub IsFaultOf : List Mention → Fault → Type 0
IsFaultOf mentions (NotDeclared name start) = IsFirstUndeclared mentions (string_bytes name) start
IsFaultOf mentions (DeclaredTwice name start first) = IsFirstDeclaredAgain mentions (string_bytes name) start first
IsFaultOf mentions NoMemory = Unit {0}
