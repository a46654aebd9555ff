-- Names that are wanted once.
use Rattle.std.proofs.Common.{◌≡◌, ℕ, List, [], Option, Some, None, refl}
use Rattle.std.specs.Prelude.{Result, Ok, Err}
use Rattle.iface_names.specs.Names.{same_name}
use Rattle.cm_document.specs.Valid.{repeated_after}
use Rattle.spawn_plan.specs.Wanted.{each_once}
use Rattle.spawn_plan.specs.declared.fault.SpawnFault.{SpawnFault}
use Rattle.spawn_plan.specs.declared.fault.SpawnFault.TheVariants as fault

told_once : (o : Option (List ℕ))
    → ◌≡◌ {A = Result (Unit {0}) SpawnFault} (elim o [ None ↦ Ok tt | Some name ↦ Err (fault.Twice name) ]) (Ok tt)
    → o ≡ None
told_once None once = refl
told_once (Some name) once = cc

-- where none is told to stand twice, none is found that does
pub once_none : (wanted : List (List ℕ)) → each_once wanted ≡ Ok tt → repeated_after same_name [] wanted ≡ None
once_none wanted once = told_once (repeated_after same_name [] wanted) once

-- and the other way
pub none_once : (wanted : List (List ℕ)) → repeated_after same_name [] wanted ≡ None → each_once wanted ≡ Ok tt
none_once wanted none = rw (none, each_once) refl

-- a name that stands twice is told
pub some_twice : (wanted : List (List ℕ)) (name : List ℕ) → repeated_after same_name [] wanted ≡ Some name
    → each_once wanted ≡ Err (fault.Twice name)
some_twice wanted name some = rw (some, each_once) refl
