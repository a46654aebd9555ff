-- What a refused document is told by.
use Rattle.cm_document.specs.declared.faults.CheckFault.TheVariants as check_fault
use Rattle.cm_document.specs.declared.faults.DescFault.TheVariants as desc_fault
use Rattle.cm_document.specs.declared.faults.DescProblem.TheVariants as problem
use Rattle.cm_document.specs.declared.faults.DocumentFault.{DocumentFault}
use Rattle.cm_document.specs.declared.faults.DocumentFault.TheVariants as fault
use Rattle.cm_document.specs.declared.faults.ScriptFault.TheVariants as script_fault

-- Want of memory is a fault of its own: no other fault carries it.
abbrev pub IsPlainFault : DocumentFault → Type 0
IsPlainFault (fault.Description (problem.Text desc_fault.Memory)) = ⊥
IsPlainFault (fault.Description (problem.Check check_fault.Memory)) = ⊥
IsPlainFault (fault.Script script_fault.Memory) = ⊥
IsPlainFault _ = Unit {0}
