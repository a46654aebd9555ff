-- What is wrong with a value before its place is known, and the fault that it is at its place.
use Rattle.std.specs.Prelude.{ℕ, List}
use Rattle.iface_names.specs.declared.name.NameFault.{NameFault}
use Rattle.iface_names.specs.declared.name.NameFault.TheVariants as name
use Rattle.cm_document.specs.Forms.{at}
use Rattle.cm_document.specs.declared.faults.DescFault.{DescFault}
use Rattle.cm_document.specs.declared.faults.DescFault.TheVariants as fault
use Rattle.cm_document.specs.declared.faults.Wrong.TheVariants as wrong
use Rattle.desc_text.specs.declared.faults.Refused.{Refused}
use Rattle.desc_text.specs.declared.faults.Refused.TheVariants as refused

-- a text that breaks a rule of names is not of the form; want of memory stays that
abbrev pub refusal_of : NameFault → Refused
refusal_of name.BadName = refused.Wrong wrong.Value
refusal_of name.Memory = refused.Memory

-- what is wrong, told with its path
abbrev pub fault_at : List ℕ → Refused → DescFault
fault_at path (refused.Wrong w) = at path w
fault_at path refused.Memory = fault.Memory
