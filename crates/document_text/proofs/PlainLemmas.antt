-- A fault that is no want of memory carries none.
use Rattle.std.proofs.Common.{◌≡◌, refl}
use Rattle.cm_document.specs.declared.faults.CheckFault.{CheckFault}
use Rattle.cm_document.specs.declared.faults.CheckFault.TheVariants as check_fault
use Rattle.cm_document.specs.declared.faults.DescFault.{DescFault}
use Rattle.cm_document.specs.declared.faults.DescFault.TheVariants as desc_fault
use Rattle.cm_document.specs.declared.faults.DescProblem.TheVariants as problem
use Rattle.cm_document.specs.declared.faults.DocumentFault.TheVariants as fault
use Rattle.cm_document.specs.declared.faults.ScriptFault.{ScriptFault}
use Rattle.cm_document.specs.declared.faults.ScriptFault.TheVariants as script_fault
use Rattle.document_text.specs.Plain.{IsPlainFault}

pub plain_text : (f : DescFault) → (f ≡ desc_fault.Memory → ⊥) → IsPlainFault (fault.Description (problem.Text f))
plain_text desc_fault.NotToml other = tt
plain_text (desc_fault.BadKey path) other = tt
plain_text (desc_fault.BadValue path) other = tt
plain_text (desc_fault.FloatGiven path) other = tt
plain_text desc_fault.Memory other = absurd (other refl)

pub plain_check : (f : CheckFault) → (f ≡ check_fault.Memory → ⊥) → IsPlainFault (fault.Description (problem.Check f))
plain_check (check_fault.TooMany what) other = tt
plain_check (check_fault.NameTwice name) other = tt
plain_check (check_fault.BadRange path) other = tt
plain_check (check_fault.NoInterface controller interface) other = tt
plain_check (check_fault.NoFallback controller name) other = tt
plain_check (check_fault.NoMember group name) other = tt
plain_check (check_fault.ChainLoop controller) other = tt
plain_check check_fault.Memory other = absurd (other refl)

pub plain_script : (f : ScriptFault) → (f ≡ script_fault.Memory → ⊥) → IsPlainFault (fault.Script f)
plain_script (script_fault.BadLine line) other = tt
plain_script (script_fault.NoSession line) other = tt
plain_script (script_fault.TooMany line) other = tt
plain_script script_fault.Memory other = absurd (other refl)

pub ruleset plain_faults = (plain_text, plain_check, plain_script)
