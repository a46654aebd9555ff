-- What reading the document of a job comes to: a document, or the status with which the run ends.
use Rattle.std.specs.Prelude.{◌≡◌, ℕ, ◌+◌, ◌<◌, List, length, Option, None, Some, Result, Ok, Err, IfOk, IfErr, IfSome}
use Rattle.std.specs.Prelude.{OnOk, IsSome}
use Rattle.std.specs.Io.KnownBytes.{IsAtEnd}
use Rattle.outside_io.specs.Bytes.{TakesAtMost}
use Rattle.outside_io.specs.Faults.{IsToldAs}
use Rattle.cm_document.specs.Document.{document}
use Rattle.cm_document.specs.Grammars.{whole_grammar}
use Rattle.cm_document.specs.declared.document.Document.{Document}
use Rattle.cm_document.specs.declared.faults.DocumentFault.TheVariants as fault
use Rattle.cm_document.specs.declared.limits.TheConstants.{LONGEST_DOCUMENT}
use Rattle.make_document.specs.Made.{made}
use Rattle.cm_top.specs.Status.{IsShort}
use Rattle.cm_top.specs.Calls.Run.{SourceFacts}
use Rattle.cm_top.specs.Status.{IsPlain, ComesOfBytes}
use Rattle.cm_top.specs.declared.status.Status.{Status}
use Rattle.cm_top.specs.declared.status.Status.TheVariants as status

-- These bytes are read as this: an accepted document, or else the status of its first fault, exactly. Of a read that
-- failed, and of want of memory, nothing is said.
abbrev pub ReadAs : List ℕ → Result Document Status → Type 0
ReadAs bytes (Ok d) = IsShort bytes × (document whole_grammar bytes ≡ Ok d)
ReadAs bytes (Err (status.BadDescription p)) =
    IsShort bytes × (document whole_grammar bytes ≡ Err (fault.Description p))
ReadAs bytes (Err (status.BadScript f)) = IsShort bytes × (document whole_grammar bytes ≡ Err (fault.Script f))
ReadAs bytes (Err status.TooLong) = LONGEST_DOCUMENT < length bytes
ReadAs bytes (Err status.ReadFault) = Unit {0}
ReadAs bytes (Err status.Memory) = Unit {0}
ReadAs bytes (Err _) = ⊥

-- the statuses with which a run ends that has no document
abbrev pub EndsUnread : Status → Type 0
EndsUnread status.Ok = ⊥
EndsUnread status.BadWords = ⊥
EndsUnread status.WriteFault = ⊥
EndsUnread (status.NotLegal _ _) = ⊥
EndsUnread (status.CannotSpawn _) = ⊥
EndsUnread _ = Unit {0}

-- Bytes that are short enough were read.
pub record ReadsBytes (bytes : List ℕ) (result : Result Document Status) : Type 0 where
  pub read : ReadAs bytes result
  pub of_bytes : IfErr result ComesOfBytes
  pub plain : IfErr result IsPlain

-- A source was read, before and after.
pub record Reads (source source' : SourceFacts) (result : Result Document Status) : Type 0 where
  -- by the bytes of the source, where they are known
  pub read : IfSome source.left (λ bytes. ReadAs bytes result)
  -- a document is that of some bytes, whatever the source tells, and then nothing is left to read
  pub accepted : IfOk result (λ d. (bytes : List ℕ) × ReadAs bytes (Ok d))
  pub read_whole : OnOk result (IsSome source.left → IsAtEnd source'.left)
  -- without a document the run ends so, and no refusal carries a want of memory
  pub unread : IfErr result EndsUnread
  pub plain : IfErr result IsPlain

-- The document of a job was read from the source, or with a number of rounds it was made.
abbrev pub ReadsFrom : Option ℕ → SourceFacts → SourceFacts → Result Document Status → Type 0
ReadsFrom None source source' result = Reads source source' result
ReadsFrom (Some rounds) source source' result = ReadsBytes (made rounds) result

-- How reading ends by the faults of its source, before and after it.
pub record MindsSource (source source' : SourceFacts) (result : Result Document Status) : Type 0 where
  -- it ends as a fault of reading exactly where a read failed
  pub read_fault : IsToldAs (Err status.ReadFault) result source.faults source'.faults
  -- never more than one byte past the longest document is taken
  pub read_at_most : TakesAtMost source.left source'.left (LONGEST_DOCUMENT + 1)
