-- The part of an input's text that a sink has taken, and the status for it.
use Rattle.std.specs.Prelude.{ℕ, Bool, true, false, List, Option, Some, None, Result, Ok, Err}
use Rattle.kc_batch.specs.declared.batch.Next.{Next}
use Rattle.kc_batch.specs.BatchInputs.{BatchInput}
use Rattle.kc_session.specs.declared.fault.SessionFault.{SessionFault}
use Rattle.kc_session.specs.declared.fault.SessionFault.TheVariants.{ReadFault, WriteFault, Memory}
use Rattle.kc_shell.specs.declared.status.Status.{Status}
use Rattle.kc_shell.specs.declared.status.Status.TheVariants as status
use Rattle.kcore.specs.Texts.{WritesWhole, WritesPrefix}

-- with Ok a whole text was written, and the answer says whether something is refused; otherwise a prefix of a text
abbrev pub WritesText : (List ℕ → Bool → Type 0) → Option (List ℕ) → Option (List ℕ) → Result Bool SessionFault → Type 0
WritesText IsText before now (Ok refused) = WritesWhole IsText before now refused
WritesText IsText before now (Err _) = WritesPrefix IsText before now

-- the text of an input, if the source tells it
abbrev pub Writes : (BatchInput → List ℕ → Bool → Type 0) → Option BatchInput → Option (List ℕ) → Option (List ℕ) → Result Bool SessionFault → Type 0
Writes IsText None before now result = Unit {0}
Writes IsText (Some input) before now result = WritesText (IsText input) before now result

-- the text of the batches after a header, if the source tells them
abbrev pub WritesAfter : (List Next → List ℕ → Bool → Type 0) → Option (List Next) → Option (List ℕ) → Option (List ℕ) → Result Bool SessionFault → Type 0
WritesAfter IsText None before now result = Unit {0}
WritesAfter IsText (Some batches) before now result = WritesText (IsText batches) before now result

-- the status of a command that ended with this result
abbrev pub status_of : Result Bool SessionFault → Status
status_of (Ok false) = status.Done
status_of (Ok true) = status.Refused
status_of (Err ReadFault) = status.ReadFault
status_of (Err WriteFault) = status.WriteFault
status_of (Err (Memory _)) = status.Memory
