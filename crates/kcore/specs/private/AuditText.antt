-- The text of `audit`, if the source tells its bytes.
use Rattle.std.specs.Prelude.{ℕ, Bool, List, Option, Some, None, Result}
use Rattle.kc_session.specs.declared.fault.SessionFault.{SessionFault}
use Rattle.kcore.specs.private.Writing.{WritesText}
use Rattle.kcore.specs.AuditText.{IsAuditText}

-- the text of `audit` for these bytes, if the source tells them
abbrev pub WritesAudit : Option (List ℕ) → Option (List ℕ) → Option (List ℕ) → Result Bool SessionFault → Type 0
WritesAudit None before now result = Unit {0}
WritesAudit (Some bytes) before now result = WritesText (IsAuditText bytes) before now result
