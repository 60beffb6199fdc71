-- The text of `check`, if the source tells its bytes.
use Rattle.std.specs.Prelude.{ℕ, Bool, List, Option, Some, None, Result}
use Rattle.kc_session.specs.declared.fault.SessionFault.{SessionFault}
use Rattle.kcore.specs.private.Writing.{WritesText}
use Rattle.kcore.specs.CheckText.{IsCheckText}

-- the text of `check` for these bytes, if the source tells them
abbrev pub WritesCheck : Option (List ℕ) → Option (List ℕ) → Option (List ℕ) → Result Bool SessionFault → Type 0
WritesCheck None before now result = Unit {0}
WritesCheck (Some bytes) before now result = WritesText (IsCheckText bytes) before now result
