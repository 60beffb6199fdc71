-- Why the server stops before its end, and when.
use Rattle.std.specs.Prelude.{ℕ, ◌≡◌, Result, Ok, Err}
use Rattle.kc_text.specs.declared.buf.SendFault.{SendFault}
use Rattle.kc_text.specs.Writing.{WriteCause}
use Rattle.kserve.specs.declared.fault.Stop.{Stop}
use Rattle.kserve.specs.declared.fault.Stop.TheVariants as stop

-- the fault for which a server stopped; none if an item strayed
abbrev pub IsFaultOf : Stop → SendFault → Type 0
IsFaultOf (stop.Fault f) fault = fault ≡ f
IsFaultOf stop.Stray fault = ⊥

-- the sink's count of faults: the server stops for a failed write only if it rose, and else it stays
abbrev pub StopCause : {T : Type 0} → ℕ → ℕ → Result T Stop → Type 0
StopCause before now (Ok _) = now ≡ before
StopCause {T = T} before now (Err (stop.Fault f)) = WriteCause {T = T} before now (Err f)
StopCause before now (Err stop.Stray) = now ≡ before

-- of one batch of a server that has gone on so far, or has stopped
abbrev pub GoesOnCause : {T : Type 0} → ℕ → ℕ → Result T Stop → Result T Stop → Type 0
GoesOnCause before now (Ok _) result = StopCause before now result
GoesOnCause before now (Err stop) result = now ≡ before
