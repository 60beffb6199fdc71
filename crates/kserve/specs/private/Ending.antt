-- For private contracts: the status of a call after its text was written.
use Rattle.std.specs.Prelude.{Result, Ok, Err}
use Rattle.kc_text.specs.declared.buf.SendFault.{SendFault}
use Rattle.kc_text.specs.declared.buf.SendFault.TheVariants as send
use Rattle.kc_shell.specs.declared.status.Status.{Status}
use Rattle.kc_shell.specs.declared.status.Status.TheVariants.{WriteFault, Memory}

-- the status of a complete call, unless a fault of the sink or of memory came before its text was whole
abbrev pub status_after : {T : Type 0} → Status → Result T SendFault → Status
status_after complete (Ok _) = complete
status_after complete (Err send.WriteFault) = WriteFault
status_after complete (Err (send.Memory _)) = Memory
