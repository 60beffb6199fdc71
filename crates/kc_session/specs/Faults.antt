-- The causes for which a session stops before its end.
use Rattle.std.specs.Prelude.{ℕ, ◌≡◌, Result, Ok, Err}
use Rattle.kc_text.specs.declared.buf.SendFault.{SendFault}
use Rattle.kc_text.specs.declared.buf.SendFault.TheVariants as send
use Rattle.kc_text.specs.Causes.{Rose}
use Rattle.kc_batch.specs.declared.await_fault.AwaitFault.{AwaitFault}
use Rattle.kc_batch.specs.declared.await_fault.AwaitFault.TheVariants as await
use Rattle.kc_session.specs.declared.fault.SessionFault.{SessionFault}
use Rattle.kc_session.specs.declared.fault.SessionFault.TheVariants.{ReadFault, WriteFault, Memory}

abbrev pub fault_of_await : AwaitFault → SessionFault
fault_of_await await.ReadFault = ReadFault
fault_of_await await.WriteFault = WriteFault
fault_of_await (await.Memory e) = Memory e

abbrev pub fault_of_send : SendFault → SessionFault
fault_of_send send.WriteFault = WriteFault
fault_of_send (send.Memory e) = Memory e

-- a fault of a session has a cause, for the counts of faults r of the source and w of the sink
--
-- A fault stops a session only if the count of its object rose, and every other count is as it was.
abbrev pub FaultCause : {T : Type 0} → ℕ → ℕ → ℕ → ℕ → Result T SessionFault → Type 0
FaultCause r0 r1 w0 w1 (Ok _) = (r1 ≡ r0) × (w1 ≡ w0)
FaultCause r0 r1 w0 w1 (Err ReadFault) = Rose r0 r1 × (w1 ≡ w0)
FaultCause r0 r1 w0 w1 (Err WriteFault) = (r1 ≡ r0) × Rose w0 w1
FaultCause r0 r1 w0 w1 (Err (Memory _)) = (r1 ≡ r0) × (w1 ≡ w0)
