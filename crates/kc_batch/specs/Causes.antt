-- The causes of faults: the counts of faults of the source and of a sink before a call and after it.
use Rattle.std.specs.Prelude.{ℕ, ◌≡◌, Result, Ok, Err}
use Rattle.kc_text.specs.Causes.{Rose}
use Rattle.kc_text.specs.declared.line.LineFault.{LineFault}
use Rattle.kc_text.specs.declared.line.LineFault.TheVariants as line
use Rattle.kc_batch.specs.declared.header.HeaderFault.{HeaderFault}
use Rattle.kc_batch.specs.declared.header.HeaderFault.TheVariants as header
use Rattle.kc_batch.specs.declared.await_fault.AwaitFault.{AwaitFault}
use Rattle.kc_batch.specs.declared.await_fault.AwaitFault.TheVariants as await
use Rattle.kc_batch.specs.declared.batch.BatchFault.{BatchFault}
use Rattle.kc_batch.specs.declared.batch.BatchFault.TheVariants as batch

-- the fault of a header for the fault of a line
abbrev pub header_fault_of : LineFault → HeaderFault
header_fault_of line.ReadFault = header.ReadFault
header_fault_of (line.Memory e) = header.Memory e

-- a read fault comes only if the count rose, and otherwise the count stays
abbrev pub HeaderCause : {T : Type 0} → ℕ → ℕ → Result T HeaderFault → Type 0
HeaderCause before now (Err header.ReadFault) = Rose before now
HeaderCause before now (Err (header.Refused _)) = now ≡ before
HeaderCause before now (Err (header.Memory _)) = now ≡ before
HeaderCause before now (Ok _) = now ≡ before

-- the same for a batch
abbrev pub BatchCause : {T : Type 0} → ℕ → ℕ → Result T BatchFault → Type 0
BatchCause before now (Err batch.ReadFault) = Rose before now
BatchCause before now (Err (batch.Memory _)) = now ≡ before
BatchCause before now (Ok _) = now ≡ before

-- a fault of a wait for a batch has a cause, for the counts of faults r of the source and w of the sink
--
-- A fault is answered only if the count of its object rose, and every other count is as it was.
abbrev pub AwaitCause : {T : Type 0} → ℕ → ℕ → ℕ → ℕ → Result T AwaitFault → Type 0
AwaitCause r0 r1 w0 w1 (Err await.ReadFault) = Rose r0 r1 × (w1 ≡ w0)
AwaitCause r0 r1 w0 w1 (Err await.WriteFault) = (r1 ≡ r0) × Rose w0 w1
AwaitCause r0 r1 w0 w1 (Err (await.Memory _)) = (r1 ≡ r0) × (w1 ≡ w0)
AwaitCause r0 r1 w0 w1 (Ok _) = (r1 ≡ r0) × (w1 ≡ w0)
