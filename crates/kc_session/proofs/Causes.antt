-- The cause of a session's fault from that of a part of it.
use Rattle.std.proofs.Common.{ℕ, ◌≡◌, ◌∙◌, subst}
use Rattle.std.specs.Prelude.{Err}
use Rattle.kc_text.specs.declared.buf.SendFault.{SendFault}
use Rattle.kc_text.specs.declared.buf.SendFault.TheVariants as send
use Rattle.kc_text.specs.Causes.{Rose}
use Rattle.kc_text.specs.Writing.{WriteCause}
use Rattle.kc_batch.specs.declared.await_fault.AwaitFault.{AwaitFault}
use Rattle.kc_batch.specs.declared.await_fault.AwaitFault.TheVariants as await
use Rattle.kc_batch.specs.Causes.{AwaitCause}
use Rattle.kc_session.specs.declared.fault.SessionFault.{SessionFault}
use Rattle.kc_session.specs.declared.fault.SessionFault.TheVariants.{ReadFault, WriteFault, Memory}
use Rattle.kc_session.specs.Faults.{FaultCause, fault_of_send, fault_of_await}

-- a fault of a part is a fault of the whole
pub same_cause : (A B : Type 0) (r0 r1 w0 w1 : ℕ) (f y : SessionFault) → y ≡ f → FaultCause {T = A} r0 r1 w0 w1 (Err f) → FaultCause {T = B} r0 r1 w0 w1 (Err y)
same_cause A B r0 r1 w0 w1 ReadFault y e h = rw e h
same_cause A B r0 r1 w0 w1 WriteFault y e h = rw e h
same_cause A B r0 r1 w0 w1 (Memory a) y e h = rw e h

-- the counts of faults are unchanged before a write that fails, so the cause of its fault is that of the whole
pub sent_cause : (A B : Type 0) (r0 r1 w0 w1 w2 : ℕ) (f : SendFault) (y : SessionFault) → r1 ≡ r0 → w1 ≡ w0 → WriteCause {T = A} w1 w2 (Err f) → y ≡ fault_of_send f → FaultCause {T = B} r0 r1 w0 w2 (Err y)
sent_cause A B r0 r1 w0 w1 w2 send.WriteFault y source sink rose is = rw is (source, subst (λ (w : ℕ). Rose w w2) sink rose)
sent_cause A B r0 r1 w0 w1 w2 (send.Memory a) y source sink same is = rw is (source, same ∙ sink)

-- the counts of faults are unchanged before a wait for a batch, so the cause of its fault is that of the whole
pub awaited_cause : (A B : Type 0) (r0 r1 r2 w0 w1 w2 : ℕ) (f : AwaitFault) (y : SessionFault) → r1 ≡ r0 → w1 ≡ w0 → AwaitCause {T = A} r1 r2 w1 w2 (Err f) → y ≡ fault_of_await f → FaultCause {T = B} r0 r2 w0 w2 (Err y)
awaited_cause A B r0 r1 r2 w0 w1 w2 await.ReadFault y source sink cause is = rw is (subst (λ (r : ℕ). Rose r r2) source cause.0, cause.1 ∙ sink)
awaited_cause A B r0 r1 r2 w0 w1 w2 await.WriteFault y source sink cause is = rw is (cause.0 ∙ source, subst (λ (w : ℕ). Rose w w2) sink cause.1)
awaited_cause A B r0 r1 r2 w0 w1 w2 (await.Memory a) y source sink cause is = rw is (cause.0 ∙ source, cause.1 ∙ sink)
