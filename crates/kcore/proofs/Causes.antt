-- The cause of a run's fault from that of a write of its last lines.
use Rattle.std.proofs.Common.{ℕ, ◌≡◌, ◌∙◌, Bool, subst}
use Rattle.std.specs.Prelude.{Err}
use Rattle.kc_text.specs.declared.buf.SendFault.{SendFault}
use Rattle.kc_text.specs.declared.buf.SendFault.TheVariants.{WriteFault, Memory}
use Rattle.kc_text.specs.Causes.{Rose}
use Rattle.kc_text.specs.Writing.{WriteCause}
use Rattle.kc_session.specs.declared.fault.SessionFault.{SessionFault}
use Rattle.kc_session.specs.Faults.{FaultCause, fault_of_send}

-- the counts of faults are unchanged before a write that fails, so the cause of its fault is that of the run
pub sent_cause : (r0 r1 w0 w1 w2 : ℕ) (f : SendFault) (y : SessionFault) → r1 ≡ r0 → w1 ≡ w0 → WriteCause {T = Bool} w1 w2 (Err f) → y ≡ fault_of_send f → FaultCause {T = Bool} r0 r1 w0 w2 (Err y)
sent_cause r0 r1 w0 w1 w2 WriteFault y source sink rose is = rw is (source, subst (λ (w : ℕ). Rose w w2) sink rose)
sent_cause r0 r1 w0 w1 w2 (Memory a) y source sink same is = rw is (source, same ∙ sink)
