-- The causes of a step that only writes.
use Rattle.std.specs.Prelude.{ℕ, ◌≡◌, Result, Ok, Err}
use Rattle.kc_text.specs.Causes.{Rose}
use Rattle.kc_session.specs.declared.fault.SessionFault.{SessionFault}
use Rattle.kc_session.specs.declared.fault.SessionFault.TheVariants.{ReadFault, WriteFault, Memory}

-- the cause of a fault of a session, if only a write or the memory can stop it
abbrev pub StepCause : {T : Type 0} → ℕ → ℕ → Result T SessionFault → Type 0
StepCause w0 w1 (Ok _) = w1 ≡ w0
StepCause w0 w1 (Err ReadFault) = ⊥
StepCause w0 w1 (Err WriteFault) = Rose w0 w1
StepCause w0 w1 (Err (Memory _)) = w1 ≡ w0
