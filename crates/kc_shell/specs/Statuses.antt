-- The ways in which a call of a program ends: their causes, and the exit number of each.
use Rattle.std.specs.Prelude.{ℕ, ◌≡◌}
use Rattle.kc_text.specs.Causes.{Rose}
use Rattle.kc_shell.specs.declared.status.Status.{Status}
use Rattle.kc_shell.specs.declared.status.Status.TheVariants.{Done, Refused, Usage, ReadFault, WriteFault, Memory}

-- a fault has a cause, for the counts of faults r of the source and w of the sink
--
-- A fault is answered only if the count of its object rose, and every other count is as it was.
abbrev pub HasCause : ℕ → ℕ → ℕ → ℕ → Status → Type 0
HasCause r0 r1 w0 w1 ReadFault = Rose r0 r1 × (w1 ≡ w0)
HasCause r0 r1 w0 w1 WriteFault = (r1 ≡ r0) × Rose w0 w1
HasCause r0 r1 w0 w1 _ = (r1 ≡ r0) × (w1 ≡ w0)

-- the exit number of the program
abbrev pub exit_number : Status → ℕ
exit_number Done = 0
exit_number Refused = 1
exit_number Usage = 2
exit_number ReadFault = 3
exit_number WriteFault = 4
exit_number Memory = 5

-- the status after a failed flush of the output: a call that ran to its end has failed to write
abbrev pub unflushed : Status → Status
unflushed Done = WriteFault
unflushed Refused = WriteFault
unflushed status = status
