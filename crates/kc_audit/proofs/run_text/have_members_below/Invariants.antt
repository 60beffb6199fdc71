use Rattle.std.specs.Prelude.{All}
use Rattle.std.proofs.Common.{take}
use Rattle.kc_audit.specs.Runs.{AreBelow}
use Rattle.kc_audit.proofs.run_text.have_members_below.Given as goal

abbrev pub invariant-loop-i : goal.invariant-loop-i
invariant-loop-i l = All (λ line. AreBelow l.n line.members) (take l.i l.groups)
