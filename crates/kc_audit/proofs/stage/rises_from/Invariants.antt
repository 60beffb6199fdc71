use Rattle.std.proofs.Common.{◌≡◌, drop}
use Rattle.kc_audit.specs.Documents.{rises_from}
use Rattle.kc_audit.proofs.stage.rises_from.Given as goal

abbrev pub invariant-loop-member : goal.invariant-loop-member
invariant-loop-member l = rises_from l.low l.members ≡ rises_from l.least (drop l.member-index l.members)
