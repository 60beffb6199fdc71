use Rattle.std.proofs.Common.{◌≡◌, take}
use Rattle.kserve.specs.private.Clients.{ended_client}
use Rattle.kserve.proofs.clients.submit_script.Given as goal

abbrev pub invariant-loop-i : goal.invariant-loop-i
invariant-loop-i g l = l.client ≡ ended_client l.intake l.number (take l.i l.items)
