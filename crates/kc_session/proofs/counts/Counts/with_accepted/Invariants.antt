use Rattle.std.proofs.Common.{◌≡◌, ◌+◌, take}
use Rattle.kc_session.specs.Counts.{capped, groups_of, moves_of}
use Rattle.kc_session.proofs.counts.Counts.with_accepted.Given as goal

abbrev pub invariant-loop-plan : goal.invariant-loop-plan
invariant-loop-plan l = record {
  groups : l.groups ≡ capped (l.fn.self.groups + groups_of (take l.plan-index l.phases));
  moves : l.moves ≡ capped (l.fn.self.moves + moves_of (take l.plan-index l.phases));
}
