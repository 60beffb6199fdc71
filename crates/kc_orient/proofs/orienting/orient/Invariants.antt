use Rattle.kc_orient.proofs.Filling.{IsFilling}
use Rattle.kc_orient.proofs.orienting.orient.Given as goal

abbrev pub invariant-loop-v : goal.invariant-loop-v
invariant-loop-v l = IsFilling l.graph l.levels l.v l.starts.items l.heads.items
