use Rattle.kc_dense.proofs.WalkLemmas.{IsWalk}
use Rattle.kc_dense.proofs.peeling.peel.Given as goal

abbrev pub invariant-loop-first : goal.invariant-loop-first
invariant-loop-first l = IsWalk l.graph l.first l.first l.degrees l.order.items l.edges l.densest
