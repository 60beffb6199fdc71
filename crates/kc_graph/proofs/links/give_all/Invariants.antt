use Rattle.std.proofs.Common.{length}
use Rattle.kc_graph.specs.private.HalfLists.{halves_of}
use Rattle.kc_graph.proofs.HalfLemmas.{IsGiving}
use Rattle.kc_graph.proofs.links.give_all.Given as goal

abbrev pub invariant-loop-run : goal.invariant-loop-run
invariant-loop-run l = IsGiving l.first l.fn.rows l.rows (halves_of l.rest) (halves_of l.halves)

abbrev pub decreases-loop-run : goal.decreases-loop-run
decreases-loop-run l = length (halves_of l.rest)
