use Rattle.std.proofs.Common.{◌-◌, length}
use Rattle.kc_graph.specs.private.HalfLists.{halves_of}
use Rattle.kc_graph.proofs.MergeLemmas.{IsKeeping}
use Rattle.kc_graph.proofs.merging.keep_others.Given as goal

abbrev pub invariant-loop-j : goal.invariant-loop-j
invariant-loop-j l = IsKeeping l.initial.items (halves_of l.outgoing) l.items l.from l.j l.kept

abbrev pub invariant-loop-from : goal.invariant-loop-from
invariant-loop-from l = IsKeeping l.fn.items (halves_of l.outgoing) l.items l.from l.j l.kept

abbrev pub decreases-loop-from : goal.decreases-loop-from
decreases-loop-from l = length l.items - l.from
