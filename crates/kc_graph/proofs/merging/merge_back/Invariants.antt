use Rattle.std.proofs.Common.{◌+◌, take}
use Rattle.kc_graph.specs.private.HalfLists.{halves_of}
use Rattle.kc_graph.proofs.MergeLemmas.{IsMerging}
use Rattle.kc_graph.proofs.merging.merge_back.Given as goal

abbrev pub invariant-loop-j : goal.invariant-loop-j
invariant-loop-j l = IsMerging (take l.old l.initial.items) (halves_of l.incoming) l.items l.i l.j l.at

abbrev pub decreases-loop-j : goal.decreases-loop-j
decreases-loop-j l = l.j

abbrev pub invariant-loop-i : goal.invariant-loop-i
invariant-loop-i l = IsMerging (take l.fn.old l.fn.items) (halves_of l.incoming) l.items l.i (l.j + 1) l.at

abbrev pub decreases-loop-i : goal.decreases-loop-i
decreases-loop-i l = l.i
