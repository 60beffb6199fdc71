-- The order of pairs.
use Rattle.std.specs.declared.cmp.Ordering.{Ordering}
use Rattle.std.specs.Ordering.{ordering_then, nat_cmp}
use Rattle.kc_graph.specs.Shape.{Pair}

-- the order of pairs, by the first and then the second vertex
abbrev pub pair_cmp : Pair → Pair → Ordering
pair_cmp e f = ordering_then (nat_cmp e.0 f.0) (nat_cmp e.1 f.1)
