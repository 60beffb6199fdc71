-- Two lists of half-edges as one.
use Rattle.std.specs.Prelude.{List, ◌++◌}
use Rattle.kc_graph.specs.Shape.{Pair}
use Rattle.kc_graph.specs.declared.halves.Halves.{Halves}

-- the half-edges of both lists, one list after the other
abbrev pub halves_of : Halves → List Pair
halves_of h = h.below.now ++ h.above.now
