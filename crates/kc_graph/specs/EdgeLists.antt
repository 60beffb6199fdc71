-- Lists of edges.
use Rattle.std.specs.Prelude.{List, [], ◌∷◌, Option, Some, None}
use Rattle.kc_graph.specs.Shape.{Pair}

-- the last edge of a list
abbrev pub last_edge : List Pair → Option Pair
last_edge [] = None
last_edge (e ∷ []) = Some e
last_edge (e ∷ f ∷ es) = last_edge (f ∷ es)
