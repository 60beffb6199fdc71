-- Lists of edges that may come into a graph or leave it, one after another.
use Rattle.std.specs.Prelude.{◌≡◌, ◌<◌, false, true, List, [], ◌∷◌, length, All}
use Rattle.kc_graph.specs.declared.limits.TheConstants.{MAX_EDGES}
use Rattle.kc_graph.specs.Shape.{GraphShape, Pair, has_edge, with_edge, without_edge}

-- each edge may be inserted after those before it
abbrev pub CanAdd : GraphShape → List Pair → Type 0
CanAdd g [] = Unit {0}
CanAdd g (e ∷ es) = (e.1 < g.vertices) × (has_edge e g.edges ≡ false) × (length g.edges < MAX_EDGES) × CanAdd (with_edge g e) es

-- each edge may be removed after those before it
abbrev pub CanRemove : GraphShape → List Pair → Type 0
CanRemove g [] = Unit {0}
CanRemove g (e ∷ es) = (e.1 < g.vertices) × (has_edge e g.edges ≡ true) × CanRemove (without_edge g e) es

-- no edge of the list is in the graph
abbrev pub AllAbsent : GraphShape → List Pair → Type 0
AllAbsent g es = All (λ e. has_edge e g.edges ≡ false) es

-- each edge of the list is in the graph
abbrev pub AllPresent : GraphShape → List Pair → Type 0
AllPresent g es = All (λ e. has_edge e g.edges ≡ true) es
