-- A history and its points. A history is a list of entries that grows at its end.
use Rattle.std.specs.Prelude.{ℕ, cond, List, [], ◌∷◌, set, take, replicate}
use Rattle.kc_graph.specs.Shape.{GraphShape, with_edges, without_edges}
use Rattle.kc_levels.specs.declared.moves.Move.{Move}
use Rattle.kc_history.specs.declared.entries.Entry.{Entry}

-- the levels after the moves: each puts its vertex on its new level
abbrev pub with_moves : List ℕ → List Move → List ℕ
with_moves x [] = x
with_moves x (m ∷ ms) = with_moves (set x m.vertex m.new) ms

-- the graph after an entry: its edges came in, or left
abbrev pub with_entry : GraphShape → Entry → GraphShape
with_entry g e = cond e.add (with_edges g e.edges) (without_edges g e.edges)

-- the graph after entries, one after another
abbrev pub graph_after : GraphShape → List Entry → GraphShape
graph_after g [] = g
graph_after g (e ∷ es) = graph_after (with_entry g e) es

-- the levels after entries, one after another
abbrev pub levels_after : List ℕ → List Entry → List ℕ
levels_after x [] = x
levels_after x (e ∷ es) = levels_after (with_moves x e.moves) es

-- the graph at point p of a history over n vertices: what its first p entries make of the graph without edges
abbrev pub graph_at : ℕ → List Entry → ℕ → GraphShape
graph_at n history p = graph_after (record { vertices = n; edges = [] }) (take p history)

-- the levels at point p of a history over n vertices: what its first p entries make of level 0 everywhere
abbrev pub levels_at : ℕ → List Entry → ℕ → List ℕ
levels_at n history p = levels_after (replicate n 0) (take p history)
