-- Laws of the definitions; each is the contract of a function in `laws`.
use Rattle.std.specs.Prelude.{ℕ, ◌≤◌, ◌≡◌, List}
use Rattle.kc_graph.specs.Shape.{GraphShape, IsGraph}
use Rattle.kc_dense.specs.Dense.{IsPeelingList, IsDensePart, IsHalfAsDenseAsAny}

-- each graph has a peeling list
abbrev pub EachHasPeelingList : Type 0
EachHasPeelingList = (g : GraphShape) → (vs : List ℕ) × IsPeelingList g vs

-- a graph has no two peeling lists
abbrev pub PeelingListIsOne : Type 0
PeelingListIsOne = (g : GraphShape) (us vs : List ℕ) → IsPeelingList g us → IsPeelingList g vs → us ≡ vs

-- each graph with a vertex has a dense part
abbrev pub EachHasDensePart : Type 0
EachHasDensePart = (g : GraphShape) → 1 ≤ g.vertices → (members : List ℕ) × IsDensePart g members

-- a graph has no two dense parts
abbrev pub DensePartIsOne : Type 0
DensePartIsOne = (g : GraphShape) (xs ys : List ℕ) → IsDensePart g xs → IsDensePart g ys → xs ≡ ys

-- the dense part is at least half as dense as any set of vertices of the graph
abbrev pub DensePartIsHalfAsDense : Type 0
DensePartIsHalfAsDense = (g : GraphShape) (members : List ℕ) → IsGraph g → IsDensePart g members → IsHalfAsDenseAsAny g members
