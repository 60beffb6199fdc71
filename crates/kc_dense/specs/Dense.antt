-- Peeling lists, the densest suffix of one, and how dense any set of vertices can be compared with it.
use Rattle.std.specs.Prelude.{ℕ, ◌*◌, ◌≤◌, ◌<◌, ◌≡◌, Bool, true, List, [], ◌∷◌, ◌++◌, length}
use Rattle.kc_graph.specs.Numbers.{has_number, RisesFrom}
use Rattle.kc_graph.specs.Shape.{GraphShape}
use Rattle.kc_dense.specs.Sets.{members_of, degree_within, edges_within, AreVertices}

-- v is in a set of vertices and has the least degree within it; of several such vertices it is the least
pub record IsNext (g : GraphShape) (s : ℕ → Bool) (v : ℕ) : Type 0 where
  pub holds : s v ≡ true
  pub least : (u : ℕ) → s u ≡ true → degree_within g s v ≤ degree_within g s u
  pub first : (u : ℕ) → s u ≡ true → degree_within g s u ≡ degree_within g s v → v ≤ u

-- each vertex of the list is the next of the vertices from it on
abbrev pub IsPeeled : GraphShape → List ℕ → Type 0
IsPeeled g [] = Unit {0}
IsPeeled g (v ∷ vs) = IsNext g (members_of (v ∷ vs)) v × IsPeeled g vs

-- a peeling list of the graph: it takes away all vertices, one after another
pub record IsPeelingList (g : GraphShape) (vs : List ℕ) : Type 0 where
  pub vertices : AreVertices g vs
  pub all : (v : ℕ) → v < g.vertices → has_number v vs ≡ true
  pub peeled : IsPeeled g vs

-- the list ends with the part, which is not empty
pub record IsSuffix (part xs : List ℕ) : Type 0 where
  pub front : List ℕ
  pub is : xs ≡ front ++ part
  pub some : 0 < length part

-- xs has at least as many edges per vertex as ys
abbrev pub IsAsDense : GraphShape → List ℕ → List ℕ → Type 0
IsAsDense g xs ys = edges_within g (members_of ys) * length xs ≤ edges_within g (members_of xs) * length ys

-- the densest suffix of a list; of several the longest
pub record IsDensestSuffix (g : GraphShape) (part xs : List ℕ) : Type 0 where
  pub suffix : IsSuffix part xs
  pub densest : (other : List ℕ) → IsSuffix other xs → IsAsDense g part other
  pub longest : (other : List ℕ) → IsSuffix other xs → IsAsDense g other part → length other ≤ length part

-- the dense part of the graph: the vertices of the densest suffix of its peeling list, ascending
pub record IsDensePart (g : GraphShape) (members : List ℕ) : Type 0 where
  pub order : List ℕ
  pub part : List ℕ
  pub peeling : IsPeelingList g order
  pub densest : IsDensestSuffix g part order
  pub ascending : RisesFrom 0 members
  pub same : (v : ℕ) → has_number v members ≡ has_number v part

-- no set of vertices of the graph has more than twice as many edges per vertex
abbrev pub IsHalfAsDenseAsAny : GraphShape → List ℕ → Type 0
IsHalfAsDenseAsAny g members =
    (others : List ℕ) → AreVertices g others →
    edges_within g (members_of others) * length members ≤ 2 * edges_within g (members_of members) * length others
