-- The text of `dense` for an input.
use Rattle.std.specs.Prelude.{ℕ, ◌≡◌, ◌≤◌, Bool, List, [], ◌++◌, length}
use Rattle.std.specs.List.{flat_map}
use Rattle.kc_graph.specs.Shape.{GraphShape}
use Rattle.kc_dense.specs.Sets.{members_of, edges_within}
use Rattle.kc_dense.specs.Dense.{IsDensePart}
use Rattle.kc_batch.specs.BatchInputs.{BatchInput}
use Rattle.kc_report.specs.Lines.{end_line}
use Rattle.kc_engine.specs.States.{State}
use Rattle.kcore.specs.InputTexts.{IsTextOf}
use Rattle.kcore.specs.Documents.{EndsInDocument}
use Rattle.kcore.specs.DenseLines.{dense_head_text, size_line, member_line}

-- the vertices of the dense part of a graph; a graph without vertices has none
pub record AreMembers (g : GraphShape) (members : List ℕ) : Type 0 where
  pub some : 1 ≤ g.vertices → IsDensePart g members
  pub none : g.vertices ≡ 0 → members ≡ []

-- the dense text of a graph with these members
abbrev pub dense_text : GraphShape → List ℕ → List ℕ
dense_text g members =
    dense_head_text g.vertices ++ (size_line (length members) (edges_within g (members_of members)) ++ (flat_map member_line members ++ end_line))

-- the dense text of a state: the members are those of its graph
pub record IsDense (s : State) (text : List ℕ) : Type 0 where
  pub members : List ℕ
  pub are_members : AreMembers s.graph members
  pub text_is : text ≡ dense_text s.graph members

-- the text of an input, and whether the input, or a part of it, is refused
--
-- It has a note of each refused batch, and then the dense text of the graph after the last batch.
abbrev pub IsDenseText : BatchInput → List ℕ → Bool → Type 0
IsDenseText = IsTextOf (EndsInDocument IsDense)
