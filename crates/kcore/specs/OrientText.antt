-- The text of `orient` for an input, and the facts that hold of it.
use Rattle.std.specs.Prelude.{ℕ, ◌≡◌, ◌≢◌, ◌≤◌, ◌<◌, ◌*◌, Bool, true, List, [], ◌++◌, length, get_or}
use Rattle.kc_graph.specs.Shape.{joined}
use Rattle.kc_levels.specs.declared.profile.Profile.{Profile}
use Rattle.kc_levels.specs.declared.profile.Profile.TheVariants.{Two}
use Rattle.kc_bound.specs.Cores.{IsCoreness}
use Rattle.kc_orient.specs.Shape.{OrientationShape, out_neighbours, orientation}
use Rattle.kc_orient.specs.Colouring.{IsColouring}
use Rattle.kc_batch.specs.BatchInputs.{BatchInput, WithBatches, HeaderRefused}
use Rattle.kc_report.specs.Lines.{end_line}
use Rattle.kc_report.specs.VertexLines.{vertex_lines}
use Rattle.kc_engine.specs.States.{State}
use Rattle.kc_session.specs.States.{start, Step, AreSteps, last_state}
use Rattle.kcore.specs.InputTexts.{IsTextOf}
use Rattle.kcore.specs.Documents.{EndsInDocument}
use Rattle.kcore.specs.OrientLines.{orient_head_text, oriented_line}

-- the line of vertex v: its colour, and its out-neighbours
abbrev pub oriented_vertex_text : OrientationShape → List ℕ → ℕ → List ℕ
oriented_vertex_text o colours v = oriented_line v (get_or colours v 0) (get_or o.outs v [])

-- the text of an orientation of n vertices with these colours
abbrev pub oriented_text : OrientationShape → List ℕ → ℕ → List ℕ
oriented_text o colours n = orient_head_text n ++ (vertex_lines (oriented_vertex_text o colours) n ++ end_line)

-- the oriented text of a state: its graph is oriented by its levels, and its colours are those of this orientation
pub record IsOrientedText (s : State) (text : List ℕ) : Type 0 where
  pub colours : List ℕ
  pub is_colouring : IsColouring (orientation s.graph s.levels).outs colours
  pub text_is : text ≡ oriented_text (orientation s.graph s.levels) colours s.graph.vertices

-- the text of an input, and whether the input, or a part of it, is refused
--
-- It has a note of each refused batch, and then the oriented text of the graph and the levels after the last batch.
abbrev pub IsOrientText : BatchInput → List ℕ → Bool → Type 0
IsOrientText = IsTextOf (EndsInDocument IsOrientedText)

-- the orientation of a state with this profile is sparse, and its colours are few
--
-- No vertex has more out-neighbours than six times its coreness, in the second profile than four times. The ends of an
-- edge have different colours, and no colour is above the number of its vertex's out-neighbours.
pub record IsSparse (p : Profile) (s : State) : Type 0 where
  pub profile : s.profile ≡ p
  pub few : (v c : ℕ) → IsCoreness s.graph v c → length (out_neighbours s.graph s.levels v) ≤ 6 * c
  pub fewer : p ≡ Two → (v c : ℕ) → IsCoreness s.graph v c → length (out_neighbours s.graph s.levels v) ≤ 4 * c
  pub proper : (colours : List ℕ) → IsColouring (orientation s.graph s.levels).outs colours → (v w : ℕ) → joined v w s.graph.edges ≡ true → get_or colours v 0 ≢ get_or colours w 0
  pub bounded : (colours : List ℕ) → IsColouring (orientation s.graph s.levels).outs colours → (v : ℕ) → v < s.graph.vertices → get_or colours v 0 ≤ length (out_neighbours s.graph s.levels v)

-- the facts of `IsSparse` hold in the last state of an input
abbrev pub OrientsSparsely : BatchInput → Type 0
OrientsSparsely (HeaderRefused line) = Unit {0}
OrientsSparsely (WithBatches header batches) =
    (steps : List Step) → AreSteps (start header.profile header.n) batches steps → IsSparse header.profile (last_state (start header.profile header.n) steps)
