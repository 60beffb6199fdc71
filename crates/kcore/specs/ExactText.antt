-- The text of `exact` for an input.
use Rattle.std.specs.Prelude.{ℕ, ◌≡◌, Bool, List, ◌++◌, get_or}
use Rattle.kc_levels.specs.declared.thresholds.Estimate.{Estimate}
use Rattle.kc_batch.specs.BatchInputs.{BatchInput}
use Rattle.kc_report.specs.Lines.{exact_head_text, coreness_line, end_line}
use Rattle.kc_report.specs.VertexLines.{estimate_of, vertex_lines}
use Rattle.kc_engine.specs.States.{State}
use Rattle.kcore.specs.Corenesses.{AreCorenesses}
use Rattle.kcore.specs.InputTexts.{IsTextOf}
use Rattle.kcore.specs.Documents.{EndsInDocument}

-- the printed numbers of vertex v in a state: the bounds and the estimate of its level
abbrev pub printed_of : State → ℕ → Estimate
printed_of s v = estimate_of s.profile s.graph.vertices (get_or s.levels v 0)

-- the line of vertex v: its coreness, and the bounds and the estimate of its level
abbrev pub exact_vertex_text : State → List ℕ → ℕ → List ℕ
exact_vertex_text s corenesses v = coreness_line v (get_or corenesses v 0) (printed_of s v)

-- the exact text of a state with these corenesses
abbrev pub exact_text : State → List ℕ → List ℕ
exact_text s corenesses = exact_head_text s.graph.vertices ++ (vertex_lines (exact_vertex_text s corenesses) s.graph.vertices ++ end_line)

-- the exact text of a state: its corenesses are those of the graph
pub record IsExact (s : State) (text : List ℕ) : Type 0 where
  pub corenesses : List ℕ
  pub are_corenesses : AreCorenesses s.graph corenesses
  pub text_is : text ≡ exact_text s corenesses

-- the text of an input, and whether the input, or a part of it, is refused
--
-- It has a note of each refused batch, and then the exact text of the graph and the levels after the last batch.
abbrev pub IsExactText : BatchInput → List ℕ → Bool → Type 0
IsExactText = IsTextOf (EndsInDocument IsExact)
