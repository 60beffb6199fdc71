-- The lines of the vertices of a graph.
use Rattle.std.specs.Prelude.{ℕ, zero, suc, ◌≡◌, ◌<◌, ◌-◌, List, [], ◌++◌, length, get_or}
use Rattle.kc_graph.specs.Shape.{GraphShape}
use Rattle.kc_levels.specs.declared.profile.Profile.{Profile}
use Rattle.kc_levels.specs.declared.thresholds.Estimate.{Estimate}
use Rattle.kc_levels.specs.Thresholds.{Scale, est, lo, high, group_of}
use Rattle.kc_levels.specs.LevelList.{at_least, IsCapped}
use Rattle.kc_report.specs.Lines.{vertex_line, end_line}

-- the lines of the vertices below k; `line` gives the line of each vertex
unfoldable pub vertex_lines : (ℕ → List ℕ) → ℕ → List ℕ
vertex_lines line zero = []
vertex_lines line (suc k) = vertex_lines line k ++ line k

-- what a level says of the coreness in a graph with n vertices
abbrev pub estimate_of : Profile → ℕ → ℕ → Estimate
estimate_of p n level = let j = group_of p n level in record { est = est p j; lo = lo p j; hi = high p j }

-- the line of vertex v of a graph with levels of a profile
--
-- The line has the level, the estimate and the bounds of the coreness. Then two counts of neighbours follow: on the
-- level or above, and on the level below or above. On level 0 both count all neighbours.
abbrev pub vertex_text : Profile → GraphShape → List ℕ → ℕ → List ℕ
vertex_text p g x v =
    let level = get_or x v 0 in
    vertex_line v level (estimate_of p g.vertices level) (at_least g x v level) (at_least g x v (level - 1))

-- the end of a text: the lines of all vertices, and the last line
abbrev pub tail_text : Profile → GraphShape → List ℕ → List ℕ
tail_text p g x = vertex_lines (vertex_text p g x) g.vertices ++ end_line

-- these are the two counts of neighbours that the line of vertex v has
abbrev pub AreCounts : GraphShape → List ℕ → ℕ → ℕ × ℕ → Type 0
AreCounts g x v c = let level = get_or x v 0 in (c.0 ≡ at_least g x v level) × (c.1 ≡ at_least g x v (level - 1))

-- each call gives the counts of its vertex; `post` says what a call may give
abbrev pub GivesCounts : (ℕ → ℕ × ℕ → Type 0) → GraphShape → List ℕ → Type 0
GivesCounts post g x = (v : ℕ) (c : ℕ × ℕ) → v < g.vertices → post v c → AreCounts g x v c

-- there is a level for each vertex of a graph, at most the top of the graph's thresholds
abbrev pub AreLevels : Scale → GraphShape → List ℕ → Type 0
AreLevels th g x = (th.vertices ≡ g.vertices) × (length x ≡ g.vertices) × IsCapped th.profile th.vertices x
