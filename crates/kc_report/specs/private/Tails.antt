-- The lines of all vertices, as they are put together.
use Rattle.std.specs.Prelude.{ℕ, ◌≡◌, ◌<◌, List, ◌++◌, length, slice_index}
use Rattle.kc_report.specs.declared.level_tail.Tail.{Tail}
use Rattle.kc_report.specs.VertexLines.{vertex_lines, vertex_text, AreLevels, GivesCounts}
use Rattle.kc_report.specs.private.LevelWords.{AreLevelWords, AreShort}

-- the line of each vertex
abbrev pub line_of : {F : Type 0} → Tail F → ℕ → List ℕ
line_of t = vertex_text t.th.now.profile t.graph.now t.levels.now

-- the number of vertices
abbrev pub count_of : {F : Type 0} → Tail F → ℕ
count_of t = t.graph.now.vertices

-- the lines of all vertices may be asked for: `pre` says at which vertices counts are given, and `post` what these are
pub record IsReady {F : Type 0} (pre : F → ℕ → Type 0) (post : F → ℕ → ℕ × ℕ → Type 0) (t : Tail F) : Type 0 where
  pub levels : AreLevels t.th.now t.graph.now t.levels.now
  pub callable : (v : ℕ) → v < t.graph.now.vertices → pre t.counts.now v
  pub counts : GivesCounts (post t.counts.now) t.graph.now t.levels.now

-- each level of the vertices has its words, and these are short
pub record HaveWords {F : Type 0} (t : Tail F) (words : List (List ℕ)) : Type 0 where
  pub composed : AreLevelWords t.th.now.profile t.th.now.vertices words
  pub short : AreShort words
  pub enough : (v : ℕ) → v < length t.levels.now → slice_index t.levels.now v < length words

-- the text has the lines of the vertices from `first` to the one before `end`
abbrev pub AreLinesOf : (ℕ → List ℕ) → ℕ → ℕ → List ℕ → Type 0
AreLinesOf line first end text = vertex_lines line end ≡ vertex_lines line first ++ text
