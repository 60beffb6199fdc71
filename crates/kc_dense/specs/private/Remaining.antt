-- The degrees of the vertices among those that are left. A vertex that was taken has `TAKEN` in place of a degree.
use Rattle.std.specs.Prelude.{ℕ, ◌-◌, ◌≤◌, ◌≡◌, ◌==◌, nat_lt, Bool, true, not, ◌&&◌, cond, List, length, get_or}
use Rattle.kc_graph.specs.declared.limits.TheConstants.{MAX_VERTICES}
use Rattle.kc_graph.specs.Shape.{GraphShape}
use Rattle.kc_dense.specs.declared.remaining.TheConstants.{TAKEN}
use Rattle.kc_dense.specs.Sets.{degree_within}

-- whether u is left
abbrev pub is_left : List ℕ → ℕ → Bool
is_left degrees u = nat_lt (get_or degrees u TAKEN) TAKEN

-- a set of vertices without v
abbrev pub all_but : ℕ → (ℕ → Bool) → ℕ → Bool
all_but v s u = not (u == v) && s u

-- each vertex that is left has its degree among those left; the graph has at most `MAX_VERTICES` vertices
pub record AreRemaining (g : GraphShape) (degrees : List ℕ) : Type 0 where
  pub sized : length degrees ≡ g.vertices
  pub few : g.vertices ≤ MAX_VERTICES
  pub counts : (u : ℕ) → is_left degrees u ≡ true → get_or degrees u TAKEN ≡ degree_within g (is_left degrees) u

-- one less, unless the vertex was taken
abbrev pub lowered : ℕ → ℕ
lowered degree = cond (nat_lt degree TAKEN) (degree - 1) degree
