-- The vertices that fell in a phase.
use Rattle.std.specs.Prelude.{ℕ, ◌≤◌, ◌<◌, ◌≡◌, List, length, get_or, set}
use Rattle.kc_graph.specs.Numbers.{has_number}
use Rattle.kc_levels.specs.Moved.{is_moved}
use Rattle.kc_levels.specs.Following.{AreDistinct}

-- the vertices are those on another level in y than in x, each once
pub record AreFallen (x y vertices : List ℕ) : Type 0 where
  pub listed : (v : ℕ) → has_number v vertices ≡ is_moved x y v
  pub once : AreDistinct vertices

-- the fall of v from a level was noted: vertices that had fallen before it are `old`, and those after it are `new`
abbrev pub NotesFall : List ℕ → ℕ → ℕ → List ℕ → List ℕ → Type 0
NotesFall x v from old new = (y : List ℕ) (to : ℕ) → AreFallen x y old → v < length y → from ≡ get_or y v 0 → from ≤ get_or x v 0 → to < from → AreFallen x (set y v to) new
