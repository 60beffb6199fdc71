-- Counts that are made afresh, one after another.
use Rattle.std.specs.Prelude.{ℕ, ◌+◌, ◌-◌, ◌<◌, ◌≡◌, List, get_or}
use Rattle.kc_graph.specs.Shape.{GraphShape}
use Rattle.kc_levels.specs.LevelList.{at_least}

-- the first n counts are those of the vertices from `first` on, each from d levels below its own on
abbrev pub AreCounted : GraphShape → List ℕ → ℕ → ℕ → ℕ → List ℕ → Type 0
AreCounted g x d first n counts = (k : ℕ) → k < n → get_or counts k 0 ≡ at_least g x (first + k) (get_or x (first + k) 0 - d)
