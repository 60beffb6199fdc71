-- How an `Orientation` keeps its lists: one after another, with the place where each begins.
use Rattle.std.specs.Prelude.{ℕ, ◌+◌, ◌≡◌, ◌≤◌, ◌<◌, List, length, map, get_or}
use Rattle.std.specs.List.{range_with_len, slice_range}
use Rattle.kc_orient.specs.Shape.{OrientationShape, IsOriented}

-- the list of v
abbrev pub list_at : List ℕ → List ℕ → ℕ → List ℕ
list_at starts heads v = slice_range heads (get_or starts v 0) (get_or starts (v + 1) 0)

-- what contracts see of levels and lists
abbrev pub shape_of : List ℕ → List ℕ → List ℕ → OrientationShape
shape_of levels starts heads = record { levels = levels; outs = map (list_at starts heads) (range_with_len 0 (length levels)) }

-- each list begins where the one before ends
pub record IsKept (levels starts heads : List ℕ) : Type 0 where
  pub sized : length starts ≡ length levels + 1
  pub rising : (v : ℕ) → v < length levels → get_or starts v 0 ≤ get_or starts (v + 1) 0
  pub within : (v : ℕ) → v < length levels → get_or starts (v + 1) 0 ≤ length heads
  pub oriented : IsOriented (shape_of levels starts heads)
