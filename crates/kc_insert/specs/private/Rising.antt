-- Levels during a sweep. All rising vertices are on the level of the sweep.
use Rattle.std.specs.Prelude.{ℕ, ◌==◌, cond, Bool, List, [], ◌∷◌, get_or, set, map}
use Rattle.kc_insert.specs.declared.rising.RisingLevels.{RisingLevels}

-- v rises
unfoldable pub rises : RisingLevels → ℕ → Bool
rises s v = get_or s.stored v 0 == 65535

-- the level that stands in the list as k
abbrev pub level_of : ℕ → ℕ → ℕ
level_of level k = cond (k == 65535) level k

-- the levels
unfoldable pub seen : RisingLevels → List ℕ
seen s = map (level_of s.level) s.stored

-- the list with those of `risers` on the level k
abbrev pub all_at : List ℕ → List ℕ → ℕ → List ℕ
all_at y [] k = y
all_at y (v ∷ vs) k = all_at (set y v k) vs k
