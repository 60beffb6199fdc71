-- What ranges tell of vertices, and how it is cut.
use Rattle.std.specs.Prelude.{ℕ, ◌+◌, ◌≡◌, ◌<◌, ◌==◌, ◌++◌, ◌∷◌, cond, List, [], length, get_or, filter}
use Rattle.std.specs.List.{flat_map}
use Rattle.kc_insert.specs.Ranges.{range_of, Tell}

-- those of the list that are in the range
abbrev pub in_range : ℕ → ℕ → List ℕ → List ℕ
in_range width j xs = filter (λ v. range_of width v == j) xs

-- how often v is in the list
abbrev pub times : ℕ → List ℕ → ℕ
times v [] = 0
times v (u ∷ us) = cond (u == v) 1 0 + times v us

-- what the range hears of what all ranges told
abbrev pub heard_by : ℕ → List Tell → List ℕ
heard_by j told = flat_map (λ t. get_or t.lists j []) told

-- each range has its vertices of the list after those that it had
pub record AreDealt (width : ℕ) (xs : List ℕ) (old new : List (List ℕ)) : Type 0 where
  pub sized : length new ≡ length old
  pub each : (j : ℕ) → j < length old → get_or new j [] ≡ get_or old j [] ++ in_range width j xs

-- each range has its vertices of all that is told
pub record AreDealtAnew (width : ℕ) (old new : Tell) : Type 0 where
  pub sized : length new.lists ≡ length old.lists
  pub each : (j : ℕ) → j < length old.lists → get_or new.lists j [] ≡ in_range width j new.all
