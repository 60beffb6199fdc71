-- Colourings by an orientation.
use Rattle.std.specs.Prelude.{ℕ, ◌≡◌, ◌≢◌, ◌<◌, true, List, [], length, get_or}
use Rattle.kc_graph.specs.Numbers.{has_number}

-- k is the least number that no vertex of the list has for its colour
pub record IsLeastFree (vertices colours : List ℕ) (k : ℕ) : Type 0 where
  pub free : (w : ℕ) → has_number w vertices ≡ true → get_or colours w 0 ≢ k
  pub taken : (j : ℕ) → j < k → (w : ℕ) × (has_number w vertices ≡ true) × (get_or colours w 0 ≡ j)

-- each vertex has the least number that none of its out-neighbours has
pub record IsColouring (outs : List (List ℕ)) (colours : List ℕ) : Type 0 where
  pub sized : length colours ≡ length outs
  pub least : (v : ℕ) → v < length outs → IsLeastFree (get_or outs v []) colours (get_or colours v 0)
