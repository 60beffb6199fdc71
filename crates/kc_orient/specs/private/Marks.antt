-- Marks of which colours are taken.
use Rattle.std.specs.Prelude.{ℕ, ◌≡◌, ◌⊎◌, List, length, get_or}

-- some of the marks are the stamp now, and the others as before
pub record IsMarked (stamp : ℕ) (old new : List ℕ) : Type 0 where
  pub sized : length new ≡ length old
  pub each : (k : ℕ) → (get_or new k 0 ≡ get_or old k 0) ⊎ (get_or new k 0 ≡ stamp)
