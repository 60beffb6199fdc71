-- Levels that are copied at some places and spared at the others.
use Rattle.std.specs.Prelude.{ℕ, ◌≡◌, ◌⊎◌, List, length, get_or}

-- each number of `new` is that of `from`, or its place is spared and it is that of `old`
pub record IsCopied (from old new : List ℕ) (spared : ℕ → Type 0) : Type 0 where
  pub sized : length new ≡ length old
  pub each : (v : ℕ) → (get_or new v 0 ≡ get_or from v 0) ⊎ ((get_or new v 0 ≡ get_or old v 0) × spared v)
