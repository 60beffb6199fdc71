-- Lists by level, with a mark for each 64 levels.
use Rattle.std.specs.Prelude.{ℕ, ◌*◌, ◌/◌, ◌<◌, ◌≤◌, ◌^◌, ◌≡◌, Bool, false, [], List, length, get_or}

-- each level has a mark; if the mark is false, the level has no items, and no level from `end` on has any
--
-- A level is below 2 ^ 16 - 1.
pub record AreMarked {T : Type 0} (lists : List (List T)) (marks : List Bool) (end : ℕ) : Type 0 where
  pub small : length lists < 2 ^ 16
  pub wide : length lists ≤ 64 * length marks
  pub bare : (k : ℕ) → get_or marks (k / 64) false ≡ false → get_or lists k [] ≡ []
  pub inside : end ≤ length lists
  pub done : (k : ℕ) → end ≤ k → get_or lists k [] ≡ []
