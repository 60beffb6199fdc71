-- The line that a scanner has open.
use Rattle.std.specs.Prelude.{ℕ, ◌+◌, ◌≡◌, ◌≤◌, List, ◌++◌, length, if◌then◌else◌, replicate, nat_le}

-- the most bytes of a line, the number of the open line, and the bytes that were taken of it
--
-- If more than `limit` bytes were taken, only their number counts.
pub record Open : Type 0 where
  pub limit : ℕ
  pub number : ℕ
  pub piece : List ℕ

-- the bytes that were taken: the kept ones, or as many zeros if they are too many to be kept
abbrev pub piece_of : ℕ → ℕ → List ℕ → List ℕ
piece_of limit taken part = if nat_le taken limit then part else replicate taken 0

-- the open line after more bytes of it were taken
pub record Grows (old : Open) (more : List ℕ) (new : Open) : Type 0 where
  pub limit : new.limit ≡ old.limit
  pub number : new.number ≡ old.number
  pub long : length new.piece ≡ length old.piece + length more
  pub same : length new.piece ≤ old.limit → new.piece ≡ old.piece ++ more
