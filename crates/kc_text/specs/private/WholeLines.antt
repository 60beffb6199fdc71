-- Lines that lie whole among bytes that were read.
use Rattle.std.specs.Prelude.{ℕ, ◌≡◌, List, take}
use Rattle.kc_text.specs.Scanning.{Scan}
use Rattle.kc_text.specs.WholeLines.{IsWhole}
pub use Rattle.kc_text.specs.WholeLines.{EndsAt}

-- these bytes show the next line of the scanner
--
-- The next line lies whole among what was read exactly if it lies whole among these bytes, and has the same text.
pub record Lends (bytes : List ℕ) (r : Scan) : Type 0 where
  pub whole : (len : ℕ) → EndsAt bytes len → IsWhole len r
  pub ends : (len : ℕ) → IsWhole len r → EndsAt bytes len
  pub text : (len : ℕ) → EndsAt bytes len → take len bytes ≡ take len r.ready
