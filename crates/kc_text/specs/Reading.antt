-- The contents of a line reader, and the lines that it has still to give.
use Rattle.std.specs.Prelude.{ℕ, ◌+◌, ◌^◌, ◌≤◌, Bool, ◌||◌, List, [], ◌∷◌, Option, Some, None, is_some}
use Rattle.std.specs.Option.{option_map}
use Rattle.kc_text.specs.declared.line.Line.{Line}
use Rattle.kc_text.specs.declared.line.LastLine.{LastLine}
use Rattle.kc_text.specs.declared.line.LastLine.TheVariants.{AtLimit, AtEnd}
use Rattle.kc_text.specs.declared.line.Body.TheVariants.{Limit, End}
use Rattle.kc_text.specs.Scanning.{Scan, scan_lines, scan_budget, is_scan_decided}
pub use Rattle.kc_text.specs.Following.{behind, onto, IsLast, Takes}

-- the contents of a line reader
pub record Reading : Type 0 where
  -- what was read from the source and not yet given
  pub scan : Scan
  -- a last line that was put back and then given; each later call gives it again
  pub last : Option LastLine
  -- the line that was put back and not yet given
  pub held : Option Line

-- a last line as a line
abbrev pub line_of_last : LastLine → Line
line_of_last (AtLimit n) = record { number = n; body = Limit }
line_of_last (AtEnd n) = record { number = n; body = End }

-- the lines to come, if a last line is repeated
abbrev pub last_on : Option LastLine → List Line → List Line
last_on None rest = rest
last_on (Some last) rest = line_of_last last ∷ []

-- the lines to come, if a line is held back
abbrev pub held_on : Option Line → List Line → List Line
held_on None rest = rest
held_on (Some line) rest = onto line rest

-- the lines still to give, if bs is left in the source
unfoldable pub lines_of_rest : Reading → List ℕ → List Line
lines_of_rest r bs = held_on r.held (last_on r.last (scan_lines r.scan bs))

-- the lines still to give, if the source tells the bytes left
unfoldable pub lines_left : Reading → Option (List ℕ) → Option (List Line)
lines_left r left = option_map (lines_of_rest r) left

-- the next line is the same for all bytes left in the source: it is held back, or repeated, or was read
abbrev pub is_decided : Reading → Bool
is_decided r = is_some r.held || (is_some r.last || is_scan_decided r.scan)

-- a line that is held back counts as one byte
abbrev pub held_budget : Option Line → ℕ
held_budget None = 0
held_budget (Some _) = 1

-- the bytes that lines can still be made of: the measure of a loop over lines
abbrev pub budget : Reading → ℕ
budget r = scan_budget r.scan + held_budget r.held

-- the facts that hold of each reader: an input has at most 2^30 bytes, and one line may be held back
pub record IsReading (r : Reading) : Type 0 where
  pub scan : scan_budget r.scan ≤ 2 ^ 30
  pub whole : budget r ≤ 2 ^ 30 + 1
