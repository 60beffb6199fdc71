-- The contents of a scanner, and the lines that it has still to give.
use Rattle.std.specs.Prelude.{ℕ, ◌+◌, ◌==◌, nat_lt, Bool, List, [], ◌++◌, length, if◌then◌else◌, ◌||◌}
use Rattle.std.specs.List.{list_any}
use Rattle.kc_text.specs.declared.line.Line.{Line}
use Rattle.kc_text.specs.Lines.{lines_from}

-- the contents of a scanner
pub record Scan : Type 0 where
  -- the most bytes of a line
  pub limit : ℕ
  -- the number of the open line
  pub number : ℕ
  -- the number of bytes that may still join the open line, or later ones, before the input limit
  pub room : ℕ
  -- the bytes that joined the open line; if they are more than `limit`, only their number counts
  pub piece : List ℕ
  -- the bytes that were read after those
  pub ready : List ℕ
  -- the source has ended
  pub ended : Bool

-- the bytes after the open piece, if bs is left in the source
abbrev pub to_come : Scan → List ℕ → List ℕ
to_come r bs = r.ready ++ (if r.ended then [] else bs)

-- the lines still to give, if bs is left in the source
unfoldable pub scan_lines : Scan → List ℕ → List Line
scan_lines r bs = lines_from r.limit r.number r.room r.piece (to_come r bs)

-- what was read decides the next line
--
-- The source has ended, or a byte stands beyond the input limit, or a line feed was read.
abbrev pub is_scan_decided : Scan → Bool
is_scan_decided r = r.ended || (nat_lt r.room (length r.ready) || list_any (λ b. b == 10) r.ready)

-- the bytes that lines can still be made of: the measure of a loop over lines
abbrev pub scan_budget : Scan → ℕ
scan_budget r = r.room + length r.piece
