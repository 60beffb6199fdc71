-- One step of a scanner, for all bytes that the source may have left.
use Rattle.std.specs.Prelude.{ℕ, ◌+◌, ◌*◌, ◌≡◌, ◌≤◌, ◌==◌, true, false, List, [], length, if◌then◌else◌, ◌&&◌, not}
use Rattle.kc_text.specs.declared.line.Line.{Line}
use Rattle.kc_text.specs.Following.{onto, Takes, IsLast}
use Rattle.kc_text.specs.Scanning.{Scan, scan_lines, scan_budget, is_scan_decided}

-- the most steps that a call still takes
abbrev pub work : Scan → ℕ
work r = 2 * r.room + (if (length r.ready == 0) && not r.ended then 1 else 0)

-- the scanner gives this line
pub record Gives (line : Line) (old new : Scan) : Type 0 where
  pub lines : (bs : List ℕ) → scan_lines old bs ≡ onto line (scan_lines new bs)
  pub takes : Takes line.body (scan_budget old) (scan_budget new)
  pub last : IsLast line.body → new ≡ old
  pub settled : IsLast line.body → is_scan_decided new ≡ true

-- the scanner takes all ready bytes into the open line, and gives no line
pub record Absorbs (old new : Scan) : Type 0 where
  pub lines : (bs : List ℕ) → scan_lines old bs ≡ scan_lines new bs
  pub ready : new.ready ≡ []
  pub ended : new.ended ≡ false
  pub budget : scan_budget new ≡ scan_budget old
  pub work : work new ≤ work old
  pub open_before : is_scan_decided old ≡ false
