-- The meaning of a scanner's fields.
use Rattle.std.specs.Prelude.{◌+◌, ◌≡◌, ◌≤◌, ◌^◌, true, [], length}
use Rattle.kc_text.specs.declared.scanner.Scanner.TheInside.{Inside}
use Rattle.kc_text.specs.Scanning.{Scan}

-- the scan for which the fields stand
abbrev pub scan_of : Inside → Scan
scan_of r = record { limit = r.line.limit; number = r.line.number; room = r.room; piece = r.line.piece; ready = r.window; ended = r.ended }

-- the facts that hold of the fields
pub record IsSound (r : Inside) : Type 0 where
  pub limit : r.line.limit ≤ 2 ^ 30
  pub number : r.line.number + (r.room + length r.line.piece) ≤ 2 ^ 30 + 1
  pub ended : r.ended ≡ true → r.window ≡ []
