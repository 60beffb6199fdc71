-- The lines left, if the source tells its bytes.
use Rattle.std.specs.Prelude.{ℕ, List, Option}
use Rattle.std.specs.Option.{option_map}
use Rattle.kc_text.specs.declared.line.Line.{Line}
use Rattle.kc_text.specs.Scanning.{Scan, scan_lines}

-- the lines still to give, if the source tells the bytes left
unfoldable pub scan_lines_left : Scan → Option (List ℕ) → Option (List Line)
scan_lines_left r left = option_map (scan_lines r) left
