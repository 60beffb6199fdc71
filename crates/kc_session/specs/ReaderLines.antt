-- The lines of the readers.
use Rattle.std.specs.Prelude.{ℕ, ◌+◌, List, [], ◌∷◌, ◌++◌}
use Rattle.kc_history.specs.declared.replies.Reply.{Reply}
use Rattle.kc_report.specs.Lines.{reader_line}

-- a line for the replies of each reader; the first has this number
abbrev pub reader_lines : ℕ → List (List Reply) → List ℕ
reader_lines number [] = []
reader_lines number (rs ∷ more) = reader_line number rs ++ reader_lines (number + 1) more
