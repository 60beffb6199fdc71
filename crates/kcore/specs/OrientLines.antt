-- The lines of the text of `orient`.
use Rattle.std.specs.Prelude.{ℕ, List, [], ◌∷◌, ◌++◌, map, decimal, codes}
use Rattle.kc_text.specs.Printing.{printed_line}
use Rattle.kc_report.specs.Lines.{vertices_line}

abbrev pub orient_magic_line : List ℕ
orient_magic_line = printed_line (codes "kcore-orient" ∷ codes "1" ∷ [])

-- the two lines before the vertices
abbrev pub orient_head_text : ℕ → List ℕ
orient_head_text n = orient_magic_line ++ vertices_line n

-- a vertex: its colour, and its out-neighbours
abbrev pub oriented_line : ℕ → ℕ → List ℕ → List ℕ
oriented_line v colour out = printed_line (codes "vertex" ∷ decimal v ∷ codes "colour" ∷ decimal colour ∷ codes "out" ∷ map decimal out)
