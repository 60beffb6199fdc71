-- The lines of the text of `dense`.
use Rattle.std.specs.Prelude.{ℕ, List, [], ◌∷◌, ◌++◌, decimal, codes}
use Rattle.kc_text.specs.Printing.{printed_line}
use Rattle.kc_report.specs.Lines.{vertices_line}

abbrev pub dense_magic_line : List ℕ
dense_magic_line = printed_line (codes "kcore-dense" ∷ codes "1" ∷ [])

-- the first two lines
abbrev pub dense_head_text : ℕ → List ℕ
dense_head_text n = dense_magic_line ++ vertices_line n

-- the number of members, and the number of edges between them
abbrev pub size_line : ℕ → ℕ → List ℕ
size_line size edges = printed_line (codes "size" ∷ decimal size ∷ codes "edges" ∷ decimal edges ∷ [])

abbrev pub member_line : ℕ → List ℕ
member_line v = printed_line (codes "member" ∷ decimal v ∷ [])
