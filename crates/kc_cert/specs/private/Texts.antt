-- The lines of the edges of one vertex.
use Rattle.std.specs.Prelude.{ℕ, List, map, filter, nat_lt}
use Rattle.kc_cert.specs.Texts.{edge_line}

-- the edges between v and those of these vertices that are greater
abbrev pub row_lines : ℕ → List ℕ → List (List (List ℕ))
row_lines v ws = map (λ w. edge_line (v, w)) (filter (λ w. nat_lt v w) ws)
