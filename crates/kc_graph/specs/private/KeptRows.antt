-- Rows after two vertices came into each other's row, or left it.
use Rattle.std.specs.Prelude.{ℕ, List, [], get_or, set}
use Rattle.kc_graph.specs.private.Numbers.{put, without}

-- the rows after a and b came into each other's row
abbrev pub rows_joined : List (List ℕ) → ℕ → ℕ → List (List ℕ)
rows_joined rows a b = set (set rows a (put b (get_or rows a []))) b (put a (get_or rows b []))

-- the rows after a and b left each other's row
abbrev pub rows_parted : List (List ℕ) → ℕ → ℕ → List (List ℕ)
rows_parted rows a b = set (set rows a (without b (get_or rows a []))) b (without a (get_or rows b []))
