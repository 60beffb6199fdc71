-- Lists that follow others at some places.
use Rattle.std.specs.Prelude.{ℕ, ◌≡◌, false, List, [], ◌∷◌}
use Rattle.kc_graph.specs.Numbers.{has_number}

-- no number is in the list twice
abbrev pub AreDistinct : List ℕ → Type 0
AreDistinct [] = Unit {0}
AreDistinct (v ∷ vs) = (has_number v vs ≡ false) × AreDistinct vs
