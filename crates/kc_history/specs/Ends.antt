-- The end of a history for one vertex and for one label. `Points` has it for the whole graph.
use Rattle.std.specs.Prelude.{ℕ, List, [], ◌∷◌, Option, Some, None, nat_eq, if◌then◌else◌}
use Rattle.kc_levels.specs.declared.moves.Move.{Move}

-- the first if there is one, else the second
abbrev pub or_else : Option Move → Option Move → Option Move
or_else (Some m) other = Some m
or_else None other = other

-- the last move of a vertex
abbrev pub last_move : ℕ → List Move → Option Move
last_move v [] = None
last_move v (m ∷ ms) = or_else (last_move v ms) (if nat_eq m.vertex v then Some m else None)
