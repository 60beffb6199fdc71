-- The beginning of a line's members in a flat list.
use Rattle.std.specs.Prelude.{ℕ, List, [], ◌∷◌, zero, suc}
use Rattle.kc_audit.specs.declared.flat.Head.{Head}

-- the place where the members of line i begin
abbrev pub start_of : ℕ → List Head → ℕ → ℕ
start_of from [] i = from
start_of from (h ∷ hs) zero = from
start_of from (h ∷ hs) (suc i) = start_of h.end hs i
