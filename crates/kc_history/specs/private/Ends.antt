-- At the end of a history: the level of a vertex, the phase of a label, and the number of phases.
use Rattle.std.specs.Prelude.{ℕ, ◌+◌, Bool, false, List, [], ◌∷◌, Option, Some, None, nat_eq, if◌then◌else◌}
use Rattle.kc_levels.specs.declared.moves.Move.{Move}
use Rattle.kc_history.specs.declared.entries.Entry.{Entry}
use Rattle.kc_history.specs.Ends.{last_move}

-- the level of a vertex after its last move, or `before` if it has none
abbrev pub level_after : ℕ → Option Move → ℕ
level_after before None = before
level_after before (Some m) = m.new

-- the level of a vertex at the end of a history that it began on `before`
abbrev pub level_of : ℕ → List Entry → ℕ → ℕ
level_of before [] v = before
level_of before (e ∷ es) v = level_of (level_after before (last_move v e.moves)) es v

-- whether an entry's label is g
abbrev pub is_label : ℕ → Option ℕ → Bool
is_label g None = false
is_label g (Some h) = nat_eq g h

-- the phase of the last entry with the label g, or `before` if there is none
abbrev pub stamp_of : ℕ → List Entry → ℕ → ℕ
stamp_of before [] g = before
stamp_of before (e ∷ es) g = stamp_of (if is_label g e.label then e.phase else before) es g

-- 1 for an entry without a label, which begins a phase
abbrev pub begins_phase : Option ℕ → ℕ
begins_phase None = 1
begins_phase (Some g) = 0

-- the number of phases of a history: of its entries without a label
abbrev pub phases_in : List Entry → ℕ
phases_in [] = 0
phases_in (e ∷ es) = begins_phase e.label + phases_in es
