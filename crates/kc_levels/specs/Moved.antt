-- Which vertices have another level in one list than in another, and their moves.
use Rattle.std.specs.Prelude.{ℕ, ◌==◌, not, Bool, cond, List, [], ◌∷◌, ◌++◌, get_or, map}
use Rattle.std.proofs.Common.{suc, zero}
use Rattle.kc_graph.specs.Numbers.{count_below}
use Rattle.kc_levels.specs.declared.moves.Move.{Move}

-- whether v has another level in y than in x
abbrev pub is_moved : List ℕ → List ℕ → ℕ → Bool
is_moved x y v = not (get_or x v 0 == get_or y v 0)

-- how many of n vertices have another level in y than in x
abbrev pub moved_count : ℕ → List ℕ → List ℕ → ℕ
moved_count n x y = count_below n (is_moved x y)

-- the list with x appended if b is true
abbrev pub pushed_if : {A : Type 0} → Bool → A → List A → List A
pushed_if b x xs = cond b (xs ++ x ∷ []) xs

-- the vertices below k that move, ascending
abbrev pub moved_below : (ℕ → Bool) → ℕ → List ℕ
moved_below moved zero = []
moved_below moved (suc k) = pushed_if (moved k) k (moved_below moved k)

-- the move of v from its level in x to that in y
abbrev pub move_of : List ℕ → List ℕ → ℕ → Move
move_of x y v = record { vertex = v; old = get_or x v 0; new = get_or y v 0 }

-- the moves of those of n vertices that have another level in y than in x, ascending
abbrev pub moves_between : ℕ → List ℕ → List ℕ → List Move
moves_between n x y = map (move_of x y) (moved_below (is_moved x y) n)
