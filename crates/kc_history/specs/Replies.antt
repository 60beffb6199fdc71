-- When a history explains the replies of a reader: by points that never go back.
use Rattle.std.specs.Prelude.{ℕ, ◌≡◌, ◌≤◌, List, [], ◌∷◌, length, map, get_or}
use Rattle.kc_history.specs.declared.entries.Entry.{Entry}
use Rattle.kc_history.specs.declared.replies.Reply.{Reply}
use Rattle.kc_history.specs.Points.{levels_at}

-- p is a point of a history over n vertices at which the vertex of the reply is on the level of the reply
pub record IsLevelAt (n : ℕ) (history : List Entry) (p : ℕ) (r : Reply) : Type 0 where
  pub inside : p ≤ length history
  pub level : get_or (levels_at n history p) r.vertex 0 ≡ r.level

-- each reply has the level of its vertex at some point; no point is before that of the previous reply or before `from`
abbrev pub AreExplained : ℕ → List Entry → ℕ → List Reply → Type 0
AreExplained n history from [] = Unit {0}
AreExplained n history from (r ∷ rs) = (p : ℕ) × ((from ≤ p) × (IsLevelAt n history p r × AreExplained n history p rs))

-- the vertices of the replies
abbrev pub vertices_of : List Reply → List ℕ
vertices_of rs = map (λ (r : Reply). r.vertex) rs

-- replies of level 0 for these vertices
abbrev pub zeros : List ℕ → List Reply
zeros [] = []
zeros (v ∷ vs) = record { vertex = v; level = 0 } ∷ zeros vs
