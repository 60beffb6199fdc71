-- Laws of histories; each is the contract of a function in `laws`.
use Rattle.std.specs.Prelude.{ℕ, ◌+◌, ◌≤◌, ◌≡◌, List, [], ◌∷◌, ◌++◌, length, take, replicate}
use Rattle.kc_history.specs.declared.entries.Entry.{Entry}
use Rattle.kc_history.specs.declared.replies.Reply.{Reply}
use Rattle.kc_history.specs.Points.{graph_after, levels_after, graph_at, levels_at}
use Rattle.kc_history.specs.Replies.{IsLevelAt, AreExplained, vertices_of, zeros}

-- a point of a history is the same point of every history that continues it
pub record PointsStay : Type 0 where
  pub graph : (n : ℕ) (history more : List Entry) (p : ℕ) → p ≤ length history → graph_at n (history ++ more) p ≡ graph_at n history p
  pub levels : (n : ℕ) (history more : List Entry) (p : ℕ) → p ≤ length history → levels_at n (history ++ more) p ≡ levels_at n history p

-- at point 0 there are no edges, and each vertex is on level 0
pub record HistoryStartsEmpty : Type 0 where
  pub graph : (n : ℕ) (history : List Entry) → graph_at n history 0 ≡ record { vertices = n; edges = [] }
  pub levels : (n : ℕ) (history : List Entry) → levels_at n history 0 ≡ replicate n 0

-- entries after a history lead from its end to the end of both
pub record EntriesLeadOn : Type 0 where
  pub graph : (n : ℕ) (history more : List Entry) → graph_at n (history ++ more) (length (history ++ more)) ≡ graph_after (graph_at n history (length history)) more
  pub levels : (n : ℕ) (history more : List Entry) → levels_at n (history ++ more) (length (history ++ more)) ≡ levels_after (levels_at n history (length history)) more

-- point p after the end of a history is what the first p of the later entries make of that end
pub record PointsLeadOn : Type 0 where
  pub graph : (n : ℕ) (history more : List Entry) (p : ℕ) → graph_at n (history ++ more) (length history + p) ≡ graph_after (graph_at n history (length history)) (take p more)
  pub levels : (n : ℕ) (history more : List Entry) (p : ℕ) → levels_at n (history ++ more) (length history + p) ≡ levels_after (levels_at n history (length history)) (take p more)

-- a history that continues another explains the replies that the other explains
abbrev pub LongerExplains : Type 0
LongerExplains = (n : ℕ) (history more : List Entry) (from : ℕ) (rs : List Reply) → AreExplained n history from rs → AreExplained n (history ++ more) from rs

-- replies explained from a point on are explained from each earlier point on
abbrev pub EarlierExplains : Type 0
EarlierExplains = (n : ℕ) (history : List Entry) (early late : ℕ) (rs : List Reply) → early ≤ late → AreExplained n history late rs → AreExplained n history early rs

-- a reply with the level of its vertex at the end of the history can follow explained replies
abbrev pub EndExplainsMore : Type 0
EndExplainsMore =
    (n : ℕ) (history : List Entry) (from : ℕ) (rs : List Reply) (r : Reply) → from ≤ length history → AreExplained n history from rs → IsLevelAt n history (length history) r →
    AreExplained n history from (rs ++ r ∷ [])

-- each history explains replies of level 0 to any questions, by its start
pub record StartExplainsZeros : Type 0 where
  pub explained : (n : ℕ) (history : List Entry) (vs : List ℕ) → AreExplained n history 0 (zeros vs)
  pub vertices : (vs : List ℕ) → vertices_of (zeros vs) ≡ vs
