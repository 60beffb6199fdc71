-- Points of histories that grow.
use Rattle.std.proofs.Common.{ℕ, ◌≡◌, List, [], ◌∷◌, ◌++◌, take, refl}
use Rattle.std.proofs.lemmas.List.{take-append-le}
use Rattle.std.proofs.Math.Seq.{take-length, take-append-add}
use Rattle.kc_graph.specs.Shape.{GraphShape}
use Rattle.kc_history.specs.declared.entries.Entry.{Entry}
use Rattle.kc_history.specs.Points.{with_moves, with_entry, graph_after, levels_after}
use Rattle.kc_history.specs.Laws.{PointsStay, HistoryStartsEmpty, EntriesLeadOn, PointsLeadOn}

pub graph_after-append : (g : GraphShape) (es fs : List Entry) → graph_after g (es ++ fs) ≡ graph_after (graph_after g es) fs
graph_after-append g [] fs = refl
graph_after-append g (e ∷ es) fs = graph_after-append (with_entry g e) es fs

pub levels_after-append : (x : List ℕ) (es fs : List Entry) → levels_after x (es ++ fs) ≡ levels_after (levels_after x es) fs
levels_after-append x [] fs = refl
levels_after-append x (e ∷ es) fs = levels_after-append (with_moves x e.moves) es fs

pub points_stay : PointsStay
points_stay = record {
  graph = λ n history more p h. rw (take-append-le p history more h) refl;
  levels = λ n history more p h. rw (take-append-le p history more h) refl;
}

pub history_starts_empty : HistoryStartsEmpty
history_starts_empty = record { graph = λ n history. refl; levels = λ n history. refl }

pub entries_lead_on : EntriesLeadOn
entries_lead_on = record {
  graph = λ n history more. rw (take-length (history ++ more), take-length history) (graph_after-append _ history more);
  levels = λ n history more. rw (take-length (history ++ more), take-length history) (levels_after-append _ history more);
}

pub points_lead_on : PointsLeadOn
points_lead_on = record {
  graph = λ n history more p. rw (take-append-add history more p, take-length history) (graph_after-append _ history (take p more));
  levels = λ n history more p. rw (take-append-add history more p, take-length history) (levels_after-append _ history (take p more));
}
