use Rattle.std.proofs.Common.{◌∙◌, sym, ap, List, ℕ, length, ◌-◌}
use Rattle.std.specs.Prelude.{slice_get}
use Rattle.kc_graph.specs.EdgeLists.{last_edge}
use Rattle.kc_graph.proofs.EdgeListLemmas.{last_edge_at}
use Rattle.kc_graph.proofs.edge_lists.List+Edge.last.Goals as goal

pub returns : goal.returns
returns c = c.copied.ensures ∙ c.last.ensures.value ∙ ap (λ (xs : List (ℕ × ℕ)). slice_get xs (length xs - 1)) c.deref.ensures.value ∙ sym (last_edge_at c.self.inside.items.items) ∙ ap last_edge c.self.view_is
