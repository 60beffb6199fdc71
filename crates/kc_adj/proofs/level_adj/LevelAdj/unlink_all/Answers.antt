use Rattle.std.proofs.Common.{ap, sym, ◌∙◌}
use Rattle.kc_graph.specs.Shape.{GraphShape}
use Rattle.kc_graph.proofs.lemmas.Changes.{can_remove_ascending, vertices-without_edges}
use Rattle.kc_adj.proofs.Linking.{sized_as}
use Rattle.kc_adj.proofs.level_adj.LevelAdj.unlink_all.Goals as goal

pub uncount_edges-requires : goal.uncount_edges-requires
uncount_edges-requires g c = record {
  before = c.self.inside.graph;
  removable = can_remove_ascending c.self.inside.graph 0 0 c.args.edges.now (rw (← c.self.view_is) at c.requires.ascending) (rw (← c.self.view_is) at c.requires.present);
  becomes = sym c.in_ok-par_remove_all.ensures.ok;
  counted = c.self.invariant;
}

pub count_afresh-requires-clause-sized : goal.count_afresh-requires-clause-sized
count_afresh-requires-clause-sized g c κs within =
    rw c.as_slice.ensures (sized_as c.par_remove_all.new.self c.self.inside.graph _ _ _ c.self.invariant (ap (λ (h : GraphShape). h.vertices) c.in_ok-par_remove_all.ensures.ok ∙ vertices-without_edges c.self.inside.graph c.args.edges.now))
