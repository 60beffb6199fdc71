use Rattle.std.proofs.Common.{ap, sym, ◌∙◌}
use Rattle.kc_graph.specs.Shape.{GraphShape}
use Rattle.kc_graph.proofs.lemmas.Changes.{can_add_ascending, vertices-with_edges}
use Rattle.kc_adj.proofs.Linking.{sized_as}
use Rattle.kc_adj.proofs.level_adj.LevelAdj.link_all.Goals as goal

pub count_edges-requires : goal.count_edges-requires
count_edges-requires g c = record {
  before = c.self.inside.graph;
  addable = can_add_ascending c.self.inside.graph 0 0 c.args.edges.now (rw (← c.self.view_is) at c.requires.ascending) (rw (← c.self.view_is) at c.requires.absent) (rw (← c.self.view_is) at c.requires.room);
  becomes = sym c.in_ok-par_insert_all.ensures.ok;
  counted = c.self.invariant;
}

pub count_afresh-requires-clause-sized : goal.count_afresh-requires-clause-sized
count_afresh-requires-clause-sized g c κs within =
    rw c.as_slice.ensures (sized_as c.par_insert_all.new.self c.self.inside.graph _ _ _ c.self.invariant (ap (λ (h : GraphShape). h.vertices) c.in_ok-par_insert_all.ensures.ok ∙ vertices-with_edges c.self.inside.graph c.args.edges.now))
