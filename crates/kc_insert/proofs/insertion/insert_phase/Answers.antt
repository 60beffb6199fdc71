use Rattle.std.proofs.Common.{◌≡◌, ap, ◌∙◌, arith}
use Rattle.kc_graph.proofs.lemmas.Changes.{vertices-with_edges, inside_from_ascending}
use Rattle.kc_levels.proofs.lemmas.Capped.{capped_of}
use Rattle.kc_adj.specs.LeveledGraph.{LeveledGraph}
use Rattle.kc_insert.proofs.Linked.{linked_can}
use Rattle.kc_insert.proofs.Ready.{ready_taken}
use Rattle.kc_insert.proofs.insertion.insert_phase.Goals as goal

pub file_ends-requires-clause-inside : goal.file_ends-requires-clause-inside
file_ends-requires-clause-inside g c κs within =
    let same : c.link_edges.new.adj.graph.vertices ≡ c.args.adj.now.graph.vertices = ap (λ (k : LeveledGraph). k.graph.vertices) c.in_ok-link_edges.ensures.value ∙ vertices-with_edges c.args.adj.now.graph c.args.added.now in
    λ k d h. omega (arith, (inside_from_ascending c.args.adj.now.graph.vertices 0 0 c.args.added.now c.requires.ascending k d h).1, c.own_counts.ensures.sized, same)

pub raise_queued-requires-after_bounds : goal.raise_queued-requires-after_bounds
raise_queued-requires-after_bounds g c κs within = rw c.graph.ensures (linked_can c.args.th.now.profile c.args.th.now.vertices c.args.adj.now c.link_edges.new.adj c.work.inside.sweep.levels c.work.inside.sweep.ranges c.file_ends.new.ranges c.args.added.now c.levels.result.now c.own_counts.result.now (rw (← c.work.view_is) at c.requires.ready) c.in_ok-link_edges.ensures.value c.requires.within.scale c.levels.ensures.value c.own_counts.ensures c.in_ok-file_ends.ensures c.levels.ensures.sized (capped_of c.args.th.now c.args.adj.now.graph c.args.adj.now.levels c.requires.within) c.requires.upper)

pub returns-clause-ready : goal.returns-clause-ready
returns-clause-ready g c =
    let graph : c.graph.result.now ≡ c.link_edges.new.adj.graph = c.graph.ensures in
    rw c.in_ok-moves.ensures.lifted
    (ready_taken c.args.th.now.profile (record c.link_edges.new.adj { levels = c.raise_queued.new.sweep.levels.stored }) c.raise_queued.new.sweep.levels c.raise_queued.new.sweep.ranges _ (rw graph at c.in_ok-raise_queued.ensures.order) (rw graph at c.in_ok-raise_queued.ensures.counted) (ap (λ k. k.stored) c.in_ok-moves.ensures.levels) c.in_ok-moves.ensures.forgot)
