use Rattle.std.proofs.Common.{◌≡◌, ◌∙◌, true, sym, arith}
use Rattle.kc_graph.specs.Shape.{EdgesFrom, has_edge}
use Rattle.kc_graph.specs.Changes.{CanRemove}
use Rattle.kc_graph.specs.private.HalfLists.{halves_of}
use Rattle.kc_graph.specs.private.Halves.{AreTaken}
use Rattle.kc_graph.proofs.ChangeLemmas.{can_remove_ascending}
use Rattle.kc_graph.proofs.GivenLemmas.{graph_of, halves_inside, kept_taken, graph_taken, no_more_edges}
use Rattle.kc_graph.proofs.graphs.Graph.par_remove_all.Goals as goal

pub remove_each-requires : goal.remove_each-requires
remove_each-requires g c = can_remove_ascending _ 0 0 c.args.edges.now c.requires.ascending c.requires.present

pub take_by-requires-after_bounds : goal.take_by-requires-after_bounds
take_by-requires-after_bounds g c κs within = λ v x there.
    let up : EdgesFrom c.self.inside.n 0 0 c.args.edges.now = rw (← c.self.view_is) at c.requires.ascending in
    let there' : has_edge (v, x) (halves_of c.of-halves.result) ≡ true = there in
    (omega arith, omega (arith, c.self.invariant.sized, halves_inside c.self.inside.n 0 0 c.args.edges.now up v x (sym (c.of-halves.ensures v x) ∙ there')))

pub overflow_cast-self : goal.overflow_cast-self
overflow_cast-self g c =
    let up : EdgesFrom c.self.inside.n 0 0 c.args.edges.now = rw (← c.self.view_is) at c.requires.ascending in
    let can : CanRemove (graph_of c.self.inside.n c.self.inside.rows.items) c.args.edges.now = can_remove_ascending _ 0 0 c.args.edges.now up (rw (← c.self.view_is) at c.requires.present) in
    omega (arith, c.self.invariant.few, no_more_edges c.self.inside.n c.self.inside.count c.self.inside.rows.items c.take_by.new.rows.items c.args.edges.now (halves_of c.of-halves.result) c.self.invariant up c.of-halves.ensures can)

pub overflow_sub-self : goal.overflow_sub-self
overflow_sub-self g c =
    let up : EdgesFrom c.self.inside.n 0 0 c.args.edges.now = rw (← c.self.view_is) at c.requires.ascending in
    let can : CanRemove (graph_of c.self.inside.n c.self.inside.rows.items) c.args.edges.now = can_remove_ascending _ 0 0 c.args.edges.now up (rw (← c.self.view_is) at c.requires.present) in
    omega (arith, no_more_edges c.self.inside.n c.self.inside.count c.self.inside.rows.items c.take_by.new.rows.items c.args.edges.now (halves_of c.of-halves.result) c.self.invariant up c.of-halves.ensures can)

pub invariant_of-self : goal.invariant_of-self
invariant_of-self g c =
    let up : EdgesFrom c.self.inside.n 0 0 c.args.edges.now = rw (← c.self.view_is) at c.requires.ascending in
    let can : CanRemove (graph_of c.self.inside.n c.self.inside.rows.items) c.args.edges.now = can_remove_ascending _ 0 0 c.args.edges.now up (rw (← c.self.view_is) at c.requires.present) in
    let taken : AreTaken 0 c.self.inside.rows.items c.take_by.new.rows.items (halves_of c.of-halves.result) = c.take_by.ensures in
    kept_taken c.self.inside.n c.self.inside.count c.self.inside.rows.items c.take_by.new.rows.items c.args.edges.now (halves_of c.of-halves.result) c.self.invariant up c.of-halves.ensures taken can

pub returns-clause-ok : goal.returns-clause-ok
returns-clause-ok g c =
    let up : EdgesFrom c.self.inside.n 0 0 c.args.edges.now = rw (← c.self.view_is) at c.requires.ascending in
    let can : CanRemove (graph_of c.self.inside.n c.self.inside.rows.items) c.args.edges.now = can_remove_ascending _ 0 0 c.args.edges.now up (rw (← c.self.view_is) at c.requires.present) in
    let taken : AreTaken 0 c.self.inside.rows.items c.take_by.new.rows.items (halves_of c.of-halves.result) = c.take_by.ensures in
    rw (← c.self.view_is) (graph_taken c.self.inside.n c.self.inside.count c.self.inside.rows.items c.take_by.new.rows.items c.args.edges.now (halves_of c.of-halves.result) c.self.invariant up c.of-halves.ensures taken can)
