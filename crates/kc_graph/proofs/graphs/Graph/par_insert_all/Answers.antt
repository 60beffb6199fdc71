use Rattle.std.proofs.Common.{ℕ, ◌≡◌, ◌∙◌, true, List, ap, sym, arith}
use Rattle.kc_graph.specs.Shape.{EdgesFrom, has_edge}
use Rattle.kc_graph.specs.Changes.{CanAdd, AllAbsent}
use Rattle.kc_graph.specs.private.HalfLists.{halves_of}
use Rattle.kc_graph.specs.private.Halves.{AreGiven, AreGivenSome, AreTaken}
use Rattle.kc_graph.proofs.ChangeLemmas.{can_add_ascending}
use Rattle.kc_graph.proofs.GivenLemmas.{graph_of, halves_inside, kept_given, graph_given, undone_all}
use Rattle.kc_graph.proofs.graphs.Graph.par_insert_all.Goals as goal

pub give_by-requires-after_bounds : goal.give_by-requires-after_bounds
give_by-requires-after_bounds g c κs within = λ v x there.
    let up : EdgesFrom c.self.inside.n 0 0 c.args.edges.now = rw (← c.self.view_is) at c.requires.ascending in
    let there' : has_edge (v, x) (halves_of c.of-halves.result) ≡ true = there in
    (omega arith, omega (arith, c.self.invariant.sized, halves_inside c.self.inside.n 0 0 c.args.edges.now up v x (sym (c.of-halves.ensures v x) ∙ there')))

pub take_by-requires-after_bounds : goal.take_by-requires-after_bounds
take_by-requires-after_bounds g c κs within = λ v x there.
    let up : EdgesFrom c.self.inside.n 0 0 c.args.edges.now = rw (← c.self.view_is) at c.requires.ascending in
    let there' : has_edge (v, x) (halves_of c.of-halves.result) ≡ true = there in
    (omega arith, omega (arith, c.self.invariant.sized, c.in-Err.ensures.some.sized, halves_inside c.self.inside.n 0 0 c.args.edges.now up v x (sym (c.of-halves.ensures v x) ∙ there')))

pub invariant_of-self : goal.invariant_of-self
invariant_of-self g c =
    let up : EdgesFrom c.self.inside.n 0 0 c.args.edges.now = rw (← c.self.view_is) at c.requires.ascending in
    let absent : AllAbsent (graph_of c.self.inside.n c.self.inside.rows.items) c.args.edges.now = rw (← c.self.view_is) at c.requires.absent in
    let given : AreGivenSome 0 c.self.inside.rows.items c.give_by.new.rows.items (halves_of c.of-halves.result) = c.in-Err.ensures.some in
    let taken : AreTaken 0 c.give_by.new.rows.items c.take_by.new.rows.items (halves_of c.of-halves.result) = c.take_by.ensures in
    rw (undone_all c.self.inside.n c.self.inside.count c.self.inside.rows.items c.take_by.new.rows.items c.args.edges.now (halves_of c.of-halves.result) c.self.invariant up c.of-halves.ensures c.give_by.new.rows.items given taken absent) c.self.invariant

pub returns-in-Err-clause-err : goal.returns-in-Err-clause-err
returns-in-Err-clause-err g c =
    let up : EdgesFrom c.self.inside.n 0 0 c.args.edges.now = rw (← c.self.view_is) at c.requires.ascending in
    let absent : AllAbsent (graph_of c.self.inside.n c.self.inside.rows.items) c.args.edges.now = rw (← c.self.view_is) at c.requires.absent in
    let given : AreGivenSome 0 c.self.inside.rows.items c.give_by.new.rows.items (halves_of c.of-halves.result) = c.in-Err.ensures.some in
    let taken : AreTaken 0 c.give_by.new.rows.items c.take_by.new.rows.items (halves_of c.of-halves.result) = c.take_by.ensures in
    ap (λ (rs : List (List ℕ)). graph_of c.self.inside.n rs) (undone_all c.self.inside.n c.self.inside.count c.self.inside.rows.items c.take_by.new.rows.items c.args.edges.now (halves_of c.of-halves.result) c.self.invariant up c.of-halves.ensures c.give_by.new.rows.items given taken absent)
    ∙ c.self.view_is

pub invariant_of-self-2 : goal.invariant_of-self-2
invariant_of-self-2 g c =
    let up : EdgesFrom c.self.inside.n 0 0 c.args.edges.now = rw (← c.self.view_is) at c.requires.ascending in
    let can : CanAdd (graph_of c.self.inside.n c.self.inside.rows.items) c.args.edges.now = can_add_ascending _ 0 0 c.args.edges.now up (rw (← c.self.view_is) at c.requires.absent) (rw (← c.self.view_is) at c.requires.room) in
    let given : AreGiven 0 c.self.inside.rows.items c.give_by.new.rows.items (halves_of c.of-halves.result) = c.in_default.ensures.ok in
    kept_given c.self.inside.n c.self.inside.count c.self.inside.rows.items c.give_by.new.rows.items c.args.edges.now (halves_of c.of-halves.result) c.self.invariant up c.of-halves.ensures given can

pub returns-clause-ok : goal.returns-clause-ok
returns-clause-ok g c =
    let up : EdgesFrom c.self.inside.n 0 0 c.args.edges.now = rw (← c.self.view_is) at c.requires.ascending in
    let can : CanAdd (graph_of c.self.inside.n c.self.inside.rows.items) c.args.edges.now = can_add_ascending _ 0 0 c.args.edges.now up (rw (← c.self.view_is) at c.requires.absent) (rw (← c.self.view_is) at c.requires.room) in
    let given : AreGiven 0 c.self.inside.rows.items c.give_by.new.rows.items (halves_of c.of-halves.result) = c.in_default.ensures.ok in
    rw (← c.self.view_is) (graph_given c.self.inside.n c.self.inside.count c.self.inside.rows.items c.give_by.new.rows.items c.args.edges.now (halves_of c.of-halves.result) c.self.invariant up c.of-halves.ensures given can)
