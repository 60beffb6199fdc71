use Rattle.std.proofs.Common.{◌∙◌, [], ◌∷◌, get_or, take, refl, ap, sym}
use Rattle.std.proofs.lemmas.List.{take_more, drop_more}
use Rattle.kc_graph.specs.Shape.{with_edge, with_edges}
use Rattle.kc_graph.proofs.ChangeLemmas.{can_add_ascending, with_edges-append, first_may_leave, first_left}
use Rattle.kc_graph.proofs.graphs.Graph.insert_each.Goals as goal

pub loop-k-init : goal.loop-k-init
loop-k-init c = (can_add_ascending _ 0 0 c.args.edges.now c.requires.ascending c.requires.absent c.requires.room, refl)

pub loop-k-preserved : goal.loop-k-preserved
loop-k-preserved c =
    let es = c.args.edges.now in
    let e = c.edge_with_prefetch-e in
    let here = rw (drop_more es c.loop-k.k (0, 0) c.loop-k-test.true) at c.loop-k.invariant.0 in (
      rw (c.in_default.ensures.ok, e.ensures) here.3,
      c.in_default.ensures.ok ∙ ap (λ g. with_edge g e.result) c.loop-k.invariant.1 ∙ ap (with_edge _) e.ensures
          ∙ sym (ap (with_edges c.args.self.now) (take_more es c.loop-k.k (0, 0) c.loop-k-test.true) ∙ with_edges-append c.args.self.now (take c.loop-k.k es) (get_or es c.loop-k.k (0, 0) ∷ [])),
    )

pub remove_each-requires : goal.remove_each-requires
remove_each-requires c = rw (c.in-Err.ensures.err, c.loop-k.invariant.1) (first_may_leave c.args.self.now c.loop-k.k c.args.edges.now c.requires.ascending)

pub returns-in-Err-clause-err : goal.returns-in-Err-clause-err
returns-in-Err-clause-err c = c.remove_each.ensures ∙ rw (c.in-Err.ensures.err, c.loop-k.invariant.1) (first_left c.args.self.now c.loop-k.k c.args.edges.now c.requires.ascending c.vertices-n.ensures.graph c.requires.absent)
