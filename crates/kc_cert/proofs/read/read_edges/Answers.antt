use Rattle.std.proofs.Common.{◌∙◌, ◌+◌, ◌++◌, sym, ap, refl, arith, length-append}
use Rattle.std.specs.Prelude.{Err}
use Rattle.std.proofs.lemmas.Result.{err_from_is_err_and}
use Rattle.kc_graph.specs.Shape.{GraphShape}
use Rattle.kc_cert.proofs.EdgeSteps.{edge_fits, edge_step, after_edge, after_one, follow_one, all_read}
use Rattle.kc_cert.proofs.Stepping.{reaches_on, answers_before, answers_misfit, all_edges_read}
use Rattle.kc_cert.proofs.read.read_edges.Goals as goal

pub returns-in_err-edge-clause-edges : goal.returns-in_err-edge-clause-edges
returns-in_err-edge-clause-edges g c =
    let t = c.in_ok-token.token in
    let n = c.args.head.n in
    let shape : GraphShape = record { vertices = n; edges = c.loop-i.graph.edges ++ c.loop-i.waiting.items } in
    let step = edge_step c.args.head.profile shape n c.args.head.edges c.loop-i.i c.loop-i.low.0 c.loop-i.low.1 t.kind _ refl c.loop-i-test.true c.edge_of.ensures in
    let p = err_from_is_err_and c.from_residual-in_err-edge.result c.from_residual-in_err-edge.ensures.1 in
    rw (p.1, p.2) (answers_before _ _ _ _ (Err c.in_err-edge.field-0.0) c.loop-i.invariant.same (answers_misfit _ (after_edge c.args.head.profile shape n c.args.head.edges c.loop-i.i) t _ _ _ _ step c.in_ok-token.ensures.token c.in_err-edge.ensures.fits))

pub loop-i-preserved : goal.loop-i-preserved
loop-i-preserved g c =
    let t = c.in_ok-token.token in
    let p = c.args.head.profile in
    let n = c.args.head.n in
    let count = c.args.head.edges in
    let es = c.loop-i.graph.edges ++ c.loop-i.waiting.items in
    let i = c.loop-i.i in
    let a = c.loop-i.low.0 in
    let b = c.loop-i.low.1 in
    let e = c.in_ok-edge.edge in
    let x_is = sym c.in_ok-edge.ensures.fits ∙ c.edge_of.ensures in
    let fits = edge_fits n a b t.kind e (sym x_is) in
    let step = edge_step p (record { vertices = n; edges = es }) n count i a b t.kind _ refl c.loop-i-test.true x_is in
    let new = c.in_ok-add_edge.ensures.edges in
    let same = after_one p n count i c.edge.inside.a c.edge.inside.b es _ e new (sym c.edge.view_is) in
    record {
      same = rw same (c.loop-i.invariant.same ∙ reaches_on _ _ t _ _ step tt c.in_ok-token.ensures.token);
      vertices = c.in_ok-add_edge.ensures.vertices ∙ c.loop-i.invariant.vertices;
      follow = follow_one n a b c.edge.inside.a c.edge.inside.b es _ e c.loop-i.invariant.follow fits new (sym c.edge.view_is);
      counted = rw (new, length-append) (ap (λ k. k + 1) c.loop-i.invariant.counted);
      faults = c.in_ok-token.ensures.cause ∙ c.loop-i.invariant.faults;
    }

pub returns-clause-edges : goal.returns-clause-edges
returns-clause-edges g c =
    let all = all_read c.args.head.profile c.let_in.new.graph c.args.head.n c.args.head.edges c.loop-i.i c.loop-i.low.0 c.loop-i.low.1 (c.loop-i.graph.edges ++ c.loop-i.waiting.items)
    (c.in_ok-let_in.ensures.vertices ∙ c.loop-i.invariant.vertices) c.in_ok-let_in.ensures.edges (omega (arith, c.loop-i-test.false)) in
    (rw all at c.loop-i.invariant.same) ∙ all_edges_read _ _ _ _ _
