use Rattle.std.proofs.lemmas.Result.{on_ok_weaker}
use Rattle.kc_report.proofs.LineLemmas.{vertex_filled}
use Rattle.kc_report.proofs.vertices.fill_vertex.Goals as goal

pub returns : goal.returns
returns c =
    on_ok_weaker c.put_named-3.result
    (λ down. vertex_filled c.args.counts.v c.args.counts.level c.args.counts.up c.args.counts.down c.args.estimate _ _ _ _ _ c.clear.ensures c.in_ok-put_named.ensures c.in_ok-fill_bounds.ensures c.in_ok-put_named-2.ensures down)
    c.put_named-3.ensures
