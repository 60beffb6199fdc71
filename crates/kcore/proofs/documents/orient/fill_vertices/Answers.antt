use Rattle.std.proofs.Common.{refl}
use Rattle.kcore.proofs.OrientLineLemmas.{vertex_at}
use Rattle.kcore.proofs.documents.orient.fill_vertices.Goals as goal

pub loop-w-preserved : goal.loop-w-preserved
loop-w-preserved c = vertex_at c.args.vertices.now c.loop-w.w-index 0 _ c.args.buf.now c.loop-w.buf _ c.loop-w-test.true refl c.loop-w.invariant c.in_ok-put_named.ensures
