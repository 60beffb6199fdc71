use Rattle.std.proofs.Common.{sym, subst}
use Rattle.kc_insert.specs.Working.{IsReady}
use Rattle.kc_insert.proofs.Ready.{ready_followed}
use Rattle.kc_insert.proofs.work.InsertionWork.follow.Goals as goal

pub returns : goal.returns
returns c = λ p a ready long is moved.
    ready_followed p a c.args.adj.now _ _ c.args.removed.now c.args.moves.now c.own_counts.result.now c.copy_ends.new.ranges (subst (IsReady p a) (sym c.self.view_is) ready) long c.levels-levels.ensures.sized is moved c.own_counts.ensures c.follow.ensures.follows c.copy_ends.ensures (rw (c.as_slice.ensures, c.graph.ensures) at c.copy_rows.ensures)
