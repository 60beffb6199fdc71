use Rattle.std.proofs.Common.{◌≡◌}
use Rattle.store_bench.specs.private.Showing.{IsShowing}
use Rattle.store_bench.proofs.showing.show.Given as goal

abbrev pub invariant-loop-g : goal.invariant-loop-g
invariant-loop-g l = (l.writer.table ≡ l.fn.writer.table) × IsShowing l.plan l.g l.fn.writer.state l.writer.state
