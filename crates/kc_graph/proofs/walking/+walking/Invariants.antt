use Rattle.std.proofs.Common.{◌+◌, ◌*◌}
use Rattle.kc_graph.proofs.walking.+walking.Given as goal

abbrev pub decreases-walk_by : goal.decreases-walk_by
decreases-walk_by g l = 4 * l.crew.now.workers + 3

abbrev pub decreases-walk_both : goal.decreases-walk_both
decreases-walk_both g l = 4 * l.crew.now.workers + 2

abbrev pub decreases-walk_both-left : goal.decreases-walk_both-left
decreases-walk_both-left g l = 4 * l.crew.now.workers + 1

abbrev pub decreases-walk_both-right : goal.decreases-walk_both-right
decreases-walk_both-right g l = 4 * l.crew.now.workers + 1
