use Rattle.std.proofs.Common.{◌+◌, ◌*◌}
use Rattle.kc_graph.proofs.sharing.+changing.Given as goal

abbrev pub decreases-change_parts : goal.decreases-change_parts
decreases-change_parts g l = 4 * l.crew.now.workers + 3

abbrev pub decreases-change_both : goal.decreases-change_both
decreases-change_both g l = 4 * l.crew.now.workers + 2

abbrev pub decreases-change_both-left : goal.decreases-change_both-left
decreases-change_both-left g l = 4 * l.crew.now.workers + 1

abbrev pub decreases-change_both-right : goal.decreases-change_both-right
decreases-change_both-right g l = 4 * l.crew.now.workers + 1
