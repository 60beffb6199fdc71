use Rattle.std.proofs.Common.{◌+◌, ◌*◌}
use Rattle.kc_batch.proofs.adding.+sharing.Given as goal

abbrev pub decreases-add_parts : goal.decreases-add_parts
decreases-add_parts g l = 4 * l.crew.now.workers + 3

abbrev pub decreases-add_both : goal.decreases-add_both
decreases-add_both g l = 4 * l.crew.now.workers + 2

abbrev pub decreases-add_both-left : goal.decreases-add_both-left
decreases-add_both-left g l = 4 * l.crew.now.workers + 1

abbrev pub decreases-add_both-right : goal.decreases-add_both-right
decreases-add_both-right g l = 4 * l.crew.now.workers + 1
