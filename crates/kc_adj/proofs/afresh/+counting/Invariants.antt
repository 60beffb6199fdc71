use Rattle.std.proofs.Common.{◌+◌, ◌*◌}
use Rattle.kc_adj.proofs.afresh.+counting.Given as goal

abbrev pub decreases-count_pieces : goal.decreases-count_pieces
decreases-count_pieces g l = 2 * l.crew.now.workers + 1

abbrev pub decreases-back : goal.decreases-back
decreases-back g l = 2 * l.crew.now.workers
