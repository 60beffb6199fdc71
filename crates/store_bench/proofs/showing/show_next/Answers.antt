use Rattle.store_bench.proofs.Shows.{idle_shown}
use Rattle.store_bench.proofs.showing.show_next.Goals as goal

pub returns-then-may-clause-idle : goal.returns-then-may-clause-idle
returns-then-may-clause-idle c = idle_shown c.args.plan.now _ _ c.show.ensures.shown
