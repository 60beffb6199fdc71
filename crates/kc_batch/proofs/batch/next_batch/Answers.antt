use Rattle.kc_batch.specs.Batches.{Between}
use Rattle.kc_batch.proofs.Following.{told_follow}
use Rattle.kc_batch.proofs.batch.next_batch.Goals as goal

pub returns-in-Ok-clause-batches : goal.returns-in-Ok-clause-batches
returns-in-Ok-clause-batches g c = told_follow (record { n = c.args.n; profile = c.args.profile; item_limit = c.args.item_limit }) Between c.in-Ok.next _ _ c.in-Ok.ensures.batch
