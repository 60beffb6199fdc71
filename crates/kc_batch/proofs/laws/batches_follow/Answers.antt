use Rattle.kc_batch.specs.Batches.{Between}
use Rattle.kc_batch.proofs.Following.{batches_go_on}
use Rattle.kc_batch.proofs.laws.batches_follow.Goals as goal

pub returns : goal.returns
returns c = λ rules ts. batches_go_on rules Between ts
