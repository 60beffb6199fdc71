use Rattle.std.proofs.Common.{true, false}
use Rattle.kc_batch.specs.Ahead.{place_of}
use Rattle.kc_batch.proofs.Following.{told_follow}
use Rattle.kc_batch.proofs.batch.await_batch.Goals as goal

pub returns-then-ahead-clause-batches : goal.returns-then-ahead-clause-batches
returns-then-ahead-clause-batches g c =
    rw c.if-ahead.true (told_follow c.args.ahead.rules (place_of true c.args.ahead.items) c.in_ok-next.next _ _ c.in_ok-next.ensures.batch)

pub returns-clause-batches : goal.returns-clause-batches
returns-clause-batches g c =
    rw c.if-ahead.false (told_follow c.args.ahead.rules (place_of false c.args.ahead.items) c.in_ok-next-2.next _ _ c.in_ok-next-2.ensures.batch)
