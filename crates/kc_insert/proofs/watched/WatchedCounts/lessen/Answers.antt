use Rattle.std.proofs.Common.{refl}
use Rattle.kc_insert.proofs.Watching.{watched_noted}
use Rattle.kc_insert.proofs.watched.WatchedCounts.lessen.Goals as goal

pub returns-in_ok-push-clause-watched : goal.returns-in_ok-push-clause-watched
returns-in_ok-push-clause-watched c = rw (← c.self.view_is) (watched_noted _ _ c.args.v _ (rw (← c.self.view_is) at c.requires.vertex) refl refl refl c.in_ok-push.ensures.items)
