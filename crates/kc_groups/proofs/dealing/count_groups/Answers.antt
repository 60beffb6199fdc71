use Rattle.std.proofs.Common.{length}
use Rattle.kc_groups.proofs.MovedLemmas.{mover_at}
use Rattle.kc_groups.proofs.dealing.count_groups.Goals as goal

pub bounds-places-m : goal.bounds-places-m
bounds-places-m c = (mover_at (length c.args.places.now) c.args.moves.now c.requires c.loop-m.m-index c.loop-m-test.true).0
