use Rattle.std.proofs.Common.{refl}
use Rattle.kc_insert.proofs.Seen.{length-seen, begun_seen, begun_rises}
use Rattle.kc_insert.proofs.rising.RisingLevels.begin.Goals as goal

pub set-requires : goal.set-requires
set-requires c = rw (length-seen c.args.self.now) at c.requires

pub returns-clause-seen : goal.returns-clause-seen
returns-clause-seen c = begun_seen c.args.self.now _ c.args.v refl c.set.ensures

pub returns-clause-rises : goal.returns-clause-rises
returns-clause-rises c = begun_rises c.args.self.now _ c.args.v c.requires c.set.ensures
