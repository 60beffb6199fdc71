use Rattle.std.proofs.Common.{refl}
use Rattle.kc_insert.proofs.Seen.{length-seen, rises_inside, stopped_seen, stopped_rises}
use Rattle.kc_insert.proofs.rising.RisingLevels.stop.Goals as goal

pub set-requires : goal.set-requires
set-requires c = rw (length-seen c.args.self.now) at (rises_inside c.args.self.now c.args.v c.requires.rises)

pub returns-clause-seen : goal.returns-clause-seen
returns-clause-seen c = stopped_seen c.args.self.now _ c.args.v c.requires.rises refl c.set.ensures

pub returns-clause-rises : goal.returns-clause-rises
returns-clause-rises c = stopped_rises c.args.self.now _ c.args.v c.requires.small c.requires.rises c.set.ensures
