use Rattle.std.proofs.Common.{refl}
use Rattle.kc_insert.proofs.Seen.{gone_seen, same_rises}
use Rattle.kc_insert.proofs.rising.RisingLevels.go_to.Goals as goal

pub returns-clause-seen : goal.returns-clause-seen
returns-clause-seen c = λ risers who. gone_seen c.args.self.now _ risers refl who

pub returns-clause-rises : goal.returns-clause-rises
returns-clause-rises c = λ v. same_rises c.args.self.now _ refl v
