use Rattle.std.proofs.Common.{eqb, ap}
use Rattle.kc_insert.specs.private.Rising.{rises}
use Rattle.kc_insert.proofs.Seen.{length-seen}
use Rattle.kc_insert.proofs.rising.RisingLevels.rises.Goals as goal

pub get-requires : goal.get-requires
get-requires c = rw (length-seen c.args.self.now) at c.requires

pub returns : goal.returns
unfolding rises
returns c = ap (λ k. eqb k 65535) c.get.ensures
