use Rattle.std.proofs.Common.{sym, ◌∙◌}
use Rattle.kc_insert.proofs.Parting.{parted_none}
use Rattle.kc_insert.proofs.ranges.Ranges.part.Goals as goal

pub returns-then-count-eq0-clause-parted : goal.returns-then-count-eq0-clause-parted
returns-then-count-eq0-clause-parted g c = parted_none c.args.step.now c.args.self.now.parts c.args.self.now.told c.requires.ready (sym c.requires.count ∙ c.if-count-eq0.true)
