use Rattle.std.proofs.Common.{refl}
use Rattle.kc_text.specs.Lines.{lines_from}
use Rattle.kc_text.proofs.laws.limit_within_third_line.Goals as goal

pub returns : goal.returns
unfolding lines_from
returns c = refl
