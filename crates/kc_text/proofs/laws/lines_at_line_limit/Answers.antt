use Rattle.std.proofs.Common.{refl}
use Rattle.kc_text.specs.Lines.{lines_from}
use Rattle.kc_text.proofs.laws.lines_at_line_limit.Goals as goal

pub returns : goal.returns
unfolding lines_from
returns c = refl
