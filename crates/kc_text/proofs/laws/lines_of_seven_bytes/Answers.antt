use Rattle.std.proofs.Common.{refl}
use Rattle.kc_text.specs.Lines.{lines_from}
use Rattle.kc_text.proofs.laws.lines_of_seven_bytes.Goals as goal

pub returns : goal.returns
unfolding lines_from
returns c = refl
