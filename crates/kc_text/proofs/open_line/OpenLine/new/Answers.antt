use Rattle.std.proofs.Common.{refl}
use Rattle.kc_text.proofs.OpenLines.{piece_none}
use Rattle.kc_text.proofs.open_line.OpenLine.new.Goals as goal

pub returns : goal.returns
returns c = rw (piece_none c.args.limit _ c.new.ensures.items) refl
