use Rattle.std.proofs.Common.{refl}
use Rattle.kc_text.proofs.OpenLines.{piece_none}
use Rattle.kc_text.proofs.open_line.OpenLine.pass.Goals as goal

pub returns-clause-next : goal.returns-clause-next
returns-clause-next c = rw (← c.self.view_is, piece_none c.self.inside.limit _ c.clear.ensures.items) refl
