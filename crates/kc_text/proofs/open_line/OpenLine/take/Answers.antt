use Rattle.std.proofs.Common.{refl}
use Rattle.kc_text.proofs.OpenLines.{piece_grows}
use Rattle.kc_text.proofs.open_line.OpenLine.take.Goals as goal

pub returns-clause-ok : goal.returns-clause-ok
returns-clause-ok c = rw (← c.self.view_is) (piece_grows _ _ _ _ _ _ _ c.self.invariant refl c.in_ok-keep.ensures.kept)
