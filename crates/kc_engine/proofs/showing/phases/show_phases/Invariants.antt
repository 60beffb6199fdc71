use Rattle.std.proofs.Common.{◌≡◌, drop}
use Rattle.kc_engine.proofs.PhaseSteps.{IsOnTheWay}
use Rattle.kc_engine.proofs.showing.phases.show_phases.Given as goal

abbrev pub invariant-loop-i : goal.invariant-loop-i
invariant-loop-i g l = (l.places ≡ l.fn.places) × (l.writer.table ≡ l.fn.writer.table) × IsOnTheWay l.show.n l.phases (drop l.i l.phases) l.fn.writer.state l.writer.state
