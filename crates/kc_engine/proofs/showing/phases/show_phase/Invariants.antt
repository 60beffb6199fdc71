use Rattle.std.proofs.Common.{◌≡◌}
use Rattle.kc_store.specs.private.Showing.{HasShown}
use Rattle.kc_engine.proofs.showing.phases.show_phase.Given as goal

abbrev pub invariant-loop-g : goal.invariant-loop-g
invariant-loop-g g l = (l.places ≡ l.fn.places) × (l.writer.table ≡ l.fn.writer.table) × HasShown l.plan l.g l.fn.writer.state l.writer.state
