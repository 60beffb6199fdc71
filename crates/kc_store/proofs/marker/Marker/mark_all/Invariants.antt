use Rattle.std.proofs.Common.{◌≡◌, ◌-◌, ◌≤◌}
use Rattle.kc_store.specs.Showing.{HasMarkedLent}
use Rattle.kc_store.proofs.marker.Marker.mark_all.Given as goal

abbrev pub invariant-loop-i : goal.invariant-loop-i
invariant-loop-i l = (l.self.table ≡ l.fn.self.table)
    × HasMarkedLent l.i l.fn.self.state l.self.state
    × (l.fn.self.state.loan.from ≤ l.i)
    × (l.i - l.fn.self.state.loan.from ≤ l.fn.self.state.loan.to - l.fn.self.state.loan.from)
