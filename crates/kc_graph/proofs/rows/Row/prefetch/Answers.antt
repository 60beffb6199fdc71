use Rattle.std.proofs.Common.{◌≤◌, ◌-◌, get_or, length, arith}
use Rattle.std.proofs.lemmas.Bool.Decides.{nat_tests}
use Rattle.kc_graph.proofs.NumberLemmas.{rises_in_order}
use Rattle.kc_graph.proofs.rows.Row.prefetch.Goals as goal

pub returns-else-n-eq0 : goal.returns-else-n-eq0
returns-else-n-eq0 c =
    let xs = c.as_slice-items.result.now in
    let order : get_or xs 0 0 ≤ get_or xs (length xs - 1) 0 = rises_in_order 0 xs 0 (length xs - 1) (rw c.as_slice-items.ensures c.self.invariant) (omega arith) (omega (arith, c.if-n-eq0.false)) in
    grind (arith, nat_tests, order)
