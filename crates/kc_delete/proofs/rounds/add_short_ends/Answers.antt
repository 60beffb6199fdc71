use Rattle.std.proofs.Common.{arith}
use Rattle.std.proofs.lemmas.Bool.Decides.{nat_tests}
use Rattle.kc_delete.proofs.SettlingLemmas.{ends_at, end_index}
use Rattle.kc_delete.proofs.rounds.add_short_ends.Goals as goal

pub add_if_short-requires-clause-vertex : goal.add_if_short-requires-clause-vertex
add_if_short-requires-clause-vertex c = (ends_at _ _ _ _ _ _ c.requires.ascending c.loop-e-test.true c.e-item.is c.e.view_is).0

pub add_if_short-requires-in-loop-e-clause-vertex : goal.add_if_short-requires-in-loop-e-clause-vertex
add_if_short-requires-in-loop-e-clause-vertex c = (ends_at _ _ _ _ _ _ c.requires.ascending c.loop-e-test.true c.e-item.is c.e.view_is).1

pub returns-clause-looked : goal.returns-clause-looked
returns-clause-looked c = λ v end.
    let at = end_index v c.args.removed.now (0, 0) end in
    let both = c.loop-e.invariant.1 at.0 (omega (arith, at.1)) in
    grind (arith, nat_tests, at.2)
