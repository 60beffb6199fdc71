use Rattle.std.proofs.Common.{ℕ, List, ◌≡◌, ◌-◌, ◌∙◌, get_or, length, ap, sym, arith}
use Rattle.kc_levels.specs.LevelList.{at_least}
use Rattle.kc_adj.proofs.Counted.{at_least-zero}
use Rattle.kc_adj.proofs.Moving.{count_last}
use Rattle.kc_adj.proofs.afresh.counts_of.Goals as goal

pub returns-then-level-eq0-clause-own : goal.returns-then-level-eq0-clause-own
returns-then-level-eq0-clause-own c =
    let zero : 0 ≡ get_or c.args.levels.now c.args.v 0 = omega (arith, c.if-level-eq0.true) in
    ap (λ (ws : List ℕ). length ws) c.neighbours-row.ensures.value
    ∙ sym (at_least-zero c.args.graph.now c.args.levels.now c.args.v)
    ∙ ap (at_least c.args.graph.now c.args.levels.now c.args.v) zero

pub returns-then-level-eq0-clause-below : goal.returns-then-level-eq0-clause-below
returns-then-level-eq0-clause-below c =
    let zero : 0 ≡ get_or c.args.levels.now c.args.v 0 - 1 = omega (arith, c.if-level-eq0.true) in
    ap (λ (ws : List ℕ). length ws) c.neighbours-row.ensures.value
    ∙ sym (at_least-zero c.args.graph.now c.args.levels.now c.args.v)
    ∙ ap (at_least c.args.graph.now c.args.levels.now c.args.v) zero

pub returns-clause-own : goal.returns-clause-own
returns-clause-own c = count_last c.args.graph.now c.args.levels.now c.neighbours-row.result.now c.args.v _ c.loop-w.w-index c.loop-w.own c.loop-w.invariant.0 (omega arith) c.neighbours-row.ensures.value

pub returns-clause-below : goal.returns-clause-below
returns-clause-below c = count_last c.args.graph.now c.args.levels.now c.neighbours-row.result.now c.args.v _ c.loop-w.w-index c.loop-w.below c.loop-w.invariant.2 (omega arith) c.neighbours-row.ensures.value
