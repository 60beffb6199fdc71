use Rattle.std.proofs.Common.{◌≤◌, ◌-◌, ◌/◌, arith, rules, sym}
use Rattle.std.proofs.lemmas.Bool.{true≢false}
use Rattle.kc_levels.proofs.lemmas.Lowering.{held_down}
use Rattle.kc_adj.proofs.desired.desired_below.Goals as goal

pub loop-least-preserved : goal.loop-least-preserved
loop-least-preserved c =
    let within : c.min.result ≤ (c.loop-least.most - c.loop-least.least) / 2 = search rules in (
      omega arith,
      omega arith,
      c.loop-least.invariant.2,
      λ k lt le held. true≢false (sym (c.if-is_held.ensures.1 (held_down c.args.at.th.now.profile c.args.at.adj.now.graph c.args.at.adj.now.levels c.args.at.v _ k (omega (arith, c.args.at.vertex)) (omega arith) held))),
    )
