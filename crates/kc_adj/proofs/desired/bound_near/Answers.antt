use Rattle.std.proofs.Common.{◌≡◌, ◌∙◌, false, arith, rules, sym}
use Rattle.std.proofs.lemmas.Bool.{true≢false}
use Rattle.kc_levels.proofs.lemmas.Lowering.{held_down}
use Rattle.kc_adj.proofs.desired.bound_near.Goals as goal

pub returns-then-not-is_held-clause-above : goal.returns-then-not-is_held-clause-above
returns-then-not-is_held-clause-above c = λ k lt le held.
    let refused : c.is_held.result ≡ false = search rules in
    true≢false (sym (c.is_held.ensures.1 (held_down c.args.at.th.now.profile c.args.at.adj.now.graph c.args.at.adj.now.levels c.args.at.v _ k (omega (arith, c.args.at.vertex)) (omega arith) held)) ∙ refused)
