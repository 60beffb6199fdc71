use Rattle.std.proofs.Common.{rules, subst}
use Rattle.kc_session.specs.Agents.{AgentShape}
use Rattle.kc_session.specs.Asking.{HasRun}
use Rattle.kc_session.proofs.agents.run_each.Goals as goal

pub returns : goal.returns
returns g c i d lt =
    let e = c.for_each_mut.ensures i d lt in
    let h : HasRun e.1.argument.now e.1.after_call.now = search rules in
    subst (λ (x : AgentShape × AgentShape). HasRun x.0 x.1) (λ k. (e.1.argument_is k, e.1.left k)) h
