use Rattle.kc_session.proofs.AgentLists.{all_have_run}
use Rattle.kc_session.proofs.agents.run_agents.Goals as goal

pub returns : goal.returns
returns g c = all_have_run c.args.agents.now.len c.args.agents.now.items c.as_mut_slice.result.now c.run_each.new.agents c.as_mut_slice.ensures.value c.run_each.auto.agents c.as_mut_slice.ensures.len c.run_each.ensures
