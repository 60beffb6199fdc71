use Rattle.std.proofs.Common.{◌∙◌, ap}
use Rattle.kc_store.specs.States.{with_joined}
use Rattle.kc_session.specs.Agents.{AgentShape}
use Rattle.kc_session.proofs.AskingLemmas.{closing}
use Rattle.kc_session.proofs.agent.Agent.close.Goals as goal

pub returns : goal.returns
returns c =
    let f = closing _ c.args.self _ c.given.result.items c.take_in.new.self.state.history c.self.view_is c.self.invariant c.given.ensures c.take_in.ensures.seen in
    record {
      writer = c.take_in.ensures.same ∙ ap (λ (a : AgentShape). record { table = c.args.writer.now.table; state = with_joined a.seen c.args.writer.now.state }) c.self.view_is;
      replies = f.replies;
      first = f.first;
      all = f.all;
      explained = f.explained;
    }
