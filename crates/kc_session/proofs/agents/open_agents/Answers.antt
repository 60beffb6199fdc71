use Rattle.std.proofs.Common.{◌∙◌, ◌≡◌, ap, length, arith, List}
use Rattle.std.proofs.lemmas.Grind.{common_steps}
use Rattle.kc_store.specs.Seats.{WriterShape}
use Rattle.kc_session.specs.Agents.{AgentShape, agent_for}
use Rattle.kc_session.proofs.Lists.{moved_over, fewer_past}
use Rattle.kc_session.proofs.AgentLists.{opened_more, length-agents}
use Rattle.kc_session.proofs.agents.open_agents.Goals as goal

pub loop-ask-preserved : goal.loop-ask-preserved
loop-ask-preserved c =
    let w = c.loop-ask.invariant.2 in
    let r = c.len-reader.ensures in
    let number : c.len-reader.result ≡ length c.loop-ask.agents.items = grind (arith, common_steps, r) in
    let fresh : c.in_ok-agent.agent ≡ agent_for c.args.store.now c.args.writer.now.state.history c.len-reader.result c.in-Some.ask =
    c.in_ok-agent.ensures.agent ∙ ap (λ (s : WriterShape). agent_for c.args.store.now s.state.history c.len-reader.result c.in-Some.ask) w in (
      tt,
      tt,
      c.open.ensures.same ∙ w,
      opened_more c.args.store.now c.args.writer.now.state.history c.loop-ask.yielded c.in-Some.ask c.len-reader.result c.loop-ask.agents.items c.push.new.self.items c.in_ok-agent.agent c.loop-ask.invariant.3 number fresh c.in_ok-push.ensures.items,
      moved_over c.args.asks c.loop-ask.yielded c.loop-ask.ask-iterator.rest.items c.next.new.self.rest.items c.in-Some.ask c.loop-ask.invariant.4 c.in-Some.ensures.steps.0,
    )

pub overflow_cast-reader : goal.overflow_cast-reader
overflow_cast-reader c =
    let r = c.len-reader.ensures in
    let few = c.requires.few in
    let number : c.len-reader.result ≡ length c.loop-ask.agents.items = grind (arith, common_steps, r) in
    let all = ap (λ (xs : List AgentShape). length xs) c.loop-ask.invariant.3 in
    let asked = length-agents c.args.store.now c.args.writer.now.state.history 0 c.loop-ask.yielded in
    let fewer = fewer_past c.args.asks c.loop-ask.yielded c.loop-ask.ask-iterator.rest.items c.next.new.self.rest.items c.in-Some.ask c.loop-ask.invariant.4 c.in-Some.ensures.steps.0 in
    omega (arith, number, all, asked, fewer, few)
