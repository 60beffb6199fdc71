use Rattle.std.proofs.Common.{◌≡◌, ◌∙◌, ap, subst, List, true}
use Rattle.kc_history.specs.declared.entries.Entry.{Entry}
use Rattle.kc_history.specs.Replies.{AreExplained}
use Rattle.kc_store.specs.Seats.{WriterShape}
use Rattle.kc_session.specs.Agents.{AgentShape}
use Rattle.kc_session.proofs.Lists.{next_of_all, moved_over}
use Rattle.kc_session.proofs.AgentLists.{closed_more, joined_on}
use Rattle.kc_session.proofs.agents.close_all.Goals as goal

pub close-requires-clause-table : goal.close-requires-clause-table
close-requires-clause-table c = c.loop-agent.invariant.2 ∙ c.requires.table

pub close-requires-clause-store : goal.close-requires-clause-store
close-requires-clause-store c =
    (next_of_all (λ (a : AgentShape). (a.store ≡ c.args.store.now) × (a.has_run ≡ true)) c.args.agents.items c.loop-agent.yielded c.loop-agent.agent-iterator.rest.items c.next.new.self.rest.items c.in-Some.agent c.requires.agents c.loop-agent.invariant.5 c.in-Some.ensures.steps.0).0

pub loop-agent-preserved : goal.loop-agent-preserved
loop-agent-preserved c =
    let w = c.close.ensures.writer in
    let r = next_of_all (λ (a : AgentShape). (a.store ≡ c.args.store.now) × (a.has_run ≡ true)) c.args.agents.items c.loop-agent.yielded c.loop-agent.agent-iterator.rest.items c.next.new.self.rest.items c.in-Some.agent c.requires.agents c.loop-agent.invariant.5 c.in-Some.ensures.steps.0 in
    let state = joined_on c.args.writer.now.state c.loop-agent.writer.state c.close.new.writer.state _ c.loop-agent.invariant.3 (ap (λ (s : WriterShape). s.state) w) in
    let history : c.close.new.writer.state.history ≡ c.args.writer.now.state.history = ap (λ s. s.history) state in
    let given = c.from_vec-replies.ensures in (
      tt,
      tt,
      ap (λ (s : WriterShape). s.table) w ∙ c.loop-agent.invariant.2,
      state,
      rw (c.in_ok-push.ensures.items, given) (closed_more c.args.writer.now.state.history c.loop-agent.yielded c.loop-agent.lists.items c.in-Some.agent c.close.result.items c.loop-agent.invariant.4 c.close.ensures.replies (c.close.ensures.all r.1)
          (subst (λ (es : List Entry). AreExplained c.in-Some.agent.store.vertices es c.in-Some.agent.made c.close.result.items) history c.close.ensures.explained)),
      moved_over c.args.agents.items c.loop-agent.yielded c.loop-agent.agent-iterator.rest.items c.next.new.self.rest.items c.in-Some.agent c.loop-agent.invariant.5 c.in-Some.ensures.steps.0,
    )
