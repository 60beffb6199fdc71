use Rattle.std.proofs.Common.{◌≡◌, ◌∙◌, ap, refl, subst, arith, ℕ, ◌<◌}
use Rattle.std.specs.Prelude.{All}
use Rattle.kc_history.specs.declared.replies.Reply.{Reply}
use Rattle.kc_store.specs.Seats.{StoreShape}
use Rattle.kc_session.specs.Agents.{AgentShape}
use Rattle.kc_session.proofs.AskingLemmas.{replies_below, replies_few}
use Rattle.kc_session.proofs.agent.Agent.run_beside.Goals as goal

pub ask_all-requires-clause-vertices : goal.ask_all-requires-clause-vertices
ask_all-requires-clause-vertices g c =
    let n : c.self.inside.vertices ≡ c.args.store.now.vertices = ap (λ (a : AgentShape). a.store.vertices) c.self.view_is ∙ ap (λ (s : StoreShape). s.vertices) c.requires.store in
    subst (λ (k : ℕ). All (λ (r : Reply). r.vertex < k) c.self.inside.replies.items) n
    (replies_below c.self.inside.vertices c.self.inside.ask c.self.inside.replies.items c.self.inside.replies.items refl c.self.invariant.vertices c.self.invariant.below)

pub ask_all-requires-clause-few : goal.ask_all-requires-clause-few
ask_all-requires-clause-few g c = let few = replies_few c.self.inside.ask c.self.inside.replies.items c.self.invariant.vertices c.self.invariant.few in omega (arith, few)
