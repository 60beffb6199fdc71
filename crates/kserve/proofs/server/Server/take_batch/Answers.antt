use Rattle.std.proofs.Common.{◌≡◌, List, subst, sym}
use Rattle.std.specs.Prelude.{All, None}
use Rattle.kc_graph.specs.declared.items.Item.{Item}
use Rattle.kc_graph.specs.declared.limits.TheConstants.{MAX_EDGES}
use Rattle.kc_graph.specs.Cleaning.{IsInside, cleaned}
use Rattle.kc_engine.specs.Batches.{refusal_of}
use Rattle.kserve.proofs.TakeLemmas.{items_inside, items_accepted}
use Rattle.kserve.proofs.server.Server.take_batch.Goals as goal

pub apply-requires-clause-inside : goal.apply-requires-clause-inside
apply-requires-clause-inside g c κs within =
    subst (λ (xs : List Item). All (IsInside c.args.self.now.engine.state.graph.vertices) xs) (sym c.as_slice.ensures)
    (items_inside c.args.context.now.n c.args.self.now.engine.state.graph.vertices c.args.batch.updates.now _ c.requires.ready.vertices (rw (c.in-Some.is, c.context.view_is) at c.in_ok-items.ensures))

pub apply-requires-clause-room : goal.apply-requires-clause-room
apply-requires-clause-room g c κs within =
    subst (λ (xs : List Item). refusal_of MAX_EDGES c.args.self.now.engine.state (cleaned c.args.self.now.engine.state.graph xs) ≡ None) (sym c.as_slice.ensures)
    (items_accepted c.args.context.now.n c.args.self.now.engine.state c.args.batch.updates.now _ c.requires.ready.vertices c.requires.ready.open_for.sound c.requires.ready.room (rw (c.in-Some.is, c.context.view_is) at c.in_ok-items.ensures) c.requires.few)
