-- A batch of a service that was planned and shown.
use Rattle.std.proofs.Common.{ℕ, ◌≡◌, Bool, List, length, false, refl, sym, ap, ◌∙◌, subst}
use Rattle.std.specs.Prelude.{◌++◌}
use Rattle.kc_graph.specs.declared.cleaning.Cleaned.{Cleaned}
use Rattle.kc_graph.specs.declared.items.Item.{Item}
use Rattle.kc_graph.specs.Cleaning.{cleaned}
use Rattle.kc_history.specs.declared.entries.Entry.{Entry}
use Rattle.kc_groups.specs.Entries.{entries_in}
use Rattle.kc_store.specs.Seats.{StoreShape, WriterShape}
use Rattle.kc_engine.specs.declared.plans.BatchPlan.{BatchPlan}
use Rattle.kc_engine.specs.Batches.{moves_through}
use Rattle.kc_engine.specs.Planning.{EngineView, IsPlanned}
use Rattle.kc_engine.specs.Showing.{AreShown}
use Rattle.kc_service.specs.declared.applied.Applied.{Applied}
use Rattle.kc_service.specs.Services.{ServiceView, view_of, IsDue, IsApplied}
use Rattle.kc_service.specs.private.Planning.{IsShownPlan}

-- the view of a cleaned batch that was planned
abbrev pub applied_of : Cleaned → BatchPlan → Applied
applied_of c plan = record { added = length c.added; removed = length c.removed; moves = plan.moves; phases = plan.phases }

abbrev view_with : StoreShape → EngineView → List Entry → ℕ → Bool → ServiceView
view_with s e history limit halted = record { table = s.table; vertices = s.vertices; state = e.state; history = history; edge_limit = limit; halted = halted }

same_view : (s : StoreShape) (e : EngineView) (h k : List Entry) (l m : ℕ) (b d : Bool) → h ≡ k → l ≡ m → b ≡ d → view_with s e h l b ≡ view_with s e k m d
same_view s e h k l m b d p q r =
    ap (λ (z : List Entry). view_with s e z l b) p ∙ (ap (λ (z : ℕ). view_with s e k z b) q ∙ ap (λ (z : Bool). view_with s e k m z) r)

applied_shown : (s : StoreShape) (e b : EngineView) (w x : WriterShape) (items : List Item) (plan : BatchPlan) → e.state.graph.vertices ≡ s.vertices → IsDue (view_of s e w) items → IsPlanned e (cleaned e.state.graph items) plan b → AreShown plan.phases w.state x.state → IsApplied (view_of s e w) items (applied_of (cleaned e.state.graph items) plan) (view_of s (record b { waits = false }) x)
applied_shown s e b w x items plan sized due p shown = record {
  due = due;
  accepted = p.accepted;
  after = record { after = p.after; phases = p.phases };
  moves = p.moves ∙ ap (λ (n : ℕ). moves_through n e.state.levels p.after.levels.between b.state.levels) sized;
  added = refl;
  removed = refl;
  rest = same_view s b x.state.history (w.state.history ++ entries_in plan.phases) b.edge_limit e.edge_limit b.halted e.halted shown.history (ap (λ (z : EngineView). z.edge_limit) p.rest) (ap (λ (z : EngineView). z.halted) p.rest);
}

-- the service of a batch that was planned and shown
pub applied_is : (s : StoreShape) (e f : EngineView) (w x : WriterShape) (items : List Item) (d : Cleaned) (plan : BatchPlan) → e.state.graph.vertices ≡ s.vertices → IsDue (view_of s e w) items → d ≡ cleaned e.state.graph items → IsShownPlan e w.state d plan f x.state → IsApplied (view_of s e w) items (applied_of d plan) (view_of s f x)
applied_is s e f w x items d plan sized due same h =
    subst (λ (z : EngineView). IsApplied (view_of s e w) items (applied_of d plan) (view_of s z x)) (sym h.engine)
    (subst (λ (c : Cleaned). IsApplied (view_of s e w) items (applied_of c plan) (view_of s (record h.between { waits = false }) x)) (sym same)
    (applied_shown s e h.between w x items plan sized due (subst (λ (c : Cleaned). IsPlanned e c plan h.between) same h.planned) h.shown))
