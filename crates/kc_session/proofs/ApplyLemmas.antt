-- A batch without a fault that was planned, and then shown.
use Rattle.std.proofs.Common.{◌≡◌, ◌≤◌, List, length, false, refl, subst, arith}
use Rattle.std.specs.Prelude.{All}
use Rattle.std.proofs.lemmas.Bool.Decides.{nat_tests}
use Rattle.kc_graph.specs.declared.cleaning.Cleaned.{Cleaned}
use Rattle.kc_graph.specs.declared.items.Item.{Item}
use Rattle.kc_graph.specs.declared.limits.TheConstants.{MAX_ITEMS}
use Rattle.kc_graph.specs.Cleaning.{IsInside, cleaned}
use Rattle.kc_engine.specs.declared.plans.BatchPlan.{BatchPlan}
use Rattle.kc_engine.specs.States.{IsSound}
use Rattle.kc_engine.specs.Batches.{IsAfterPhases}
use Rattle.kc_engine.specs.Planning.{EngineView, IsPlanned}
use Rattle.kc_session.specs.declared.audience.Audience.{Audience}
use Rattle.kc_session.specs.private.Audiences.{IsAbreast, LeadOver}
use Rattle.kc_session.specs.States.{IsOpen}

-- items of a batch, for an engine that takes batches
pub record IsDue (e : EngineView) (items : List Item) : Type 0 where
  pub open_for : IsOpen e
  pub inside : All (IsInside e.state.graph.vertices) items
  pub few : length items ≤ MAX_ITEMS

pub after_phases : (e f : EngineView) (items : List Item) (d : Cleaned) (plan : BatchPlan) → d ≡ cleaned e.state.graph items → IsPlanned e d plan f → IsAfterPhases e.state (cleaned e.state.graph items) f.state plan.phases
after_phases e f items d plan same p = let q = subst (λ (x : Cleaned). IsPlanned e x plan f) same p in record { after = q.after; phases = q.phases }

-- the phases of a batch may be shown to an audience that is up to date with the state before it
pub lead_over : (a : Audience) (e f : EngineView) (items : List Item) (d : Cleaned) (plan : BatchPlan) → IsDue e items → IsAbreast a e.state → d ≡ cleaned e.state.graph items → IsPlanned e d plan f → LeadOver a plan.phases f.state
lead_over a e f items d plan h abreast same p = record {
  before = e.state;
  batch = cleaned e.state.graph items;
  sound = h.open_for.sound;
  cleaning = record { items = items; inside = h.inside; few = h.few; comes_to = refl };
  after = after_phases e f items d plan same p;
  abreast = abreast;
}

-- the engine takes more batches
pub open_after : (e f h : EngineView) (d : Cleaned) (plan : BatchPlan) → IsOpen e → IsPlanned e d plan f → IsSound f.edge_limit f.state → h ≡ record f { waits = false } → IsOpen h
open_after e f h d plan o p sound is = grind (arith, nat_tests, p.rest, o.limit, o.running)
