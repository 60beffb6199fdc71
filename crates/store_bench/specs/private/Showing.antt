-- What a writer has shown of a plan, group by group.
use Rattle.std.specs.Prelude.{◌≡◌, ℕ, ◌+◌, ◌<◌, ◌≤◌, List, [], length, All}
use Rattle.kc_groups.specs.declared.plans.PhasePlan.{PhasePlan}
use Rattle.kc_groups.specs.WellFormed.{IsWellFormed}
use Rattle.kc_store.specs.declared.roles.WriterState.{WriterState}
use Rattle.kc_store.specs.Plans.{group_at}
use Rattle.kc_store.specs.Seats.{StoreShape, WriterShape}
use Rattle.kc_store.specs.Showing.{IsIdle}
use Rattle.kc_store.specs.States.{AllMovesIn}

-- the phase of a plan began, its first `count` groups are published and cleared, and no marker is out
pub record IsShowing (plan : PhasePlan) (count : ℕ) (old new : WriterState) : Type 0 where
  pub vertices : new.vertices ≡ old.vertices
  pub phase : new.phase ≡ old.phase + 1
  pub plan_is : new.plan ≡ plan
  pub published : new.published ≡ count
  pub loans : new.loans ≡ []
  pub cleared : (k : ℕ) → k < count → AllMovesIn new.cleared (group_at plan k)

-- the writer of this store, which has n vertices, has shown nothing
abbrev pub IsFresh : ℕ → StoreShape → WriterShape → Type 0
IsFresh n store writer = (writer.table ≡ store.table) × (n ≡ store.vertices) × (writer.state.vertices ≡ n) × IsIdle writer.state × (writer.state.phase ≡ 0)

-- plans for n vertices, two or more
abbrev pub ArePlans : ℕ → List PhasePlan → Type 0
ArePlans n plans = All (IsWellFormed n) plans × (2 ≤ length plans)
