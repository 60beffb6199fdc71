-- The markers of one group: they are lent, work side by side, and are given back.
use Rattle.std.specs.Prelude.{◌≡◌, ℕ, ◌<◌, ◌≤◌, Bool, true, false, List, [], ◌∷◌, length, get_or, All, Contains, nat_lt}
use Rattle.atomic_table.specs.Seated.{TableId}
use Rattle.kc_groups.specs.declared.plans.PhasePlan.{PhasePlan}
use Rattle.kc_groups.specs.WellFormed.{vertex_at}
use Rattle.kc_store.specs.declared.roles.Loan.{Loan}
use Rattle.kc_store.specs.declared.roles.MarkerState.{MarkerState}
use Rattle.kc_store.specs.declared.roles.WriterState.{WriterState}
use Rattle.kc_store.specs.Seats.{MarkerShape}
use Rattle.kc_store.specs.States.{with_returned}
use Rattle.kc_store.specs.Showing.{HasMarkedLent, HasClearedLent}
use Rattle.kc_engine.specs.declared.showing.side_by_side.Task.{Task}
use Rattle.kc_engine.specs.declared.showing.side_by_side.Task.TheVariants.{Mark, Clear}

-- one of the markers has this loan
abbrev pub IsHeld : List MarkerShape → Loan → Type 0
IsHeld ms l = (m : MarkerShape) × Contains ms m × (m.state.loan.number ≡ l.number)

-- move i is in the range of one of the markers
abbrev pub IsCovered : List MarkerShape → ℕ → Type 0
IsCovered ms i = (m : MarkerShape) × Contains ms m × (m.state.loan.from ≤ i) × (i < m.state.loan.to)

-- the marker is for moves of the group at place g, and was lent by a writer in the state s
pub record IsLentBy (table : TableId) (g : ℕ) (s : WriterState) (m : MarkerShape) : Type 0 where
  pub table_is : m.table ≡ table
  pub plan_is : m.state.plan ≡ s.plan
  pub group_is : m.state.loan.group ≡ g
  pub published_is : m.state.loan.published ≡ nat_lt g s.published

-- the first `end` moves of the group at place g are lent to these markers, and nothing else is lent
pub record AreLent (table : TableId) (g end : ℕ) (old new : WriterState) (ms : List MarkerShape) : Type 0 where
  pub same : new ≡ record old { loans = new.loans; lent = new.lent }
  pub held : All (IsHeld ms) new.loans
  pub before : All (λ (l : Loan). l.to ≤ end) new.loans
  pub each : All (IsLentBy table g old) ms
  pub covered : (i : ℕ) → i < end → IsCovered ms i

-- whether the task is done after the group was published
abbrev pub is_late : Task → Bool
is_late Mark = false
is_late Clear = true

-- the task may be done on the group at place g, when `published` groups of the plan are published
abbrev pub IsDue : Task → ℕ → ℕ → Type 0
IsDue Mark g published = published ≤ g
IsDue Clear g published = g < published

-- the marker may do the task
pub record MayDo (table : TableId) (plan : PhasePlan) (task : Task) (m : MarkerShape) : Type 0 where
  pub table_is : m.table ≡ table
  pub plan_is : plan ≡ m.state.plan
  pub published_is : m.state.loan.published ≡ is_late task

-- the marker did the task on its first moves, up to the number `end`, without `end`
abbrev pub HasDoneLent : Task → ℕ → MarkerState → MarkerState → Type 0
HasDoneLent Mark end old new = HasMarkedLent end old new
HasDoneLent Clear end old new = HasClearedLent end old new

-- the marker did the task on each move of its range
pub record HasDoneRange (task : Task) (old new : MarkerShape) : Type 0 where
  pub table : new.table ≡ old.table
  pub done : HasDoneLent task old.state.loan.to old.state new.state

-- each marker did the task on its range
pub record AreDone (task : Task) (old new : List MarkerShape) : Type 0 where
  pub long : length new ≡ length old
  pub each : (i : ℕ) (d : MarkerShape) → i < length old → HasDoneRange task (get_or old i d) (get_or new i d)

-- the markers are given back, the last one first
abbrev pub all_returned : List MarkerShape → WriterState → WriterState
all_returned [] s = s
all_returned (m ∷ ms) s = with_returned m.state (all_returned ms s)

-- the vertices whose moves the task was done on
abbrev pub done_in : Task → WriterState → List ℕ
done_in Mark s = s.marked
done_in Clear s = s.cleared

-- the task was done on the first `count` moves of the group at place g, and no marker is out
pub record HasDoneGroup (task : Task) (g count : ℕ) (old new : WriterState) : Type 0 where
  pub same : new ≡ record old { noted = new.noted; marked = new.marked; cleared = new.cleared; loans = new.loans; lent = new.lent }
  pub loans : new.loans ≡ []
  pub kept : (v : ℕ) → Contains old.cleared v → Contains new.cleared v
  pub each : (i : ℕ) → i < count → Contains (done_in task new) (vertex_at old.plan g i)
