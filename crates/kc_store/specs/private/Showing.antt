-- What a writer has shown of a phase, move by move and group by group.
use Rattle.std.specs.Prelude.{◌≡◌, ℕ, ◌+◌, ◌<◌, [], ◌∷◌, ◌++◌, take, Contains}
use Rattle.kc_groups.specs.declared.plans.PhasePlan.{PhasePlan}
use Rattle.kc_groups.specs.Entries.{entries_of}
use Rattle.kc_groups.specs.WellFormed.{vertex_at}
use Rattle.kc_store.specs.declared.roles.WriterState.{WriterState}
use Rattle.kc_store.specs.Plans.{group_at}
use Rattle.kc_store.specs.States.{AllMovesIn}

-- the first `count` moves of the group at place g are marked
pub record HasMarked (g count : ℕ) (old new : WriterState) : Type 0 where
  pub same : new ≡ record old { noted = new.noted; marked = new.marked; loans = new.loans; lent = new.lent }
  pub loans : new.loans ≡ old.loans
  pub each : (i : ℕ) → i < count → Contains new.marked (vertex_at old.plan g i)

-- the first `count` moves of the group at place g are cleared, and so are the moves that were cleared before
pub record HasCleared (g count : ℕ) (old new : WriterState) : Type 0 where
  pub same : new ≡ record old { cleared = new.cleared }
  pub kept : (v : ℕ) → Contains old.cleared v → Contains new.cleared v
  pub each : (i : ℕ) → i < count → Contains new.cleared (vertex_at old.plan g i)

-- the next group is marked, published and cleared
pub record HasShownGroup (g : ℕ) (old new : WriterState) : Type 0 where
  pub same : new ≡ record old { noted = new.noted; marked = new.marked; cleared = new.cleared; loans = new.loans; lent = new.lent; history = old.history ++ group_at old.plan g ∷ []; published = old.published + 1 }
  pub loans : new.loans ≡ []
  pub kept : (v : ℕ) → Contains old.cleared v → Contains new.cleared v
  pub each : AllMovesIn new.cleared (group_at old.plan g)

-- the first `count` groups of a plan are shown: published and cleared
pub record HasShown (plan : PhasePlan) (count : ℕ) (old new : WriterState) : Type 0 where
  pub vertices : new.vertices ≡ old.vertices
  pub phase : new.phase ≡ old.phase + 1
  pub plan_is : new.plan ≡ plan
  pub published : new.published ≡ count
  pub history : new.history ≡ old.history ++ take (count + 1) (entries_of plan)
  pub loans : new.loans ≡ []
  pub cleared : (k : ℕ) → k < count → AllMovesIn new.cleared (group_at plan k)

-- the plan is the open phase's, its first `count` groups are published, and no marker is out
pub record IsAt (plan : PhasePlan) (count : ℕ) (s : WriterState) : Type 0 where
  pub plan_is : s.plan ≡ plan
  pub published : s.published ≡ count
  pub loans : s.loans ≡ []
