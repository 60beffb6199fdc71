-- The states of writer, markers and passes, and how each call changes them.
use Rattle.std.specs.Prelude.{◌≡◌, ◌≢◌, ◌⊎◌, ℕ, ◌+◌, ◌<◌, ◌≤◌, true, List, [], ◌∷◌, ◌++◌, Option, Some, None, length, get_or, All, Contains, if◌then◌else◌, nat_eq, nat_lt}
use Rattle.std.specs.List.{slice_get}
use Rattle.kc_history.specs.declared.limits.TheConstants.{MAX_PHASE}
use Rattle.kc_history.specs.declared.entries.Entry.{Entry}
use Rattle.kc_history.specs.Points.{levels_at}
use Rattle.kc_groups.specs.declared.plans.PhasePlan.{PhasePlan}
use Rattle.kc_groups.specs.WellFormed.{IsWellFormed}
use Rattle.kc_store.specs.declared.roles.WriterState.{WriterState}
use Rattle.kc_store.specs.declared.roles.Loan.{Loan}
use Rattle.kc_store.specs.declared.roles.MarkerState.{MarkerState}
use Rattle.kc_store.specs.Plans.{Move, group_at}

-- a plan without groups and edges
abbrev pub empty_plan : ℕ → PhasePlan
empty_plan phase = record { quiet = record { phase = phase; label = None; add = true; moves = []; edges = [] }; groups = [] }

-- the writer of a store that was just opened
abbrev pub opened : ℕ → ℕ → WriterState
opened n before = record { vertices = n; before = before; phase = before; plan = empty_plan before; published = 0; history = []; noted = []; marked = []; cleared = []; joined = []; loans = []; lent = 0 }

-- the phase of a plan begins
abbrev pub with_phase : PhasePlan → WriterState → WriterState
with_phase plan s = record s { history = s.history ++ plan.quiet ∷ []; plan = plan; published = 0; phase = s.phase + 1; noted = []; marked = []; cleared = [] }

-- the old level of v is stored
abbrev pub with_noted : ℕ → WriterState → WriterState
with_noted v s = record s { noted = s.noted ++ v ∷ [] }

-- the mark of v, whose move is noted, is stored
abbrev pub with_mark : ℕ → WriterState → WriterState
with_mark v s = record s { marked = s.marked ++ v ∷ [] }

-- the move of v is noted and marked
abbrev pub with_marked : ℕ → WriterState → WriterState
with_marked v s = with_mark v (with_noted v s)

-- the move of v is cleared
abbrev pub with_cleared : ℕ → WriterState → WriterState
with_cleared v s = record s { cleared = s.cleared ++ v ∷ [] }

-- a list with an entry at its end, if there is one
abbrev pub with_entry_if : Option Entry → List Entry → List Entry
with_entry_if None es = es
with_entry_if (Some e) es = es ++ e ∷ []

-- the next group of the plan is published
abbrev pub with_published : WriterState → WriterState
with_published s = record s { history = with_entry_if (slice_get s.plan.groups s.published) s.history; published = s.published + 1 }

-- a pass that had seen this part of the history is taken in
abbrev pub with_joined : List Entry → WriterState → WriterState
with_joined seen s = record s { joined = seen ∷ s.joined }

-- the loan of a range of moves of the group at place g, as it would be lent now
abbrev pub loan_of : ℕ → ℕ → ℕ → WriterState → Loan
loan_of g from to s = record { group = g; from = from; to = to; published = nat_lt g s.published; number = s.lent }

-- this range is lent
abbrev pub with_loan : ℕ → ℕ → ℕ → WriterState → WriterState
with_loan g from to s = record s { loans = loan_of g from to s ∷ s.loans; lent = s.lent + 1 }

-- the marker that gets this loan
abbrev pub marker_for : ℕ → ℕ → ℕ → WriterState → MarkerState
marker_for g from to s = record { vertices = s.vertices; phase = s.phase; plan = s.plan; loan = loan_of g from to s; noted = []; marked = []; cleared = [] }

-- all loans but the one with this number
abbrev pub without_loan : ℕ → List Loan → List Loan
without_loan k [] = []
without_loan k (l ∷ ls) = if nat_eq l.number k then without_loan k ls else l ∷ without_loan k ls

-- a marker is given back: what it noted, marked and cleared counts as noted, marked and cleared
abbrev pub with_returned : MarkerState → WriterState → WriterState
with_returned m s = record s { loans = without_loan m.loan.number s.loans; noted = s.noted ++ m.noted; marked = s.marked ++ m.marked; cleared = s.cleared ++ m.cleared }

-- the move of v is noted by a marker
abbrev pub marker_noted : ℕ → MarkerState → MarkerState
marker_noted v m = record m { noted = m.noted ++ v ∷ [] }

abbrev pub marker_mark : ℕ → MarkerState → MarkerState
marker_mark v m = record m { marked = m.marked ++ v ∷ [] }

-- the move of v is noted and marked
abbrev pub marker_marked : ℕ → MarkerState → MarkerState
marker_marked v m = marker_mark v (marker_noted v m)

-- the move of v is cleared
abbrev pub marker_cleared : ℕ → MarkerState → MarkerState
marker_cleared v m = record m { cleared = m.cleared ++ v ∷ [] }

-- each move of the group is of a vertex in the list
abbrev pub AllMovesIn : List ℕ → Entry → Type 0
AllMovesIn vs e = All (λ (m : Move). Contains vs m.vertex) e.moves

-- the level of a vertex at the end of a history
abbrev pub last_level : ℕ → List Entry → ℕ → ℕ
last_level n history v = get_or (levels_at n history (length history)) v 0

-- a phase with this plan may begin
pub record MayBegin (s : WriterState) (plan : PhasePlan) : Type 0 where
  pub all_published : s.published ≡ length s.plan.groups
  pub all_cleared : All (AllMovesIn s.cleared) s.plan.groups
  pub none_out : s.loans ≡ []
  pub next : plan.quiet.phase ≡ s.phase + 1
  pub phase_in : s.phase + 1 ≤ MAX_PHASE
  pub well_formed : IsWellFormed s.vertices plan
  pub old_levels : All (λ (e : Entry). All (λ (m : Move). last_level s.vertices s.history m.vertex ≡ m.old) e.moves) plan.groups

-- the group at place g may be published
pub record MayPublish (s : WriterState) (g : ℕ) : Type 0 where
  pub inside : g < length s.plan.groups
  pub next : g ≡ s.published
  pub none_out : All (λ (l : Loan). l.group ≢ g) s.loans
  pub all_marked : AllMovesIn s.marked (group_at s.plan g)

-- none of these moves of the group at place g is lent
abbrev pub AreNotLent : ℕ → ℕ → ℕ → List Loan → Type 0
AreNotLent g from to loans = All (λ (l : Loan). l.group ≡ g → (i : ℕ) → from ≤ i → i < to → (i < l.from) ⊎ (l.to ≤ i)) loans
