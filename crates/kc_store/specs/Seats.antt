-- What contracts see of a store, a writer, a marker and a pass, and the states of their seats.
use Rattle.std.specs.Prelude.{◌≡◌, ℕ, ◌+◌, ◌*◌, ◌≤◌, false, List, [], length, Some}
use Rattle.std.specs.List.{slice_get}
use Rattle.atomic_table.specs.Seated.{TableId}
use Rattle.atomic_table.specs.declared.shared.Seat.{Seat}
use Rattle.kc_history.specs.declared.limits.TheConstants.{MAX_PHASE}
use Rattle.kc_graph.specs.declared.limits.TheConstants.{MAX_VERTICES}
use Rattle.kc_history.specs.declared.entries.Entry.{Entry}
use Rattle.kc_groups.specs.declared.plans.PhasePlan.{PhasePlan}
use Rattle.kc_store.specs.declared.roles.WriterState.{WriterState}
use Rattle.kc_store.specs.declared.roles.MarkerState.{MarkerState}
use Rattle.kc_store.specs.declared.roles.Role.{Role}
use Rattle.kc_store.specs.declared.roles.Role.TheVariants.{Writes, Marks, Reads, Looks, FoundBelow}
use Rattle.kc_store.specs.Plans.{IsFormed}
use Rattle.kc_store.specs.States.{empty_plan, opened}

-- a store: its table, and its number of vertices
pub record StoreShape : Type 0 where
  pub table : TableId
  pub vertices : ℕ

-- a writer: the table that it writes, and its state
pub record WriterShape : Type 0 where
  pub table : TableId
  pub state : WriterState

-- a marker: the table that it writes, and its state
pub record MarkerShape : Type 0 where
  pub table : TableId
  pub state : MarkerState

-- a pass: the table that it reads, and the part of the history that it has seen
--
-- `made` is the length of the history when the pass was made.
pub record PassShape : Type 0 where
  pub table : TableId
  pub seen : List Entry
  pub made : ℕ

abbrev pub writer_of : Role → WriterState
writer_of (Writes s) = s
writer_of _ = opened 0 0

abbrev pub no_marker : MarkerState
no_marker = record { vertices = 0; phase = 0; plan = empty_plan 0; loan = record { group = 0; from = 0; to = 0; published = false; number = 0 }; noted = []; marked = []; cleared = [] }

abbrev pub marker_of : Role → MarkerState
marker_of (Marks m) = m
marker_of _ = no_marker

abbrev pub vertices_of : Role → ℕ
vertices_of (Reads n seen made) = n
vertices_of (Looks q) = q.vertices
vertices_of (FoundBelow q) = q.vertices
vertices_of _ = 0

abbrev pub seen_of : Role → List Entry
seen_of (Reads n seen made) = seen
seen_of (Looks q) = q.seen
seen_of (FoundBelow q) = q.seen
seen_of _ = []

abbrev pub made_of : Role → ℕ
made_of (Reads n seen made) = made
made_of (Looks q) = q.made
made_of (FoundBelow q) = q.made
made_of _ = 0

abbrev pub writer_shape : Seat ℕ Role → WriterShape
writer_shape s = record { table = s.table_id; state = writer_of s.me.0 }

abbrev pub marker_shape : Seat ℕ Role → MarkerShape
marker_shape s = record { table = s.table_id; state = marker_of s.me.0 }

abbrev pub pass_shape : Seat ℕ Role → PassShape
pass_shape s = record { table = s.table_id; seen = seen_of s.me.0; made = made_of s.me.0 }

-- the group at place g has at least `to` moves
pub record HasRange (plan : PhasePlan) (g to : ℕ) : Type 0 where
  pub group : Entry
  pub group_is : slice_get plan.groups g ≡ Some group
  pub to_in : to ≤ length group.moves

pub record IsWriter (s : Seat ℕ Role) : Type 0 where
  pub me_is : s.me ≡ (Writes (writer_of s.me.0), [])
  pub sized : s.table_id.words ≡ 3 * (writer_of s.me.0).vertices + 1
  pub small : (writer_of s.me.0).vertices ≤ MAX_VERTICES
  pub phase_in : (writer_of s.me.0).phase ≤ MAX_PHASE
  pub formed : IsFormed (writer_of s.me.0).vertices (writer_of s.me.0).phase (writer_of s.me.0).plan

pub record IsMarker (s : Seat ℕ Role) : Type 0 where
  pub me_is : s.me ≡ (Marks (marker_of s.me.0), [])
  pub sized : s.table_id.words ≡ 3 * (marker_of s.me.0).vertices + 1
  pub small : (marker_of s.me.0).vertices ≤ MAX_VERTICES
  pub phase_in : (marker_of s.me.0).phase ≤ MAX_PHASE
  pub formed : IsFormed (marker_of s.me.0).vertices (marker_of s.me.0).phase (marker_of s.me.0).plan
  pub range : HasRange (marker_of s.me.0).plan (marker_of s.me.0).loan.group (marker_of s.me.0).loan.to

pub record IsPass (s : Seat ℕ Role) : Type 0 where
  pub me_is : s.me ≡ (Reads (vertices_of s.me.0) (seen_of s.me.0) (made_of s.me.0), [])
  pub sized : s.table_id.words ≡ 3 * vertices_of s.me.0 + 1
