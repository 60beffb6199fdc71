-- What a marker has done with its range, and when a plan can be shown.
use Rattle.std.specs.Prelude.{◌≡◌, ℕ, ◌-◌, List, [], ◌++◌, length, map, All}
use Rattle.std.specs.List.{range_with_len}
use Rattle.kc_history.specs.declared.entries.Entry.{Entry}
use Rattle.kc_groups.specs.WellFormed.{vertex_at}
use Rattle.kc_store.specs.declared.roles.WriterState.{WriterState}
use Rattle.kc_store.specs.declared.roles.MarkerState.{MarkerState}
use Rattle.kc_store.specs.Plans.{Move}
use Rattle.kc_store.specs.States.{AllMovesIn, last_level}

-- the vertices of a marker's moves in order, from the first of its range up to the number `end`, without `end`
abbrev pub lent_vertices : ℕ → MarkerState → List ℕ
lent_vertices end m = map (vertex_at m.plan m.loan.group) (range_with_len m.loan.from (end - m.loan.from))

-- a marker noted and marked these moves, each once and in order, and changed nothing else
abbrev pub HasMarkedLent : ℕ → MarkerState → MarkerState → Type 0
HasMarkedLent end old new = new ≡ record old { noted = old.noted ++ lent_vertices end old; marked = old.marked ++ lent_vertices end old }

-- a marker cleared these moves, each once and in order, and changed nothing else
abbrev pub HasClearedLent : ℕ → MarkerState → MarkerState → Type 0
HasClearedLent end old new = new ≡ record old { cleared = old.cleared ++ lent_vertices end old }

-- the old level of each move is the level of its vertex at the end of the history
abbrev pub AreCurrent : ℕ → List Entry → Entry → Type 0
AreCurrent n history e = All (λ (m : Move). last_level n history m.vertex ≡ m.old) e.moves

-- the last begun phase, if there is one, is shown, and no marker is out
pub record IsIdle (s : WriterState) : Type 0 where
  pub published : s.published ≡ length s.plan.groups
  pub cleared : All (AllMovesIn s.cleared) s.plan.groups
  pub loans : s.loans ≡ []
