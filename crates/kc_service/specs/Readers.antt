-- What contracts see of a reader, and the answer to one reading.
use Rattle.std.specs.Prelude.{ℕ, List, length, min}
use Rattle.atomic_table.specs.Seated.{TableId}
use Rattle.kc_levels.specs.declared.profile.Profile.{Profile}
use Rattle.kc_levels.specs.Thresholds.{lo, est, high, group_of, top_level}
use Rattle.kc_history.specs.declared.entries.Entry.{Entry}
use Rattle.kc_service.specs.declared.reader.Bounds.{Bounds}
use Rattle.kc_service.specs.Services.{ServiceView}

-- what contracts see of a reader
pub record ReaderView : Type 0 where
  -- the table of the levels that it reads
  pub table : TableId
  pub profile : Profile
  pub vertices : ℕ
  -- the part of the history that it has seen
  pub seen : List Entry
  -- the length of the history when the reader was made
  pub made : ℕ

-- a reader of the service that has read nothing yet
abbrev pub first_view : ServiceView → ReaderView
first_view s = record { table = s.table; profile = s.state.profile; vertices = s.vertices; seen = s.history; made = length s.history }

-- the group of a level, or the last group for a level above the top, on which no vertex of a service is
abbrev pub group_below_top : Profile → ℕ → ℕ → ℕ
group_below_top p n level = group_of p n (min level (top_level p n))

-- a level of a graph with n vertices, and the bounds and the estimate of its group
abbrev pub bounds_at : Profile → ℕ → ℕ → Bounds
bounds_at p n level = record { level = level; low = lo p (group_below_top p n level); est = est p (group_below_top p n level); high = high p (group_below_top p n level) }
