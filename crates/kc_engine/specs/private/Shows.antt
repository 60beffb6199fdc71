-- What contracts see of a show.
use Rattle.std.specs.Prelude.{ℕ, List}
use Rattle.atomic_table.specs.Seated.{TableId}
use Rattle.kc_groups.specs.declared.plans.PhasePlan.{PhasePlan}

-- a show: the table of its store, its phases, and the number of vertices of each phase
pub record ShowShape : Type 0 where
  pub table : TableId
  pub phases : List PhasePlan
  pub n : ℕ
