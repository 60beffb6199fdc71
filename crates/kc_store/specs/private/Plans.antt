-- The places of a plan.
use Rattle.std.specs.Prelude.{◌≡◌, ℕ, List, [], ◌∷◌, Option, Some, None, if◌then◌else◌}
use Rattle.std.specs.List.{slice_get}
use Rattle.kc_history.specs.declared.entries.Entry.{Entry}
use Rattle.kc_levels.specs.declared.moves.Move.{Move}
use Rattle.kc_history.specs.private.Ends.{is_label}
use Rattle.kc_groups.specs.declared.plans.PhasePlan.{PhasePlan}

-- the group with the label g, if there is one
abbrev pub group_of : ℕ → List Entry → Option Entry
group_of g [] = None
group_of g (e ∷ es) = if is_label g e.label then Some e else group_of g es

-- m is move i of the group at place g, which is e
pub record IsMoveAt (plan : PhasePlan) (g i : ℕ) (e : Entry) (m : Move) : Type 0 where
  pub group_is : slice_get plan.groups g ≡ Some e
  pub move_is : slice_get e.moves i ≡ Some m
