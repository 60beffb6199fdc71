-- The ranges of scripts.
use Rattle.std.specs.Prelude.{ℕ, ◌≡◌, ◌≤◌, true, List, length, All}
use Rattle.kc_graph.specs.declared.items.Item.{Item}
use Rattle.kc_graph.specs.declared.limits.TheConstants.{MAX_ITEMS, MAX_VERTICES}
use Rattle.kc_intake.specs.declared.limits.TheConstants.{MAX_CLIENTS}
use Rattle.kserve.specs.Inputs.{items_in}
use Rattle.kserve.specs.private.Fitting.{is_due}

-- the ranges of scripts, whatever the source tells
pub record AreScripts (n : ℕ) (scripts : List (List Item)) : Type 0 where
  pub some_vertices : 1 ≤ n
  pub small : n ≤ MAX_VERTICES
  pub few : length scripts ≤ MAX_CLIENTS
  pub few_items : items_in scripts ≤ MAX_ITEMS
  pub due : All (All (λ item. is_due n item ≡ true)) scripts
