-- When drained batches are what the clients submitted.
use Rattle.std.specs.Prelude.{ℕ, ◌≡◌, ◌≤◌, ◌<◌, List, [], length, map, get_or, All}
use Rattle.kc_graph.specs.declared.items.Item.{Item}
use Rattle.kc_intake.specs.declared.updates.Update.{Update}
use Rattle.kc_intake.specs.Updates.{updates_of, all_updates}
use Rattle.kserve.specs.declared.limits.TheConstants.{CAPACITY}

abbrev pub items_of : List Update → List Item
items_of updates = map (λ u. u.item) updates

-- the batches are what the clients with these scripts submitted
--
-- Each has 1 to 1,024 updates, and each update is of one of the clients. The items of each client, in order, are its
-- script.
pub record Fit (scripts : List (List Item)) (batches : List (List Update)) : Type 0 where
  pub sizes : All (λ batch. (1 ≤ length batch) × (length batch ≤ CAPACITY)) batches
  pub clients : All (λ u. u.client < length scripts) (all_updates batches)
  pub items : (c : ℕ) → c < length scripts → items_of (updates_of c (all_updates batches)) ≡ get_or scripts c []
