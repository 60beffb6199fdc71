-- Items that lines add to a batch.
use Rattle.std.specs.Prelude.{ℕ, ◌≡◌, ◌≤◌, true, All, List, length, Option}
use Rattle.std.specs.Option.{option_map}
use Rattle.kc_graph.specs.Cleaning.{IsInside}
use Rattle.kc_graph.specs.declared.items.Item.{Item}
use Rattle.kc_text.specs.Reading.{Reading}
use Rattle.kc_batch.specs.declared.rules.Rules.{Rules}
use Rattle.kc_batch.specs.Ahead.{batches_at}
use Rattle.kc_batch.specs.Batches.{Within, batch_from}
use Rattle.kc_batch.specs.Tokens.{tokens_left}
use Rattle.kc_batch.specs.Turns.{is_allowed}

-- the items that a batch may have so far
pub record AreItems (rules : Rules) (items : List Item) : Type 0 where
  pub few : length items ≤ rules.item_limit
  pub inside : All (IsInside rules.n) items
  pub allowed : All (λ item. is_allowed rules.profile item ≡ true) items

-- reading on with the new items after these lines gives what reading on with the old ones before them gives
pub record Adds (rules : Rules) (old : List Item) (before : Reading) (new : List Item) (after : Reading) : Type 0 where
  pub batch : (left : Option (List ℕ)) → option_map (batch_from rules (Within old)) (tokens_left before left) ≡ option_map (batch_from rules (Within new)) (tokens_left after left)
  pub batches : (left : Option (List ℕ)) → batches_at rules (Within old) before left ≡ batches_at rules (Within new) after left
