-- The input that a generated load is: a header with two asks, and batches without a fault.
use Rattle.std.specs.Prelude.{ℕ, zero, suc, ◌≡◌, ◌≤◌, ◌+◌, ◌%◌, ◌^◌, ◌==◌, List, [], ◌∷◌, min, if◌then◌else◌}
use Rattle.kc_graph.specs.declared.items.Item.{Item}
use Rattle.kc_graph.specs.declared.items.Item.TheVariants.{Insert, Delete}
use Rattle.kc_graph.specs.declared.limits.TheConstants.{MAX_ITEMS}
use Rattle.kc_levels.specs.declared.profile.Profile.TheVariants.{One}
use Rattle.kc_batch.specs.declared.ask.Ask.{Ask}
use Rattle.kc_batch.specs.declared.batch.Next.{Next}
use Rattle.kc_batch.specs.Batches.{whole}
use Rattle.kc_batch.specs.BatchInputs.{input_of, WithBatches}
use Rattle.kc_batch.specs.HeaderShape.{HeaderShape}
use Rattle.kc_session.specs.Generated.{next_state, drawn, after_item, after_items, first_numbers, generated, IsLoad}

-- the item of three draws
abbrev pub item_drawn : ℕ → ℕ → ℕ → ℕ → Item
item_drawn n a b c = if drawn c % 4 == 0 then Delete (drawn a % n) (drawn b % n) else Insert (drawn a % n) (drawn b % n)

-- `count` items from the state s on
unfoldable pub items_drawn : ℕ → ℕ → ℕ → List Item
items_drawn n s zero = []
items_drawn n s (suc count) = item_drawn n (next_state s) (next_state (next_state s)) (next_state (next_state (next_state s))) ∷ items_drawn n (after_item s) count

-- `batches` batches; the first begins at this line
unfoldable pub load_batches : ℕ → ℕ → ℕ → ℕ → ℕ → List Next
load_batches n items line s zero = []
load_batches n items line s (suc batches) = whole (items_drawn n s items) (line + items + 1) ∷ load_batches n items (line + items + 2) (after_items s items) batches

abbrev pub load_ask : ℕ → Ask
load_ask n = record { times = 4; vertices = first_numbers (min n 16) }

abbrev pub load_header : ℕ → HeaderShape
load_header n = record { profile = One; n = n; asks = load_ask n ∷ load_ask n ∷ [] }

-- a load is an input with this header and these batches, none of which the grammar refuses
abbrev pub LoadsAreRead : Type 0
LoadsAreRead =
    (line_limit input_limit seed n batches items : ℕ) → 256 ≤ line_limit → 2 ^ 30 ≤ input_limit → IsLoad n batches items
    → input_of line_limit input_limit MAX_ITEMS (generated seed n batches items) ≡ WithBatches (load_header n) (load_batches n items 5 seed batches)
