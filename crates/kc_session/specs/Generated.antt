-- The text of a generated load for a seed, a number of vertices, a number of batches and the number of items of each.
use Rattle.std.specs.Prelude.{ℕ, ◌≤◌, zero, suc, ◌+◌, ◌*◌, ◌/◌, ◌%◌, ◌^◌, ◌==◌, List, [], ◌∷◌, ◌++◌, map, min, decimal, codes, if◌then◌else◌}
use Rattle.kc_graph.specs.declared.limits.TheConstants.{MAX_VERTICES, MAX_ITEMS}
use Rattle.kc_text.specs.Printing.{printed}

-- a linear congruential generator: the state after a state
unfoldable pub next_state : ℕ → ℕ
next_state s = (1664525 * s + 1013904223) % 2 ^ 32

-- the draw that leads to this state
abbrev pub drawn : ℕ → ℕ
drawn s = s / 256

-- an item is made of three draws, which lead to the states a, b and c
--
-- The ends of its edge are the first two draws modulo n, and one edge in four leaves.
abbrev pub item_of_draws : ℕ → ℕ → ℕ → ℕ → List (List ℕ)
item_of_draws n a b c = (if drawn c % 4 == 0 then codes "-" else codes "+") ∷ decimal (drawn a % n) ∷ decimal (drawn b % n) ∷ []

-- the item that is drawn next in the state s, and the state after it
abbrev pub drawn_item : ℕ → ℕ → List (List ℕ)
drawn_item n s = item_of_draws n (next_state s) (next_state (next_state s)) (next_state (next_state (next_state s)))

abbrev pub after_item : ℕ → ℕ
after_item s = next_state (next_state (next_state s))

-- `count` items from the state s on, and the state after them
unfoldable pub drawn_items : ℕ → ℕ → ℕ → List (List (List ℕ))
drawn_items n s zero = []
drawn_items n s (suc count) = drawn_item n s ∷ drawn_items n (after_item s) count

unfoldable pub after_items : ℕ → ℕ → ℕ
after_items s zero = s
after_items s (suc count) = after_items (after_item s) count

-- `batches` batches of `items` items from the state s on
unfoldable pub drawn_batches : ℕ → ℕ → ℕ → ℕ → List (List (List ℕ))
drawn_batches n items s zero = []
drawn_batches n items s (suc batches) =
    (codes "batch" ∷ []) ∷ drawn_items n s items ++ (codes "end" ∷ []) ∷ drawn_batches n items (after_items s items) batches

-- the first `count` numbers, from 0 on
unfoldable pub first_numbers : ℕ → List ℕ
first_numbers zero = []
first_numbers (suc count) = first_numbers count ++ count ∷ []

-- a reader that asks four times for the first 16 vertices, or for all if there are fewer
abbrev pub ask_words : ℕ → List (List ℕ)
ask_words n = codes "ask" ∷ codes "4" ∷ map decimal (first_numbers (min n 16))

abbrev pub head_words : ℕ → List (List (List ℕ))
head_words n = (codes "kcore" ∷ codes "1" ∷ []) ∷ (codes "vertices" ∷ decimal n ∷ []) ∷ ask_words n ∷ ask_words n ∷ []

-- the lines of a load, each as its words
abbrev pub load_words : ℕ → ℕ → ℕ → ℕ → List (List (List ℕ))
load_words seed n batches items = head_words n ++ drawn_batches n items seed batches

-- the text of a load
unfoldable pub generated : ℕ → ℕ → ℕ → ℕ → List ℕ
generated seed n batches items = printed (load_words seed n batches items)

-- the ranges of a load's numbers; the seed is any number below 2 ^ 32
pub record IsLoad (n batches items : ℕ) : Type 0 where
  pub some_vertices : 1 ≤ n
  pub few_vertices : n ≤ MAX_VERTICES
  pub some_batches : 1 ≤ batches
  pub few_batches : batches ≤ 1024
  pub few_items : items ≤ MAX_ITEMS
  pub few_in_all : batches * items ≤ 33554432
