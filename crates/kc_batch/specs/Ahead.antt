-- A batch that was read ahead as far as its lines lay in a reader's memory.
use Rattle.std.specs.Prelude.{ℕ, ◌+◌, ◌≡◌, Bool, true, false, List, Option}
use Rattle.std.specs.Option.{option_map}
use Rattle.kc_graph.specs.declared.items.Item.{Item}
use Rattle.kc_text.specs.Reading.{Reading, budget}
use Rattle.kc_batch.specs.declared.rules.Rules.{Rules}
use Rattle.kc_batch.specs.declared.ahead.Ahead.{Ahead}
use Rattle.kc_batch.specs.declared.batch.Next.{Next}
use Rattle.kc_batch.specs.Tokens.{tokens_left}
use Rattle.kc_batch.specs.Batches.{Place, Between, Within, batches_from, batch_from, with_next, batches_left, behind_batch}

-- the place of the next line, if a batch has begun or not, and has these items so far
abbrev pub place_of : Bool → List Item → Place
place_of true items = Within items
place_of false items = Between

-- the batches of the lines that a reader has still to give, the first of which stands at this place
abbrev pub batches_at : Rules → Place → Reading → Option (List ℕ) → Option (List Next)
batches_at rules place r left = option_map (batches_from rules place) (tokens_left r left)

-- the batch that was read ahead, if there is one, and those of the lines that a reader has still to give
abbrev pub batches_ahead : Ahead → Reading → Option (List ℕ) → Option (List Next)
batches_ahead a r left = batches_at a.rules (place_of a.begun a.items) r left

-- the batch that was read ahead goes on in the lines that a reader had still to give, and is `next`
--
-- If none was read ahead, `next` is the first of those lines. The lines after it are those still to give.
abbrev pub ReadsAhead : Ahead → Reading → Option (List ℕ) → Reading → Option (List ℕ) → Next → Type 0
ReadsAhead a old left new rest next = option_map (batch_from a.rules (place_of a.begun a.items)) (tokens_left old left) ≡ option_map (with_next next) (tokens_left new rest)

-- the batches, with that read ahead, are `next` and those still to give
abbrev pub FollowsAhead : Ahead → Reading → Option (List ℕ) → Reading → Option (List ℕ) → Next → Type 0
FollowsAhead a old left new rest next = batches_ahead a old left ≡ option_map (behind_batch next) (batches_left a.rules new rest)

-- a budget, and one byte more if a batch has begun: its rest may take nothing
abbrev pub with_begun : Bool → ℕ → ℕ
with_begun true budget = budget + 1
with_begun false budget = budget

-- a reader's budget, with a batch that was read ahead
abbrev pub ahead_budget : Ahead → Reading → ℕ
ahead_budget a r = with_begun a.begun (budget r)
