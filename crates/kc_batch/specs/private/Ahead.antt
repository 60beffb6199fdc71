-- The rest of a batch.
use Rattle.std.specs.Prelude.{ℕ, ◌≡◌, List, Option}
use Rattle.std.specs.Option.{option_map}
use Rattle.kc_text.specs.Reading.{Reading}
use Rattle.kc_batch.specs.declared.ahead.Ahead.{Ahead}
use Rattle.kc_batch.specs.declared.batch.Next.{Next}
use Rattle.kc_batch.specs.Tokens.{tokens_left}
use Rattle.kc_batch.specs.Batches.{Within, batch_from, with_next}

-- the rest of a batch whose `batch` line was read ahead makes it `next`, and the lines after it are those still to give
abbrev pub ReadsRest : Ahead → Reading → Option (List ℕ) → Reading → Option (List ℕ) → Next → Type 0
ReadsRest a old left new rest next = option_map (batch_from a.rules (Within a.items)) (tokens_left old left) ≡ option_map (with_next next) (tokens_left new rest)
