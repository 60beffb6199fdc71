-- The batches of an input, each with its items or its first fault.
--
-- The tokens are the meanings of the lines that aren't skipped. Each token stands at a place: between batches, within a
-- batch, after the fault of one, or after the last line. `step` is what a token does at its place. It leads to the
-- place of the next token, and it may close or refuse a batch. `batches` are the batches of all tokens, in order.
-- `batch_of` is the first batch, and the tokens that are left for the next call.
--
-- Example: lines after a header with 3 vertices, the place of each, and the batch that it closes or refuses. The law
-- `lines_passed_over` proves it.
--
--     line 3    batch            Between
--     line 4    0 1              Within []
--     line 5    0 9              Within [Insert 0 1]    Refused 5 BadVertex
--     line 6    1 2              Passing
--     line 7    end              Passing
--     line 8    batch            Between
--     line 9    + 1 2            Within []
--     line 10   end              Within [Insert 1 2]    Items [Insert 1 2], at line 10
--     line 11   no more lines    Between
--
-- `Limit` or `InputEnd` is the last token of an input, so there is always one. The cases of the definitions for an
-- empty list and for the place `Over` complete them.
use Rattle.std.specs.Prelude.{ℕ, ◌≡◌, true, ◌<◌, ◌≤◌, nat_le, List, [], ◌∷◌, ◌++◌, length, All, Option, Some, None}
use Rattle.std.specs.Option.{option_map}
use Rattle.kc_graph.specs.declared.items.Item.{Item}
use Rattle.kc_text.specs.declared.reason.Reason.TheVariants.{LineLong, BadLine, InputLimit}
use Rattle.kc_text.specs.Reading.{Reading}
use Rattle.kc_batch.specs.declared.rules.Rules.{Rules}
use Rattle.kc_batch.specs.declared.token.Token.{Token}
use Rattle.kc_batch.specs.declared.token.Kind.{Kind}
use Rattle.kc_batch.specs.declared.token.Kind.TheVariants as kind
use Rattle.kc_batch.specs.declared.turn.Turn.{Turn}
use Rattle.kc_batch.specs.declared.turn.Turn.TheVariants.{Add, Close, Pass, Stop}
use Rattle.kc_batch.specs.declared.batch.Batch.{Batch}
use Rattle.kc_batch.specs.declared.batch.Next.{Next}
use Rattle.kc_batch.specs.declared.batch.Next.TheVariants.{Items, Refused, End}
use Rattle.kc_batch.specs.Tokens.{tokens_left}
use Rattle.kc_graph.specs.Cleaning.{IsInside}
use Rattle.kc_batch.specs.Turns.{is_allowed, turn_of, IsBatchReason}

-- 1. One token.

-- the place of a token: between batches, within one that has these items so far, after a fault of one, or after the end
pub data Place : Type 0 where
  Between : Place
  Within : (items : List Item) → Place
  Passing : Place
  Over : Place

-- a batch without a fault, whose `end` is this line
abbrev pub whole : List Item → ℕ → Next
whole items line = Items (record { items = items; line = line })

-- between batches: `batch` begins one, and another line is a fault, after which the next `end` is looked for
--
-- An `end` is its own fault, and the line after it stands between batches again.
abbrev pub step_between : ℕ → Kind → Place × Option Next
step_between line kind.BatchStart = (Within [], None)
step_between line kind.BatchEnd = (Between, Some (Refused line BadLine))
step_between line (kind.Item item) = (Passing, Some (Refused line BadLine))
step_between line kind.Other = (Passing, Some (Refused line BadLine))
step_between line kind.TooLong = (Passing, Some (Refused line LineLong))
step_between line kind.Limit = (Over, Some (Refused line InputLimit))
step_between line kind.InputEnd = (Over, None)

-- within a batch that has these items so far: by the turn of the line
abbrev pub step_within : List Item → ℕ → Turn → Place × Option Next
step_within items line (Add item) = (Within (items ++ item ∷ []), None)
step_within items line Close = (Between, Some (whole items line))
step_within items line (Pass reason) = (Passing, Some (Refused line reason))
step_within items line (Stop reason) = (Over, Some (Refused line reason))

-- after a fault: all lines up to the next `end` are passed over
abbrev pub step_passing : ℕ → Kind → Place × Option Next
step_passing line kind.BatchEnd = (Between, None)
step_passing line kind.Limit = (Over, Some (Refused line InputLimit))
step_passing line kind.InputEnd = (Over, None)
step_passing line _ = (Passing, None)

-- the place of the next token, and the batch that this one closes or refuses, if it does
abbrev pub step : Rules → Place → Token → Place × Option Next
step rules Between t = step_between t.number t.kind
step rules (Within items) t = step_within items t.number (turn_of rules (nat_le rules.item_limit (length items)) t.kind)
step rules Passing t = step_passing t.number t.kind
step rules Over t = (Over, None)

-- 2. All batches.

-- a batch, if there is one, and the batches that follow it
abbrev pub before : Option Next → List Next → List Next
before None rest = rest
before (Some next) rest = next ∷ rest

-- the batches of tokens the first of which stands at this place
unfoldable pub batches_from : Rules → Place → List Token → List Next
batches_from rules place [] = []
batches_from rules place (t ∷ rest) = let s = step rules place t in before s.1 (batches_from rules s.0 rest)

-- all batches of the lines after a header
abbrev pub batches : Rules → List Token → List Next
batches rules ts = batches_from rules Between ts

-- 3. The first batch, and the tokens that are left after it.

-- the tokens that are left after one that leads to this place
--
-- After a fault they are `later`, and the last token stays for each later call.
abbrev pub left_at : Place → Token → List Token → List Token → List Token
left_at Between t rest later = rest
left_at (Within items) t rest later = rest
left_at Passing t rest later = later
left_at Over t rest later = t ∷ []

-- the tokens after the next `end`; the last token, if that is first
unfoldable pub after_end : List Token → List Token
after_end [] = []
after_end (t ∷ rest) = left_at (step_passing t.number t.kind).0 t rest (after_end rest)

-- the first batch if a token leads to this place, and closes or refuses this batch; `later`, if it goes on
abbrev pub first_at : Place → Option Next → Token → List Token → Next × List Token → Next × List Token
first_at place (Some next) t rest later = (next, left_at place t rest (after_end rest))
first_at Over None t rest later = (End, t ∷ [])
first_at _ None t rest later = later

-- the first batch of tokens the first of which stands at this place, and the tokens that are left after it
unfoldable pub batch_from : Rules → Place → List Token → Next × List Token
batch_from rules place [] = (End, [])
batch_from rules place (t ∷ rest) = let s = step rules place t in first_at s.0 s.1 t rest (batch_from rules s.0 rest)

-- the next batch, and the tokens that are left after it
abbrev pub batch_of : Rules → List Token → Next × List Token
batch_of rules ts = batch_from rules Between ts

-- 4. A call that reads the next batch.

-- the batches of the lines that a reader has still to give, if its source tells the bytes left
abbrev pub batches_left : Rules → Reading → Option (List ℕ) → Option (List Next)
batches_left rules r left = option_map (batches rules) (tokens_left r left)

-- a batch, and the batches that follow it
--
-- `End` is no batch, and no batch follows one that is refused for the input limit.
abbrev pub behind_batch : Next → List Next → List Next
behind_batch End rest = []
behind_batch (Refused line InputLimit) rest = Refused line InputLimit ∷ []
behind_batch next rest = next ∷ rest

-- a batch, and the tokens that are left after it
abbrev pub with_next : Next → List Token → Next × List Token
with_next next rest = (next, rest)

-- the next batch of the lines that a reader had still to give is `next`, and the lines after it are those still to give
abbrev pub ReadsBatch : Rules → Reading → Option (List ℕ) → Reading → Option (List ℕ) → Next → Type 0
ReadsBatch rules old left new rest next = option_map (batch_of rules) (tokens_left old left) ≡ option_map (with_next next) (tokens_left new rest)

-- the batches that a reader had still to give are `next` and those still to give
abbrev pub ReadsFirst : Rules → Reading → Option (List ℕ) → Reading → Option (List ℕ) → Next → Type 0
ReadsFirst rules old left new rest next = batches_left rules old left ≡ option_map (behind_batch next) (batches_left rules new rest)

-- there are no more batches
abbrev pub IsEnd : Next → Type 0
IsEnd End = Unit {0}
IsEnd _ = ⊥

-- a batch takes some of a reader's budget; the end, and a batch that is refused for the input limit, give none back
abbrev pub TakesBatch : Next → ℕ → ℕ → Type 0
TakesBatch (Items batch) old new = new < old
TakesBatch (Refused line InputLimit) old new = new ≤ old
TakesBatch (Refused line _) old new = new < old
TakesBatch End old new = new ≤ old

-- 5. The ranges of batches.

-- a batch has no more items than are allowed, their vertices are below n, and their forms are allowed
pub record IsBatch (rules : Rules) (batch : Batch) : Type 0 where
  pub few : length batch.items ≤ rules.item_limit
  pub inside : All (IsInside rules.n) batch.items
  pub allowed : All (λ item. is_allowed rules.profile item ≡ true) batch.items

-- the facts that hold of each answer
abbrev pub IsNext : Rules → Next → Type 0
IsNext rules (Items batch) = IsBatch rules batch
IsNext rules (Refused line reason) = IsBatchReason reason
IsNext rules End = Unit {0}
