-- The numbers of lines within the limit of the input, and of the lines of batches, are small.
use Rattle.std.proofs.Common.{ℕ, suc, zero, ◌+◌, ◌≤◌, ◌<◌, true, false, List, [], ◌∷◌, ◌++◌, length, arith}
use Rattle.std.specs.Prelude.{◌^◌, ◌==◌, nat_le, All, IfSome, if◌then◌else◌}
use Rattle.std.proofs.lemmas.List.Elements.{All-nil, All-cons, All-head, All-tail}
use Rattle.kc_graph.specs.declared.items.Item.{Item}
use Rattle.kc_text.specs.declared.line.Line.{Line}
use Rattle.kc_text.specs.declared.line.Body.TheVariants as body
use Rattle.kc_text.specs.Lines.{lines, lines_from, last_of, numbered_line}
use Rattle.kc_text.specs.Kept.{is_skipped, kept}
use Rattle.kc_batch.specs.declared.batch.Next.{Next}
use Rattle.kc_batch.specs.declared.batch.Next.TheVariants.{Items, Refused, End}
use Rattle.kc_batch.specs.declared.rules.Rules.{Rules}
use Rattle.kc_batch.specs.declared.token.Token.{Token}
use Rattle.kc_batch.specs.declared.token.Kind.{Kind}
use Rattle.kc_batch.specs.declared.token.Kind.TheVariants as kind
use Rattle.kc_batch.specs.declared.turn.Turn.{Turn}
use Rattle.kc_batch.specs.declared.turn.Turn.TheVariants.{Add, Close, Pass, Stop}
use Rattle.kc_batch.specs.Batches.{Place, Between, Within, Passing, Over, step_between, step_within, step_passing, step, batches}
use Rattle.kc_batch.proofs.lemmas.Inputs.{steps_give}
use Rattle.kc_batch.specs.Tokens.{tokens}
use Rattle.kc_batch.specs.Turns.{turn_of}
use Rattle.kcore.specs.declared.limits.TheConstants.{LINE_LIMIT, INPUT_LIMIT}

abbrev IsAtMost : ℕ → Line → Type 0
IsAtMost last line = line.number ≤ last

from_last : (limit n last : ℕ) (piece : List ℕ) → n + 1 ≤ last → All (IsAtMost last) (last_of limit n piece)
from_last limit n last [] h = All-cons (IsAtMost last) _ [] (omega (arith, h)) (All-nil (IsAtMost last))
from_last limit n last (b ∷ bs) h =
    let end : Line = record { number = n + 1; body = body.End } in
    All-cons (IsAtMost last) (numbered_line limit n (b ∷ bs)) (end ∷ []) (omega (arith, h)) (All-cons (IsAtMost last) end [] h (All-nil (IsAtMost last)))

lines_low : (limit n room last : ℕ) (piece bs : List ℕ) → n + room + 1 ≤ last → All (IsAtMost last) (lines_from limit n room piece bs)
unfolding lines_from
lines_low limit n room last piece [] h = from_last limit n last piece (omega (arith, h))
lines_low limit n zero last piece (b ∷ bs) h = All-cons (IsAtMost last) _ [] (omega (arith, h)) (All-nil (IsAtMost last))
lines_low limit n (suc room) last piece (b ∷ bs) h =
    elim (b == 10) as (λ t. All (IsAtMost last) (if t then numbered_line limit n piece ∷ lines_from limit (n + 1) room [] bs else lines_from limit n room (piece ++ b ∷ []) bs)) [
      | true ↦ All-cons (IsAtMost last) (numbered_line limit n piece) (lines_from limit (n + 1) room [] bs) (omega (arith, h)) (lines_low limit (n + 1) room last [] bs (omega (arith, h)))
      | false ↦ lines_low limit n room last (piece ++ b ∷ []) bs (omega (arith, h))
    ]

-- the number of a line can be printed
abbrev pub IsNumbered : Line → Type 0
IsNumbered line = line.number < 2 ^ 32

kept_all : (P : Line → Type 0) (ls : List Line) → All P ls → All P (kept ls)
kept_all P [] h = All-nil P
kept_all P (line ∷ rest) h =
    elim (is_skipped line.body) as (λ t. All P (if t then kept rest else line ∷ kept rest)) [
      | true ↦ kept_all P rest (All-tail P line rest h)
      | false ↦ All-cons P line (kept rest) (All-head P line rest h) (kept_all P rest (All-tail P line rest h))
    ]

weaker : (ls : List Line) (last : ℕ) → last < 2 ^ 32 → All (IsAtMost last) ls → All IsNumbered ls
weaker ls last h all = λ i d inside. omega (arith, h, all i d inside)

pub kept_are_numbered : (bytes : List ℕ) → All IsNumbered (kept (lines LINE_LIMIT INPUT_LIMIT bytes))
kept_are_numbered bytes =
    kept_all IsNumbered (lines LINE_LIMIT INPUT_LIMIT bytes) (weaker _ (1 + INPUT_LIMIT + 1) (omega arith) (lines_low LINE_LIMIT 1 INPUT_LIMIT (1 + INPUT_LIMIT + 1) [] bytes (omega arith)))

abbrev IsSmallToken : Token → Type 0
IsSmallToken t = t.number < 2 ^ 32

small_tokens : (ls : List Line) → All IsNumbered ls → All IsSmallToken (tokens ls)
small_tokens [] h = All-nil IsSmallToken
small_tokens (line ∷ rest) h = All-cons IsSmallToken _ (tokens rest) (All-head IsNumbered line rest h) (small_tokens rest (All-tail IsNumbered line rest h))

-- a batch, whose line has a number that can be printed
abbrev pub HasSmallLine : Next → Type 0
HasSmallLine (Items batch) = batch.line < 2 ^ 32
HasSmallLine (Refused line r) = line < 2 ^ 32
HasSmallLine End = ⊥

between_small : (line : ℕ) (k : Kind) → line < 2 ^ 32 → IfSome (step_between line k).1 HasSmallLine
between_small line kind.BatchStart h = tt
between_small line kind.BatchEnd h = h
between_small line (kind.Item item) h = h
between_small line kind.Other h = h
between_small line kind.TooLong h = h
between_small line kind.Limit h = h
between_small line kind.InputEnd h = tt

within_small : (items : List Item) (line : ℕ) (turn : Turn) → line < 2 ^ 32 → IfSome (step_within items line turn).1 HasSmallLine
within_small items line (Add item) h = tt
within_small items line Close h = h
within_small items line (Pass reason) h = h
within_small items line (Stop reason) h = h

passing_small : (line : ℕ) (k : Kind) → line < 2 ^ 32 → IfSome (step_passing line k).1 HasSmallLine
passing_small line kind.BatchStart h = tt
passing_small line kind.BatchEnd h = tt
passing_small line (kind.Item item) h = tt
passing_small line kind.Other h = tt
passing_small line kind.TooLong h = tt
passing_small line kind.Limit h = h
passing_small line kind.InputEnd h = tt

-- a batch has the number of the line that closes or refuses it
step_small : (rules : Rules) (place : Place) (t : Token) → IsSmallToken t → IfSome (step rules place t).1 HasSmallLine
step_small rules Between t h = between_small t.number t.kind h
step_small rules (Within items) t h = within_small items t.number (turn_of rules (nat_le rules.item_limit (length items)) t.kind) h
step_small rules Passing t h = passing_small t.number t.kind h
step_small rules Over t h = tt

-- batches of numbered lines
pub batches_have_small_lines : (rules : Rules) (ls : List Line) → All IsNumbered ls → All HasSmallLine (batches rules (tokens ls))
batches_have_small_lines rules ls h = steps_give rules IsSmallToken (λ _. Unit {0}) HasSmallLine (λ place t s p. (tt, step_small rules place t s)) Between (tokens ls) (small_tokens ls h) tt
