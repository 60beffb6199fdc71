-- The content of a batch input: its header, and its batches.
use Rattle.std.specs.Prelude.{ℕ, List}
use Rattle.kc_text.specs.Lines.{lines}
use Rattle.kc_text.specs.Kept.{kept}
use Rattle.kc_batch.specs.declared.rules.Rules.{Rules}
use Rattle.kc_batch.specs.HeaderShape.{HeaderShape}
use Rattle.kc_batch.specs.declared.batch.Next.{Next}
use Rattle.kc_batch.specs.Headers.{HeaderText, Accepted, Refused, header_of}
use Rattle.kc_batch.specs.Tokens.{tokens}
use Rattle.kc_batch.specs.Batches.{batches}

-- a header and the batches after it, or a header that is refused at a line
pub data BatchInput : Type 0 where
  WithBatches : (header : HeaderShape) (batches : List Next) → BatchInput
  HeaderRefused : (line : ℕ) → BatchInput

-- the rules for the batches after a header, of which each has at most `item_limit` items
abbrev pub rules_of : HeaderShape → ℕ → Rules
rules_of header item_limit = record { n = header.n; profile = header.profile; item_limit = item_limit }

-- a header and the batches after it, each with at most `item_limit` items
abbrev pub behind_header : ℕ → HeaderText → BatchInput
behind_header item_limit (Accepted header rest) = WithBatches header (batches (rules_of header item_limit) (tokens rest))
behind_header item_limit (Refused line) = HeaderRefused line

-- the content of these bytes, by the most bytes of a line, the most of the input, and the most items of a batch
abbrev pub input_of : ℕ → ℕ → ℕ → List ℕ → BatchInput
input_of line_limit input_limit item_limit bytes = behind_header item_limit (header_of (kept (lines line_limit input_limit bytes)))
