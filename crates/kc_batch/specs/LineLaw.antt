-- The end of an input's lines, and that the line of each refusal is one of them.
use Rattle.std.specs.Prelude.{ℕ, ◌≡◌, ◌≤◌, List, [], ◌∷◌, ◌++◌, All}
use Rattle.kc_text.specs.declared.line.Line.{Line}
use Rattle.kc_text.specs.Lines.{lines}
use Rattle.kc_text.specs.Kept.{kept}
use Rattle.kc_text.specs.Following.{IsLast}
use Rattle.kc_batch.specs.Headers.{Refused, header_of}

-- some lines, and then one that ends the input, which is `End` or `Limit`
--
-- No line before it ends the input, and no line follows it.
pub record EndOnce (ls : List Line) : Type 0 where
  pub before : List Line
  pub last : Line
  pub all : ls ≡ before ++ last ∷ []
  pub is_last : IsLast last.body
  pub others : All (λ line. ¬ (IsLast line.body)) before

-- the lines of each input that aren't skipped end once, and are numbered from 1 on
--
-- So the line of a refused header is a line of the input.
pub record LinesEndOnce : Type 0 where
  pub ends : (line_limit input_limit : ℕ) (bytes : List ℕ) → EndOnce (kept (lines line_limit input_limit bytes))
  pub numbered : (line_limit input_limit : ℕ) (bytes : List ℕ) → All (λ line. 1 ≤ line.number) (kept (lines line_limit input_limit bytes))
  pub refused : (line_limit input_limit line : ℕ) (bytes : List ℕ) → header_of (kept (lines line_limit input_limit bytes)) ≡ Refused line → 1 ≤ line
