-- The lines of an input.
use Rattle.std.specs.Prelude.{ℕ, zero, suc, ◌+◌, ◌-◌, ◌==◌, nat_le, List, [], ◌∷◌, ◌++◌, length, take, slice_index, if◌then◌else◌}
use Rattle.kc_text.specs.declared.line.Line.{Line}
use Rattle.kc_text.specs.declared.line.Body.{Body}
use Rattle.kc_text.specs.declared.line.Body.TheVariants.{Text, TooLong, Limit, End}

-- the bytes without one carriage return at the end
abbrev pub without_cr : List ℕ → List ℕ
without_cr bs = if slice_index bs (length bs - 1) == 13 then take (length bs - 1) bs else bs

-- the content of a line of these bytes; a carriage return at its end counts for its length
abbrev pub body_of : ℕ → List ℕ → Body
body_of limit piece = if nat_le (length piece) limit then Text (without_cr piece) else TooLong

-- line n, of these bytes
abbrev pub numbered_line : ℕ → ℕ → List ℕ → Line
numbered_line limit n piece = record { number = n; body = body_of limit piece }

-- if the input ends after a piece: the piece is a line if it isn't empty
abbrev pub last_of : ℕ → ℕ → List ℕ → List Line
last_of limit n [] = record { number = n; body = End } ∷ []
last_of limit n (x ∷ xs) = numbered_line limit n (x ∷ xs) ∷ record { number = n + 1; body = End } ∷ []

-- if the input passes its limit within line n
abbrev pub at_limit : ℕ → List Line
at_limit n = record { number = n; body = Limit } ∷ []

-- the lines from line n on, after a piece of line n; at most `room` more bytes are made into lines
unfoldable pub lines_from : ℕ → ℕ → ℕ → List ℕ → List ℕ → List Line
lines_from limit n room piece [] = last_of limit n piece
lines_from limit n zero piece (b ∷ bs) = at_limit n
lines_from limit n (suc room) piece (b ∷ bs) =
    if b == 10 then numbered_line limit n piece ∷ lines_from limit (n + 1) room [] bs else lines_from limit n room (piece ++ b ∷ []) bs

-- the lines of an input: at most `limit` bytes each, of the first `room` bytes
abbrev pub lines : ℕ → ℕ → List ℕ → List Line
lines limit room bytes = lines_from limit 1 room [] bytes
