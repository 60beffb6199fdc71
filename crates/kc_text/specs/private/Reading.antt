-- The last line that is repeated after a line.
use Rattle.std.specs.Prelude.{ℕ, Option, Some}
use Rattle.kc_text.specs.declared.line.Line.{Line}
use Rattle.kc_text.specs.declared.line.LastLine.{LastLine}
use Rattle.kc_text.specs.declared.line.LastLine.TheVariants.{AtLimit, AtEnd}
use Rattle.kc_text.specs.declared.line.Body.{Body}
use Rattle.kc_text.specs.declared.line.Body.TheVariants.{Text, TooLong, Limit, End}

-- the last line that is repeated once this line, put back before, is given
abbrev pub last_of : ℕ → Body → Option LastLine → Option LastLine
last_of n (Text _) before = before
last_of n TooLong before = before
last_of n Limit before = Some (AtLimit n)
last_of n End before = Some (AtEnd n)

-- the last line that is repeated after this line
abbrev pub last_after : Line → Option LastLine → Option LastLine
last_after line before = last_of line.number line.body before
