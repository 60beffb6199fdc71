-- The lines after a line, and how much of a reader's budget a line takes.
use Rattle.std.specs.Prelude.{ℕ, ◌<◌, ◌≤◌, List, [], ◌∷◌}
use Rattle.kc_text.specs.declared.line.Line.{Line}
use Rattle.kc_text.specs.declared.line.Body.{Body}
use Rattle.kc_text.specs.declared.line.Body.TheVariants.{Text, TooLong, Limit, End}

-- the lines that follow a line: none after the last
abbrev pub behind : Body → List Line → List Line
behind (Text _) rest = rest
behind TooLong rest = rest
behind Limit rest = []
behind End rest = []

-- a line, and the lines that follow it
abbrev pub onto : Line → List Line → List Line
onto line rest = line ∷ behind line.body rest

-- a line that is given again at each later call
abbrev pub IsLast : Body → Type 0
IsLast (Text _) = ⊥
IsLast TooLong = ⊥
IsLast Limit = Unit {0}
IsLast End = Unit {0}

-- a line takes some of the budget of a reader, and the last gives none back
abbrev pub Takes : Body → ℕ → ℕ → Type 0
Takes (Text _) old new = new < old
Takes TooLong old new = new < old
Takes Limit old new = new ≤ old
Takes End old new = new ≤ old
