-- Which bytes of a reader or of a writer contracts see.
use Rattle.std.specs.Prelude.{ℕ, Bool, List, Option, None, Some, if◌then◌else◌}

-- the reader or writer tells these bytes
abbrev pub IsTold : Option (List ℕ) → Type 0
IsTold None = ⊥
IsTold (Some bytes) = Unit {0}

-- the bytes of a reader or a writer, if its source or sink tells them
abbrev pub told_of : Bool → Option (List ℕ) → Option (List ℕ)
told_of told known = if told then known else None
