-- The lines of a generated load, step by step.
use Rattle.std.specs.Prelude.{ℕ, ◌≡◌, ◌∷◌, List, [], Bool, true, false}
use Rattle.kc_text.specs.Printing.{printed_line}
use Rattle.kc_session.specs.declared.generator.Generator.{Generator}
use Rattle.kc_session.specs.Generating.{words_left}

-- the generator old made this line, and became new
pub record Makes (old new : Generator) (line : List ℕ) : Type 0 where
  pub words : List (List ℕ)
  pub first : words_left old ≡ words ∷ words_left new
  pub line_is : line ≡ printed_line words
  pub vertices : new.n ≡ old.n

-- the generator made a line if it says so; otherwise there is none
abbrev pub MakesIf : Generator → Generator → List ℕ → Bool → Type 0
MakesIf old new line true = Makes old new line
MakesIf old new line false = (words_left old ≡ []) × ((new ≡ old) × (line ≡ []))
