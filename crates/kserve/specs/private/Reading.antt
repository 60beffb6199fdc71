-- What was read of an input.
use Rattle.std.specs.Prelude.{◌≡◌, Option, Some, None}
use Rattle.kserve.specs.declared.reading.Said.{Said}
use Rattle.kserve.specs.declared.reading.Said.TheVariants as said
use Rattle.kserve.specs.Inputs.{ScriptInput, WithScripts, Refused}

-- an answer as what an input says
abbrev pub input_as : Said → ScriptInput
input_as (said.Accepted scripts) = WithScripts scripts.n scripts.scripts.items
input_as (said.Refused line reason) = Refused line reason

-- the answer is what the input says, if the source tells its bytes
abbrev pub Says : Said → Option ScriptInput → Type 0
Says answer None = Unit {0}
Says answer (Some input) = input ≡ input_as answer
