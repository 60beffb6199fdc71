-- The ranges of batches, as a law of the definition.
use Rattle.std.specs.Prelude.{List, All}
use Rattle.kc_batch.specs.declared.rules.Rules.{Rules}
use Rattle.kc_batch.specs.declared.token.Token.{Token}
use Rattle.kc_batch.specs.Batches.{batches, IsNext}

-- each batch of any lines keeps its ranges
abbrev pub BatchesKeepRanges : Type 0
BatchesKeepRanges = (rules : Rules) (ts : List Token) → All (IsNext rules) (batches rules ts)
