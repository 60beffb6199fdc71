-- The facts about a line that its effect shows.
use Rattle.std.specs.Prelude.{◌≡◌, Bool, false}
use Rattle.kc_batch.specs.declared.rules.Rules.{Rules}
use Rattle.kc_batch.specs.declared.turn.Turn.{Turn}
use Rattle.kc_batch.specs.declared.turn.Turn.TheVariants.{Add, Close, Pass, Stop}
use Rattle.kc_batch.specs.Turns.{IsItemOf, IsBatchReason}

-- the facts about a line that its effect shows
abbrev pub IsTurn : Rules → Bool → Turn → Type 0
IsTurn rules full (Add item) = IsItemOf rules item × (full ≡ false)
IsTurn rules full Close = Unit {0}
IsTurn rules full (Pass reason) = IsBatchReason reason
IsTurn rules full (Stop reason) = IsBatchReason reason
