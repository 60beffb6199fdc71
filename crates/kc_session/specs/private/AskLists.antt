-- The asks of one header.
use Rattle.std.specs.Prelude.{ℕ, ◌≤◌, List, length, All}
use Rattle.kc_batch.specs.declared.ask.Ask.{Ask}
use Rattle.kc_batch.specs.Headers.{IsAsk}

-- there are at most 64 asks, and each keeps its ranges for n vertices
pub record IsAskList (n : ℕ) (asks : List Ask) : Type 0 where
  pub few : length asks ≤ 64
  pub each : All (IsAsk n) asks
