use Rattle.std.proofs.Common.{◌≡◌}
use Rattle.kc_engine.proofs.engine.Engine.reuse.Given as goal

abbrev pub invariant-loop-turn : goal.invariant-loop-turn
invariant-loop-turn l = l.self-inside ≡ l.initial.self-inside
