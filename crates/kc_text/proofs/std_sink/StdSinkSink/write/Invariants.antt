-- No write has ended yet: no fault was counted, the bytes are as before, and the sink isn't flushed.
use Rattle.std.proofs.Common.{◌≡◌, true, false}
use Rattle.kc_text.specs.Telling.{IsTold, told_of}
use Rattle.kc_text.proofs.std_sink.StdSinkSink.write.Given as goal

abbrev pub invariant-loop-turn : goal.invariant-loop-turn
invariant-loop-turn g l =
    (l.self-inside.faults ≡ l.fn.self.faults)
    × (l.self-inside.is_flushed ≡ false)
    × (told_of g.K.Told.told (g.W.Write.contents l.self-inside.writer) ≡ l.fn.self.taken)
    × (g.K.Told.told ≡ true → IsTold (g.W.Write.contents l.self-inside.writer))
