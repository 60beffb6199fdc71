-- No read has ended yet: no fault was counted, and the bytes are as before.
use Rattle.std.proofs.Common.{◌≡◌, true}
use Rattle.kc_text.specs.Telling.{IsTold, told_of}
use Rattle.kc_text.proofs.std_source.StdSourceSource.read.Given as goal

abbrev pub invariant-loop-turn : goal.invariant-loop-turn
invariant-loop-turn g l =
    (l.self-inside.faults ≡ l.fn.self.faults)
    × (told_of g.K.Told.told (g.R.Read.remaining l.self-inside.reader) ≡ l.fn.self.left)
    × (g.K.Told.told ≡ true → IsTold (g.R.Read.remaining l.self-inside.reader))
