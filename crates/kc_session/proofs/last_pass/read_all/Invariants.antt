use Rattle.std.proofs.Common.{◌≡◌}
use Rattle.kc_session.proofs.PassLemmas.{IsReading}
use Rattle.kc_session.proofs.last_pass.read_all.Given as goal

abbrev pub invariant-loop-v : goal.invariant-loop-v
invariant-loop-v l = (l.writer ≡ l.fn.writer) × IsReading l.store.vertices l.fn.writer.state.history l.initial.pass l.v l.pass l.levels.items
