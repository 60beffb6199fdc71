use Rattle.std.proofs.Common.{◌≡◌, ◌≤◌}
use Rattle.kc_text.specs.Reading.{budget}
use Rattle.kc_batch.specs.Tokens.{tokens_left}
use Rattle.kc_batch.proofs.token.next_token.Given as goal

abbrev pub invariant-loop-numbers : goal.invariant-loop-numbers
invariant-loop-numbers g l = record {
  tokens : tokens_left l.reader (g.S.Source.left l.src) ≡ tokens_left l.fn.reader (g.S.Source.left l.fn.src);
  budget : budget l.reader ≤ budget l.fn.reader;
  taken : g.K.Sink.taken l.sink ≡ g.K.Sink.taken l.fn.sink;
  read_faults : g.S.Source.faults l.src ≡ g.S.Source.faults l.fn.src;
  write_faults : g.K.Sink.faults l.sink ≡ g.K.Sink.faults l.fn.sink;
}

abbrev pub decreases-loop-numbers : goal.decreases-loop-numbers
decreases-loop-numbers g l = budget l.reader
