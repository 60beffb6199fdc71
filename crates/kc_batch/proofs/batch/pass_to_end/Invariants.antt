use Rattle.std.proofs.Common.{◌≡◌, ◌≤◌}
use Rattle.std.specs.Option.{option_map}
use Rattle.kc_text.specs.Reading.{budget}
use Rattle.kc_batch.specs.Tokens.{tokens_left}
use Rattle.kc_batch.specs.Batches.{after_end}
use Rattle.kc_batch.proofs.batch.pass_to_end.Given as goal

abbrev pub invariant-loop-token : goal.invariant-loop-token
invariant-loop-token g l = record {
  same : option_map after_end (tokens_left l.fn.reader (g.S.Source.left l.fn.src)) ≡ option_map after_end (tokens_left l.reader (g.S.Source.left l.src));
  budget : budget l.reader ≤ budget l.fn.reader;
  taken : g.K.Sink.taken l.sink ≡ g.K.Sink.taken l.fn.sink;
  read_faults : g.S.Source.faults l.src ≡ g.S.Source.faults l.fn.src;
  write_faults : g.K.Sink.faults l.sink ≡ g.K.Sink.faults l.fn.sink;
}

abbrev pub decreases-loop-token : goal.decreases-loop-token
decreases-loop-token g l = budget l.reader
