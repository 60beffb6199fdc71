use Rattle.std.proofs.Common.{◌≡◌, ◌≤◌}
use Rattle.std.specs.Option.{option_map}
use Rattle.kc_text.specs.Reading.{budget}
use Rattle.kc_batch.specs.Tokens.{tokens_left}
use Rattle.kc_batch.specs.private.Adding.{AreItems}
use Rattle.kc_batch.specs.Batches.{Within, batch_from}
use Rattle.kc_batch.proofs.batch.read_items.Given as goal

abbrev pub invariant-loop-e : goal.invariant-loop-e
invariant-loop-e g l = record {
  same : option_map (batch_from l.fn.ahead.rules (Within l.fn.ahead.items)) (tokens_left l.fn.reader (g.S.Source.left l.fn.src)) ≡ option_map (batch_from l.fn.ahead.rules (Within l.items)) (tokens_left l.reader (g.S.Source.left l.src));
  are : AreItems l.fn.ahead.rules l.items;
  budget : budget l.reader ≤ budget l.fn.reader;
  taken : g.K.Sink.taken l.sink ≡ g.K.Sink.taken l.fn.sink;
  read_faults : g.S.Source.faults l.src ≡ g.S.Source.faults l.fn.src;
  write_faults : g.K.Sink.faults l.sink ≡ g.K.Sink.faults l.fn.sink;
}

abbrev pub decreases-loop-e : goal.decreases-loop-e
decreases-loop-e g l = budget l.reader
