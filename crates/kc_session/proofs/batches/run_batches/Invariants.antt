use Rattle.std.proofs.Common.{◌≡◌}
use Rattle.kc_batch.specs.Ahead.{batches_ahead, ahead_budget}
use Rattle.kc_session.specs.private.Audiences.{store_of, shown_to}
use Rattle.kc_session.specs.private.Running.{IsReadyFor, rules_for, batches_for}
use Rattle.kc_session.proofs.Runs.{LeadsTold, Fit}
use Rattle.kc_session.proofs.batches.run_batches.Given as goal

abbrev pub invariant-loop-reporter : goal.invariant-loop-reporter
invariant-loop-reporter g l = record {
  store : store_of l.watched.audience ≡ store_of l.fn.watched.audience;
  ready : IsReadyFor l.fn.context.n l.watched;
  profile : l.watched.engine.state.profile ≡ l.fn.watched.engine.state.profile;
  report : l.reporter.report ≡ l.fn.context.report;
  rules : l.ahead.rules ≡ rules_for l.fn.context.n l.fn.context.profile;
  told : LeadsTold l.fn.context.report l.fn.watched.engine.state (batches_for l.fn.context.n l.fn.context.profile l.fn.reader (g.S.Source.left l.fn.src)) l.watched.engine.state (batches_ahead l.ahead l.reader (g.S.Source.left l.src)) (g.K.Sink.taken l.fn.sink) (g.K.Sink.taken l.sink) (shown_to l.fn.watched.audience) (shown_to l.watched.audience) l.reporter.counts;
  counts : Fit l.reporter.counts (ahead_budget l.ahead l.reader);
  no_faults : (g.S.Source.faults l.src ≡ g.S.Source.faults l.fn.src) × (g.K.Sink.faults l.sink ≡ g.K.Sink.faults l.fn.sink);
}

abbrev pub decreases-loop-reporter : goal.decreases-loop-reporter
decreases-loop-reporter g l = ahead_budget l.ahead l.reader
