use Rattle.std.proofs.Common.{refl, ◌∙◌, ap}
use Rattle.std.proofs.lemmas.Result.{err_from_is_err_and}
use Rattle.kc_engine.specs.States.{State}
use Rattle.kc_batch.specs.Tokens.{tokens_left}
use Rattle.kc_session.specs.declared.counts.Counts.{Counts}
use Rattle.kc_session.specs.declared.settling.Settled.{Settled}
use Rattle.kc_session.proofs.Causes.{same_cause}
use Rattle.kc_session.proofs.Settles.{settles_nothing, settles_some, settles_whole}
use Rattle.kc_session.proofs.settling.settle.Goals as goal

pub returns-in_err-engine-clause-text : goal.returns-in_err-engine-clause-text
returns-in_err-engine-clause-text g c =
    let p = err_from_is_err_and c.from_residual.result c.from_residual.ensures.1 in
    rw (p.1, ← c.header.view_is) (settles_nothing (record { profile = c.header.inside.profile; n = c.header.inside.n; asks = c.header.inside.asks }) (tokens_left c.args.reader (g.S.Source.left c.args.src.now)) _ _ p.0 refl)

pub run_batches-requires-clause-ready : goal.run_batches-requires-clause-ready
run_batches-requires-clause-ready g c κs within = record { abreast = tt; open_for = c.in_ok-engine.ensures.open; vertices = ap (λ (z : State). z.graph.vertices) c.in_ok-engine.ensures.state }

pub returns-in_err-counts-clause-text : goal.returns-in_err-counts-clause-text
returns-in_err-counts-clause-text g c =
    let p = err_from_is_err_and c.from_residual-in_err-counts.result c.from_residual-in_err-counts.ensures.1 in
    rw (p.1, ← c.header.view_is) (settles_some (record { profile = c.header.inside.profile; n = c.header.inside.n; asks = c.header.inside.asks }) _ _ _ _ _ _ _ p.0 _ c.in_ok-engine.ensures.state c.in_err-counts.ensures.run.text)

pub returns-in_err-counts-clause-cause : goal.returns-in_err-counts-clause-cause
returns-in_err-counts-clause-cause g c =
    let p = err_from_is_err_and c.from_residual-in_err-counts.result c.from_residual-in_err-counts.ensures.1 in
    rw p.1 (same_cause Counts Settled _ _ _ _ _ p.0 p.2 c.in_err-counts.ensures.cause)

pub returns-clause-text : goal.returns-clause-text
returns-clause-text g c = rw (← c.header.view_is, c.into_engine.ensures) (settles_whole (record { profile = c.header.inside.profile; n = c.header.inside.n; asks = c.header.inside.asks }) _ _ _ _ _ _ c.in_ok-counts.counts _ c.in_ok-engine.ensures.state refl c.in_ok-counts.ensures.run.text)

pub returns-clause-settled : goal.returns-clause-settled
returns-clause-settled g c = rw (← c.header.view_is, c.into_engine.ensures) (record {
  running = c.in_ok-counts.ensures.run.ready.open_for.running;
  none_waits = c.in_ok-counts.ensures.run.ready.open_for.none_waits;
  profile = c.in_ok-counts.ensures.run.profile ∙ ap (λ (z : State). z.profile) c.in_ok-engine.ensures.state;
  vertices = c.in_ok-counts.ensures.run.ready.vertices ∙ ap (λ (z : State). z.graph.vertices) c.in_ok-engine.ensures.state;
  sound = c.in_ok-counts.ensures.run.ready.open_for.sound;
})
