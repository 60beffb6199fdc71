use Rattle.std.proofs.Common.{[], refl, ap}
use Rattle.std.proofs.lemmas.Result.{err_from_is_err_and}
use Rattle.kc_batch.specs.Tokens.{tokens_left}
use Rattle.kc_engine.specs.States.{State}
use Rattle.kc_session.proofs.SessionTexts.{body_none}
use Rattle.kc_session.proofs.session.run_without_readers.Goals as goal

pub returns-in_err-engine-clause-text : goal.returns-in_err-engine-clause-text
returns-in_err-engine-clause-text g c =
    let p = err_from_is_err_and c.from_residual.result c.from_residual.ensures.1 in
    rw p.1 (body_none (record { profile = c.args.context.now.profile; n = c.args.context.now.n; asks = [] }) (tokens_left c.args.lines (g.S.Source.left c.args.src.now)) _ _ p.0 refl)

pub run_alone-ended-requires-clause-ready : goal.run_alone-ended-requires-clause-ready
run_alone-ended-requires-clause-ready g c κs within = record { abreast = tt; open_for = c.in_ok-engine.ensures.open; vertices = ap (λ (z : State). z.graph.vertices) c.in_ok-engine.ensures.state }
