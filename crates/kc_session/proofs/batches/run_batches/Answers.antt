use Rattle.std.proofs.Common.{◌≡◌, ◌∙◌, refl, sym, ap, arith, false, []}
use Rattle.std.proofs.lemmas.Result.{err_from_is_err_and}
use Rattle.kc_batch.specs.Ahead.{batches_ahead}
use Rattle.kc_batch.specs.Batches.{batches_left}
use Rattle.kc_batch.specs.Tokens.{tokens_left}
use Rattle.kc_batch.specs.declared.batch.Next.{Next}
use Rattle.kc_engine.specs.States.{State}
use Rattle.kc_session.specs.declared.counts.Counts.{Counts}
use Rattle.kc_session.specs.private.Audiences.{shown_to}
use Rattle.kc_session.specs.private.Running.{is_last_batch, rules_for}
use Rattle.kc_session.proofs.Causes.{awaited_cause}
use Rattle.kc_session.proofs.Steps.{sound_step, profile_step}
use Rattle.kc_session.proofs.Runs.{told_first, told_step, told_last, told_end, told_unread, told_stopped, takes_some, not_end, fit_more, follow_on}
use Rattle.kc_session.proofs.batches.run_batches.Goals as goal

pub loop-reporter-init : goal.loop-reporter-init
loop-reporter-init g c = let none = c.new-reporter.ensures.counts in let new = c.new-ahead.ensures in record {
  store = refl;
  ready = c.requires.ready;
  profile = refl;
  report = c.new-reporter.ensures.report;
  rules = new.rules ∙ c.rules_in.ensures;
  told = rw (new.rules, new.begun, c.rules_in.ensures) (told_first c.args.context.now.report _ _ _ _ _ none);
  counts = record { few = rw (none, new.begun) (omega (arith, c.has_budget.ensures.budget)); fewer = rw none (omega arith) };
  no_faults = (refl, refl);
}

pub returns-in_err-next-clause-run : goal.returns-in_err-next-clause-run
returns-in_err-next-clause-run g c =
    let i = c.loop-reporter.invariant in
    let p = err_from_is_err_and c.from_residual.result c.from_residual.ensures.1 in
    rw (p.1, c.in_err-next.ensures.taken)
    (record {
      text = told_unread c.args.context.now.report (record { profile = c.args.context.now.profile; n = c.args.context.now.n; asks = [] }) c.args.watched.now.engine.state c.loop-reporter.watched.engine.state (tokens_left c.args.reader.now (g.S.Source.left c.args.src.now)) c.loop-reporter.watched.engine.state
          (batches_ahead c.loop-reporter.ahead c.loop-reporter.reader (g.S.Source.left c.loop-reporter.src)) _ _ _ (shown_to c.loop-reporter.watched.audience) _ c.loop-reporter.reporter.counts p.0 i.ready.open_for.sound i.ready.vertices i.told;
      store = i.store;
      ready = tt;
      profile = tt;
    })

pub returns-in_err-next-clause-cause : goal.returns-in_err-next-clause-cause
returns-in_err-next-clause-cause g c =
    let i = c.loop-reporter.invariant in
    let p = err_from_is_err_and c.from_residual.result c.from_residual.ensures.1 in
    rw p.1 (awaited_cause Next Counts _ _ _ _ _ _ _ p.0 i.no_faults.0 i.no_faults.1 c.in_err-next.ensures.cause p.2)

pub returns-in-End-clause-run : goal.returns-in-End-clause-run
returns-in-End-clause-run g c =
    let i = c.loop-reporter.invariant in
    rw c.in_ok-next.ensures.taken
    (record {
      text = told_end c.args.context.now.report c.args.watched.now.engine.state _ c.loop-reporter.watched.engine.state c.in_ok-next.next _ _ _ _ _ (shown_to c.loop-reporter.watched.audience) c.loop-reporter.reporter.counts c.in_ok-next.ensures.batches (rw c.in-End.is tt) i.told;
      store = i.store;
      ready = record { abreast = i.ready.abreast; open_for = i.ready.open_for; vertices = i.ready.vertices ∙ sym c.requires.ready.vertices };
      profile = i.profile;
    })

pub returns-in_err-counts-clause-run : goal.returns-in_err-counts-clause-run
returns-in_err-counts-clause-run g c =
    let i = c.loop-reporter.invariant in
    let run = rw (i.report, c.in_ok-next.ensures.taken, c.in_err-counts.was {u = tt}) at c.run_and_read-later.ensures.run in
    let p = err_from_is_err_and c.from_residual-in_err-counts.result c.from_residual-in_err-counts.ensures.1 in
    rw p.1
    (record {
      text = told_stopped c.args.context.now.report (record { profile = c.args.context.now.profile; n = c.args.context.now.n; asks = [] }) c.args.watched.now.engine.state c.run_and_read-later.new.watched.engine.state (tokens_left c.args.reader.now (g.S.Source.left c.args.src.now)) c.loop-reporter.watched.engine.state c.in_ok-next.next
          (batches_ahead c.loop-reporter.ahead c.loop-reporter.reader (g.S.Source.left c.loop-reporter.src)) _ _ _ _ _ (shown_to c.loop-reporter.watched.audience) _ c.loop-reporter.reporter.counts p.0 i.ready.open_for.sound i.ready.vertices c.in_ok-next.ensures.batches (not_end c.in_ok-next.next c.in_default.not-End) i.told
          run.step;
      store = run.store ∙ i.store;
      ready = tt;
      profile = tt;
    })

pub returns-then-last-clause-run : goal.returns-then-last-clause-run
returns-then-last-clause-run g c =
    let i = c.loop-reporter.invariant in
    let run = rw (i.report, c.in_ok-next.ensures.taken, c.in_ok-counts.was {u = tt}) at c.run_and_read-later.ensures.run in
    let step = run.step in
    let z = sound_step c.loop-reporter.watched.engine.state (record { profile = c.args.context.now.profile; n = c.args.context.now.n; asks = [] }) c.in_ok-next.next step.step i.ready.open_for.sound i.ready.vertices (rw i.rules at c.in_ok-next.ensures.sound) step.is_step in
    let size : c.run_and_read-later.new.watched.engine.state.graph.vertices ≡ c.args.context.now.n = rw step.last z.1 in
    record {
      text = told_last c.args.context.now.report c.args.watched.now.engine.state _ c.loop-reporter.watched.engine.state c.run_and_read-later.new.watched.engine.state c.in_ok-next.next _ _ _ _ _ _ (shown_to c.loop-reporter.watched.audience) _ c.loop-reporter.reporter.counts c.in_ok-counts.counts
          c.in_ok-next.ensures.batches (sym c.is_last-last.ensures ∙ c.if-last.true) i.told step;
      store = run.store ∙ i.store;
      ready = record { abreast = run.abreast; open_for = run.open_for; vertices = size ∙ sym c.requires.ready.vertices };
      profile = ap (λ (z : State). z.profile) step.last ∙ (profile_step c.loop-reporter.watched.engine.state c.in_ok-next.next step.step step.is_step ∙ i.profile);
    }

pub run_and_read-later-requires-clause-ready : goal.run_and_read-later-requires-clause-ready
run_and_read-later-requires-clause-ready g c κs within =
    let i = c.loop-reporter.invariant in
    let sound = rw i.rules at c.in_ok-next.ensures.sound in
    record {
      abreast = i.ready.abreast;
      open_for = i.ready.open_for;
      batch = (c.args.context.now.profile, rw i.ready.vertices sound);
      some = not_end c.in_ok-next.next c.in_default.not-End;
      few = omega (arith, i.counts.few);
      fewer = i.counts.fewer;
    }

pub returns-in_err-ahead-clause-run : goal.returns-in_err-ahead-clause-run
returns-in_err-ahead-clause-run g c =
    let i = c.loop-reporter.invariant in
    let more = not_end c.in_ok-next.next c.in_default.not-End in
    let last : is_last_batch c.in_ok-next.next ≡ false = sym c.is_last-last.ensures ∙ c.if-last.false in
    let run = rw (i.report, c.in_ok-next.ensures.taken, c.in_ok-counts.was {u = tt}) at c.run_and_read-later.ensures.run in
    let step = run.step in
    let z = sound_step c.loop-reporter.watched.engine.state (record { profile = c.args.context.now.profile; n = c.args.context.now.n; asks = [] }) c.in_ok-next.next step.step i.ready.open_for.sound i.ready.vertices (rw i.rules at c.in_ok-next.ensures.sound) step.is_step in
    let left = g.S.Source.left c.await_batch.new.src in
    let follow = follow_on c.loop-reporter.ahead.rules (rules_for c.args.context.now.n c.args.context.now.profile) c.in_ok-next.next _ c.await_batch.new.reader left _ c.in_ok-next.ensures.batches i.rules refl in
    let p = err_from_is_err_and c.from_residual-in_err-ahead.result c.from_residual-in_err-ahead.ensures.1 in
    rw p.1
    (record {
      text = told_unread c.args.context.now.report (record { profile = c.args.context.now.profile; n = c.args.context.now.n; asks = [] }) c.args.watched.now.engine.state c.run_and_read-later.new.watched.engine.state (tokens_left c.args.reader.now (g.S.Source.left c.args.src.now)) c.run_and_read-later.new.watched.engine.state
          (batches_left (rules_for c.args.context.now.n c.args.context.now.profile) c.await_batch.new.reader left) _ _ _ (shown_to c.run_and_read-later.new.watched.audience) _ c.in_ok-counts.counts p.0 run.open_for.sound (rw step.last z.1)
          (told_step c.args.context.now.report c.args.watched.now.engine.state _ c.loop-reporter.watched.engine.state c.run_and_read-later.new.watched.engine.state c.in_ok-next.next _ _ _ _ _ _ (shown_to c.loop-reporter.watched.audience) _ c.loop-reporter.reporter.counts c.in_ok-counts.counts
          follow more last i.told step);
      store = run.store ∙ i.store;
      ready = tt;
      profile = tt;
    })

pub loop-reporter-preserved : goal.loop-reporter-preserved
loop-reporter-preserved g c =
    let i = c.loop-reporter.invariant in
    let more = not_end c.in_ok-next.next c.in_default.not-End in
    let last : is_last_batch c.in_ok-next.next ≡ false = sym c.is_last-last.ensures ∙ c.if-last.false in
    let run = rw (i.report, c.in_ok-next.ensures.taken, c.in_ok-counts.was {u = tt}) at c.run_and_read-later.ensures.run in
    let ahead = rw (c.in_ok-ahead.was {u = tt}) at c.run_and_read-later.ensures.ahead in
    let step = run.step in
    let z = sound_step c.loop-reporter.watched.engine.state (record { profile = c.args.context.now.profile; n = c.args.context.now.n; asks = [] }) c.in_ok-next.next step.step i.ready.open_for.sound i.ready.vertices (rw i.rules at c.in_ok-next.ensures.sound) step.is_step in
    let left = g.S.Source.left c.await_batch.new.src in
    let follow = follow_on c.loop-reporter.ahead.rules (rules_for c.args.context.now.n c.args.context.now.profile) c.in_ok-next.next _ c.await_batch.new.reader left _ c.in_ok-next.ensures.batches i.rules (ahead.batches left) in
    record {
      store = run.store ∙ i.store;
      ready = record { abreast = run.abreast; open_for = run.open_for; vertices = rw step.last z.1 };
      profile = ap (λ (z : State). z.profile) step.last ∙ (profile_step c.loop-reporter.watched.engine.state c.in_ok-next.next step.step step.is_step ∙ i.profile);
      report = c.run_and_read-later.ensures.report ∙ i.report;
      rules = ahead.same_rules;
      told = told_step c.args.context.now.report c.args.watched.now.engine.state _ c.loop-reporter.watched.engine.state c.run_and_read-later.new.watched.engine.state c.in_ok-next.next _ _ _ _ _ _ (shown_to c.loop-reporter.watched.audience) _ c.loop-reporter.reporter.counts c.in_ok-counts.counts
          follow more last i.told step;
      counts = fit_more c.loop-reporter.watched.engine.state c.in_ok-next.next step.step c.loop-reporter.reporter.counts c.in_ok-counts.counts _ _ _ step.counts (takes_some c.in_ok-next.next _ _ c.in_ok-next.ensures.takes more last) ahead.takes i.counts;
      no_faults = (c.in_ok-next.ensures.cause.0 ∙ i.no_faults.0, (rw (c.in_ok-counts.was {u = tt}) at c.run_and_read-later.ensures.cause) ∙ (c.in_ok-next.ensures.cause.1 ∙ i.no_faults.1));
    }
