use Rattle.std.proofs.Common.{ℕ, List, refl, sym, ap, ◌∙◌, subst, arith}
use Rattle.std.specs.Prelude.{All}
use Rattle.std.proofs.lemmas.Result.{err_from_is_err_and}
use Rattle.kc_batch.specs.Headers.{IsAsk}
use Rattle.kc_batch.specs.Tokens.{tokens_left}
use Rattle.kc_store.specs.Seats.{WriterShape}
use Rattle.kc_engine.specs.States.{State}
use Rattle.kc_session.specs.declared.counts.Counts.{Counts}
use Rattle.kc_session.specs.declared.ended.Ended.{Ended}
use Rattle.kc_session.specs.Agents.{AgentShape}
use Rattle.kc_session.specs.Asking.{HaveRun}
use Rattle.kc_session.proofs.AgentLists.{ready_to_run, ready_to_close}
use Rattle.kc_session.proofs.AudienceLemmas.{store_has_writer, shown_by_writer, writer_is_abreast}
use Rattle.kc_session.proofs.Causes.{same_cause, sent_cause}
use Rattle.kc_session.proofs.LastLines.{joined_abreast}
use Rattle.kc_session.proofs.Steps.{opened_is_abreast}
use Rattle.kc_session.proofs.SessionTexts.{body_none, batches_prefix, batches_written, rest_prefix, rest_written, replies_of, session_replies, few_replies}
use Rattle.kc_session.proofs.session.run_beside_readers.Goals as goal

pub returns-in_err-store-clause-text : goal.returns-in_err-store-clause-text
returns-in_err-store-clause-text g c =
    let p = err_from_is_err_and c.from_residual.result c.from_residual.ensures.1 in
    rw p.1 (body_none (record { profile = c.args.context.now.profile; n = c.args.context.now.n; asks = c.args.asks }) (tokens_left c.args.lines (g.S.Source.left c.args.src.now)) _ _ p.0 refl)

pub returns-in_err-engine-clause-text : goal.returns-in_err-engine-clause-text
returns-in_err-engine-clause-text g c =
    let p = err_from_is_err_and c.from_residual-in_err-engine.result c.from_residual-in_err-engine.ensures.1 in
    rw p.1 (body_none (record { profile = c.args.context.now.profile; n = c.args.context.now.n; asks = c.args.asks }) (tokens_left c.args.lines (g.S.Source.left c.args.src.now)) _ _ p.0 refl)

pub open_agents-requires-clause-few : goal.open_agents-requires-clause-few
open_agents-requires-clause-few g c = let x = c.requires.asks.few in omega (arith, x)

pub open_agents-requires-clause-ranges : goal.open_agents-requires-clause-ranges
open_agents-requires-clause-ranges g c =
    subst (λ (k : ℕ). All (IsAsk k) c.args.asks) (sym c.in_ok-store.ensures.vertices) c.requires.asks.each

pub side_by_side-requires-clause-ready : goal.side_by_side-requires-clause-ready
side_by_side-requires-clause-ready g c κs within =
    record { abreast = rw c.in_ok-agents.ensures.same (ap (λ (w : WriterShape). w.table) c.in_ok-store.ensures.writer, opened_is_abreast c.args.context.now.profile c.args.context.now.n _ _ (ap (λ (w : WriterShape). w.state) c.in_ok-store.ensures.writer) c.in_ok-engine.ensures.state); open_for = c.in_ok-engine.ensures.open; vertices = ap (λ (z : State). z.graph.vertices) c.in_ok-engine.ensures.state }

pub side_by_side-requires-clause-agents : goal.side_by_side-requires-clause-agents
side_by_side-requires-clause-agents g c κs within = rw c.in_ok-agents.ensures.agents (ready_to_run c.in_ok-store.store c.in_ok-store.writer.state.history 0 c.args.asks)

pub close_all-requires-clause-agents : goal.close_all-requires-clause-agents
close_all-requires-clause-agents g c =
    ready_to_close c.in_ok-store.store c.in_ok-store.writer.state.history 0 c.args.asks c.side_by_side.new.askers.agents.items
    (subst (λ (xs : List AgentShape). HaveRun xs c.side_by_side.new.askers.agents.items) c.in_ok-agents.ensures.agents c.side_by_side.ensures.agents)

pub write_rest-requires-clause-abreast : goal.write_rest-requires-clause-abreast
write_rest-requires-clause-abreast g c κs within =
    let there = writer_is_abreast c.side_by_side.new.watched.audience c.in_ok-store.store c.take_writer-writer.result c.side_by_side.new.watched.engine.state c.side_by_side.ensures.run.store c.take_writer-writer.ensures c.in_ok-counts.ensures.run.ready.abreast in
    joined_abreast c.take_writer-writer.result.state c.close_all.new.writer.state c.side_by_side.new.watched.engine.state there.1 c.in_ok-lists.ensures.state

pub write_rest-requires-clause-size : goal.write_rest-requires-clause-size
write_rest-requires-clause-size g c κs within = c.in_ok-store.ensures.vertices ∙ sym (c.in_ok-counts.ensures.run.ready.vertices ∙ ap (λ (z : State). z.graph.vertices) c.in_ok-engine.ensures.state)

pub write_rest-requires-clause-few : goal.write_rest-requires-clause-few
write_rest-requires-clause-few g c κs within =
    let r = session_replies c.in_ok-store.store c.args.context.now.n c.in_ok-store.writer.state.history c.take_writer-writer.result.state.history c.args.asks c.in_ok-agents.agents.items c.side_by_side.new.askers.agents.items c.in_ok-lists.lists.items c.in_ok-store.ensures.vertices c.in_ok-agents.ensures.agents c.side_by_side.ensures.agents c.in_ok-lists.ensures.replies in
    let few = few_replies c.args.context.now.n c.args.asks c.in_ok-lists.lists.items r.fit c.requires.asks.each c.requires.asks.few in
    rw c.as_slice.ensures.value few.1

pub count_replies-replies-requires : goal.count_replies-replies-requires
count_replies-replies-requires g c =
    let r = session_replies c.in_ok-store.store c.args.context.now.n c.in_ok-store.writer.state.history c.take_writer-writer.result.state.history c.args.asks c.in_ok-agents.agents.items c.side_by_side.new.askers.agents.items c.in_ok-lists.lists.items c.in_ok-store.ensures.vertices c.in_ok-agents.ensures.agents c.side_by_side.ensures.agents c.in_ok-lists.ensures.replies in
    let few = few_replies c.args.context.now.n c.args.asks c.in_ok-lists.lists.items r.fit c.requires.asks.each c.requires.asks.few in
    rw c.as_slice-2.ensures.value few.0

pub returns-in_err-agents-clause-text : goal.returns-in_err-agents-clause-text
returns-in_err-agents-clause-text g c =
    let p = err_from_is_err_and c.from_residual-in_err-agents.result c.from_residual-in_err-agents.ensures.1 in
    rw p.1 (body_none (record { profile = c.args.context.now.profile; n = c.args.context.now.n; asks = c.args.asks }) (tokens_left c.args.lines (g.S.Source.left c.args.src.now)) _ _ p.0 refl)

pub returns-in_err-agents-clause-cause : goal.returns-in_err-agents-clause-cause
returns-in_err-agents-clause-cause g c =
    let p = err_from_is_err_and c.from_residual-in_err-agents.result c.from_residual-in_err-agents.ensures.1 in
    rw (p.1, p.2) (refl, refl)

pub returns-in_err-counts-clause-text : goal.returns-in_err-counts-clause-text
returns-in_err-counts-clause-text g c =
    let p = err_from_is_err_and c.from_residual-in_err-counts.result c.from_residual-in_err-counts.ensures.1 in
    rw p.1 (batches_prefix (record { profile = c.args.context.now.profile; n = c.args.context.now.n; asks = c.args.asks }) (tokens_left c.args.lines (g.S.Source.left c.args.src.now)) _ _ _ _ _ _ p.0 _ c.in_ok-engine.ensures.state (rw c.requires.report at c.in_err-counts.ensures.run.text))

pub returns-in_err-counts-clause-cause : goal.returns-in_err-counts-clause-cause
returns-in_err-counts-clause-cause g c =
    let p = err_from_is_err_and c.from_residual-in_err-counts.result c.from_residual-in_err-counts.ensures.1 in
    rw p.1 (same_cause Counts Ended _ _ _ _ _ p.0 p.2 c.in_err-counts.ensures.cause)

pub returns-in_err-lists-clause-text : goal.returns-in_err-lists-clause-text
returns-in_err-lists-clause-text g c =
    let p = err_from_is_err_and c.from_residual-in_err-lists.result c.from_residual-in_err-lists.ensures.1 in
    rw p.1 (batches_written (record { profile = c.args.context.now.profile; n = c.args.context.now.n; asks = c.args.asks }) (tokens_left c.args.lines (g.S.Source.left c.args.src.now)) _ _ _ _ _ _ c.in_ok-counts.counts p.0 c.in_ok-engine.ensures.state (rw c.requires.report at c.in_ok-counts.ensures.run.text))

pub returns-in_err-lists-clause-cause : goal.returns-in_err-lists-clause-cause
returns-in_err-lists-clause-cause g c =
    let p = err_from_is_err_and c.from_residual-in_err-lists.result c.from_residual-in_err-lists.ensures.1 in
    rw (p.1, p.2) c.in_ok-counts.ensures.cause

pub returns-in_err-levels-clause-text : goal.returns-in_err-levels-clause-text
returns-in_err-levels-clause-text g c =
    let none = ap (λ (w : WriterShape). w.state.history) c.in_ok-agents.ensures.same ∙ ap (λ (w : WriterShape). w.state.history) c.in_ok-store.ensures.writer in
    let r = session_replies c.in_ok-store.store c.args.context.now.n c.in_ok-store.writer.state.history c.take_writer-writer.result.state.history c.args.asks c.in_ok-agents.agents.items c.side_by_side.new.askers.agents.items c.in_ok-lists.lists.items c.in_ok-store.ensures.vertices c.in_ok-agents.ensures.agents c.side_by_side.ensures.agents c.in_ok-lists.ensures.replies in
    let p = err_from_is_err_and c.from_residual-in_err-levels.result c.from_residual-in_err-levels.ensures.1 in
    let rest = rw c.as_slice.ensures.value at c.in_err-levels.ensures.text in
    rw p.1 (rest_prefix (record { profile = c.args.context.now.profile; n = c.args.context.now.n; asks = c.args.asks }) (tokens_left c.args.lines (g.S.Source.left c.args.src.now)) _ _ _ _ _ _ _ c.in_ok-counts.counts c.in_ok-lists.lists.items p.0 c.in_ok-engine.ensures.state (rw c.requires.report at c.in_ok-counts.ensures.run.text) (λ es e. replies_of c.args.context.now.n _ _ c.args.asks c.in_ok-lists.lists.items none r es (sym (shown_by_writer c.side_by_side.new.watched.audience c.take_writer-writer.result c.take_writer-writer.ensures) ∙ e)) rest)

pub returns-in_err-levels-clause-cause : goal.returns-in_err-levels-clause-cause
returns-in_err-levels-clause-cause g c =
    let p = err_from_is_err_and c.from_residual-in_err-levels.result c.from_residual-in_err-levels.ensures.1 in
    rw p.1 (sent_cause Counts Ended _ _ _ _ _ _ p.0 c.in_ok-counts.ensures.cause.0 c.in_ok-counts.ensures.cause.1 c.in_err-levels.ensures.cause p.2)

pub returns-clause-text : goal.returns-clause-text
returns-clause-text g c =
    let none = ap (λ (w : WriterShape). w.state.history) c.in_ok-agents.ensures.same ∙ ap (λ (w : WriterShape). w.state.history) c.in_ok-store.ensures.writer in
    let r = session_replies c.in_ok-store.store c.args.context.now.n c.in_ok-store.writer.state.history c.take_writer-writer.result.state.history c.args.asks c.in_ok-agents.agents.items c.side_by_side.new.askers.agents.items c.in_ok-lists.lists.items c.in_ok-store.ensures.vertices c.in_ok-agents.ensures.agents c.side_by_side.ensures.agents c.in_ok-lists.ensures.replies in
    let rest = rw c.as_slice.ensures.value at c.in_ok-levels.ensures.text in
    (rest_written (record { profile = c.args.context.now.profile; n = c.args.context.now.n; asks = c.args.asks }) (tokens_left c.args.lines (g.S.Source.left c.args.src.now)) _ _ _ _ _ _ _ c.in_ok-counts.counts c.in_ok-lists.lists.items c.as_slice-3.result.now c.with.result c.in_ok-engine.ensures.state (rw c.requires.report at c.in_ok-counts.ensures.run.text) (λ es e. replies_of c.args.context.now.n _ _ c.args.asks c.in_ok-lists.lists.items none r es (sym (shown_by_writer c.side_by_side.new.watched.audience c.take_writer-writer.result c.take_writer-writer.ensures) ∙ e)) rest (c.as_slice-3.ensures.value ∙ c.in_ok-levels.ensures.levels) (rw (c.count_replies-replies.ensures, c.as_slice-2.ensures.value) at c.with.ensures))

pub close_all-requires-clause-table : goal.close_all-requires-clause-table
close_all-requires-clause-table g c =
    (writer_is_abreast c.side_by_side.new.watched.audience c.in_ok-store.store c.take_writer-writer.result c.side_by_side.new.watched.engine.state c.side_by_side.ensures.run.store c.take_writer-writer.ensures c.in_ok-counts.ensures.run.ready.abreast).0

pub take_writer-writer-requires : goal.take_writer-writer-requires
take_writer-writer-requires g c = store_has_writer c.side_by_side.new.watched.audience c.in_ok-store.store c.side_by_side.ensures.run.store
