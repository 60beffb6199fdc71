use Rattle.std.proofs.Common.{refl}
use Rattle.std.proofs.lemmas.Result.{err_from_is_err_and}
use Rattle.kserve.proofs.Fitting.{can_serve}
use Rattle.kserve.proofs.ServingLemmas.{unwritten, head_stopped, batches_stopped, tail_written}
use Rattle.kserve.proofs.serving.serve_scripts.Goals as goal

pub returns-in_err-engine-clause-text : goal.returns-in_err-engine-clause-text
returns-in_err-engine-clause-text g c =
    let p = err_from_is_err_and c.from_residual.result c.from_residual.ensures.1 in
    rw p.1 (unwritten c.args.context.now.n c.args.context.now.scripts.items _ _ (can_serve c.args.context.now.n c.args.context.now.scripts.items c.args.context.now.ranges) refl)

pub returns-in_err-write_opening-clause-text : goal.returns-in_err-write_opening-clause-text
returns-in_err-write_opening-clause-text g c =
    let p = err_from_is_err_and c.from_residual-in_err-write_opening.result c.from_residual-in_err-write_opening.ensures.1 in
    rw p.1 (head_stopped c.args.context.now.n c.args.context.now.scripts.items _ _ (can_serve c.args.context.now.n c.args.context.now.scripts.items c.args.context.now.ranges) (rw c.context.view_is at c.in_err-write_opening.ensures.text))

pub returns-in_err-serve_clients-clause-text : goal.returns-in_err-serve_clients-clause-text
returns-in_err-serve_clients-clause-text g c =
    let p = err_from_is_err_and c.from_residual-in_err-serve_clients.result c.from_residual-in_err-serve_clients.ensures.1 in
    rw p.1 (batches_stopped c.args.context.now.n c.args.context.now.scripts.items _ _ _ (can_serve c.args.context.now.n c.args.context.now.scripts.items c.args.context.now.ranges) (rw c.context.view_is at c.in_ok-write_opening.ensures.text) c.in_err-serve_clients.ensures.served)

pub returns-clause-text : goal.returns-clause-text
returns-clause-text g c =
    tail_written (Unit {0}) c.args.context.now.n c.args.context.now.scripts.items c.serve_clients.new.server.engine.state _ _ _ _ c.write_tail.result c.in_ok-serve_clients.ensures.open.sound (rw c.context.view_is at c.in_ok-write_opening.ensures.text) c.in_ok-serve_clients.ensures.served c.write_tail.ensures.text
