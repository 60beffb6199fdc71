use Rattle.std.proofs.Common.{ℕ, ◌≡◌, length, ap, arith, refl, subst, ◌∙◌}
use Rattle.std.proofs.lemmas.Grind.{common_steps}
use Rattle.std.proofs.lemmas.Result.{err_from_is_err_and}
use Rattle.kc_intake.specs.Views.{DrainerShape}
use Rattle.kserve.proofs.ClientLemmas.{opened}
use Rattle.kserve.proofs.Fitting.{can_serve}
use Rattle.kserve.proofs.ServingLemmas.{served_all, stopped_all, stopped_early, drained_scripts, prefix_of_stop, no_stray}
use Rattle.kserve.specs.Batches.{start}
use Rattle.kserve.specs.declared.scripts.Scripts.{Scripts}
use Rattle.kserve.specs.private.Clients.{AreNew}
use Rattle.kserve.proofs.serving.serve_clients.Goals as goal

pub side_by_side-course-requires-clause-clients : goal.side_by_side-course-requires-clause-clients
side_by_side-course-requires-clause-clients g c κs within =
    let count : c.len-count.result ≡ length c.args.context.now.scripts.items = grind (arith, common_steps, c.len-count.ensures, ap (λ (s : Scripts). length s.scripts.items) c.context.view_is) in
    subst (λ (k : ℕ). AreNew c.in_ok-intake.intake k c.in_ok-intake.clients.items) count (opened _ _ _ c.in_ok-intake.ensures.clients)

pub returns-in_err-intake-clause-served : goal.returns-in_err-intake-clause-served
returns-in_err-intake-clause-served g c =
    let p = err_from_is_err_and c.from_residual.result c.from_residual.ensures.1 in
    rw p.1 (stopped_early c.args.context.now.scripts.items _ _ refl)

pub returns-in-Ok-clause-served : goal.returns-in-Ok-clause-served
returns-in-Ok-clause-served g c =
    let asked = c.args.context.now in
    let s = c.side_by_side-course.ensures in
    let count : c.len-count.result ≡ length asked.scripts.items = grind (arith, common_steps, c.len-count.ensures, ap (λ (s : Scripts). length s.scripts.items) c.context.view_is) in
    let many = ap (λ (d : DrainerShape). d.clients) c.in_ok-intake.ensures.drainer ∙ count in
    let fit = drained_scripts asked.scripts.items asked.count c.in_ok-intake.intake c.in_ok-intake.drainer c.side_by_side-course.new.opened.drainer c.side_by_side-course.new.opened.clients.items
    c.in_ok-intake.ensures.capacity many asked.counted s.drained s.clients c.take_in_all.ensures.prefix s.all in
    served_all asked.n asked.scripts.items c.side_by_side-course.new.opened.drainer.taken c.side_by_side-course.new.server.engine.state _ _ fit c.in-Ok.ensures.served

pub returns-clause-served : goal.returns-clause-served
returns-clause-served g c =
    let asked = c.args.context.now in
    let s = c.side_by_side-course.ensures in
    let count : c.len-count.result ≡ length asked.scripts.items = grind (arith, common_steps, c.len-count.ensures, ap (λ (s : Scripts). length s.scripts.items) c.context.view_is) in
    let many = ap (λ (d : DrainerShape). d.clients) c.in_ok-intake.ensures.drainer ∙ count in
    let fit = drained_scripts asked.scripts.items asked.count c.in_ok-intake.intake c.in_ok-intake.drainer c.side_by_side-course.new.opened.drainer c.side_by_side-course.new.opened.clients.items
    c.in_ok-intake.ensures.capacity many asked.counted s.drained s.clients c.take_in_all.ensures.prefix s.all in
    stopped_all asked.scripts.items c.side_by_side-course.new.opened.drainer.taken _ _ fit
    (prefix_of_stop (Unit {0}) asked.n (start asked.n) c.side_by_side-course.new.opened.drainer.taken c.side_by_side-course.new.server.engine.state _ _ c.in-Err.stop c.in-Err.ensures.served)

pub fault_of-requires : goal.fault_of-requires
fault_of-requires g c =
    let asked = c.args.context.now in
    let s = c.side_by_side-course.ensures in
    let count : c.len-count.result ≡ length asked.scripts.items = grind (arith, common_steps, c.len-count.ensures, ap (λ (s : Scripts). length s.scripts.items) c.context.view_is) in
    let many = ap (λ (d : DrainerShape). d.clients) c.in_ok-intake.ensures.drainer ∙ count in
    let fit = drained_scripts asked.scripts.items asked.count c.in_ok-intake.intake c.in_ok-intake.drainer c.side_by_side-course.new.opened.drainer c.side_by_side-course.new.opened.clients.items
    c.in_ok-intake.ensures.capacity many asked.counted s.drained s.clients c.take_in_all.ensures.prefix s.all in
    no_stray (Unit {0}) asked.n asked.scripts.items c.side_by_side-course.new.opened.drainer.taken c.side_by_side-course.new.server.engine.state _ _ c.in-Err.stop
    (can_serve asked.n asked.scripts.items asked.ranges) fit c.in-Err.ensures.served
