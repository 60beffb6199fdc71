use Rattle.std.proofs.Common.{◌≡◌, ◌∙◌, ap, subst, List, arith}
use mathlib.Core.List.{IsPrefix}
use Rattle.kc_history.specs.declared.entries.Entry.{Entry}
use Rattle.kc_store.specs.Seats.{WriterShape}
use Rattle.kc_session.proofs.PassLemmas.{reading_more, reading_all}
use Rattle.kc_session.proofs.last_pass.read_all.Goals as goal

pub loop-v-preserved : goal.loop-v-preserved
loop-v-preserved c =
    (c.loop-v.invariant.0, reading_more c.args.store.now.vertices c.args.writer.now.state.history c.pass-pass.result c.loop-v.v c.read-level.result c.loop-v.pass c.read-level.new.pass c.loop-v.levels.items c.push.new.self.items c.loop-v.invariant.1 c.read-level.ensures.same c.read-level.ensures.later c.read-level.ensures.level c.in_ok-push.ensures.items)

pub returns-clause-levels : goal.returns-clause-levels
returns-clause-levels c =
    let end = c.loop-v-test.false in
    let below = c.loop-v.auto.v-end in
    let size = c.vertices-v-end.ensures in
    let history : c.take_in.new.self.state.history ≡ c.args.writer.now.state.history = ap (λ (w : WriterShape). w.state.history) c.take_in.ensures.same ∙ ap (λ (w : WriterShape). w.state.history) c.loop-v.invariant.0 in
    reading_all c.args.store.now.vertices c.args.writer.now.state.history c.pass-pass.result c.loop-v.v c.loop-v.pass c.loop-v.levels.items c.loop-v.invariant.1 (omega (arith, end, below, size)) (subst (λ (es : List Entry). IsPrefix c.loop-v.pass.seen es) history c.take_in.ensures.seen)
