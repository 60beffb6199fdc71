use Rattle.std.proofs.Common.{◌<◌, arith, sym, ap, subst}
use Rattle.kc_history.specs.declared.replies.Reply.{Reply}
use Rattle.kc_session.proofs.AskingLemmas.{asking_more, all_same_below}
use Rattle.kc_session.proofs.agent.ask_all.Goals as goal

pub read-level-requires-clause-vertex : goal.read-level-requires-clause-vertex
read-level-requires-clause-vertex g c =
    let i = c.loop-i.invariant in
    let s = i.sized in
    let t = c.loop-i-test.true in
    let l = c.len-i-end.ensures in
    subst (λ (r : Reply). r.vertex < c.args.store.now.vertices) (sym c.index.ensures)
    (all_same_below c.args.store.now.vertices c.loop-i.replies.items c.args.replies.now.items i.vertices c.requires.vertices c.loop-i.i c.index.result.now (omega (arith, s, t, l)))

pub loop-i-preserved : goal.loop-i-preserved
loop-i-preserved g c =
    let i = c.loop-i.invariant in
    let s = i.sized in
    let t = c.loop-i-test.true in
    let l = c.len-i-end.ensures in
    asking_more c.args.store.now.vertices c.args.pass.now c.args.replies.now.items c.loop-i.i c.loop-i.pass c.read-level.new.pass c.loop-i.replies.items c.index.result.now (record { vertex = c.index.result.now.vertex; level = c.read-level.result })
    i (omega (arith, s, t, l)) c.read-level.ensures.same c.read-level.ensures.later (ap (λ (r : Reply). r.vertex) c.index.ensures) c.read-level.ensures.level
