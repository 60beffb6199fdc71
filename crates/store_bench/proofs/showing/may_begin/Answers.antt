use Rattle.std.proofs.Common.{sym, ap, ◌∙◌, ℕ, ◌+◌, arith}
use Rattle.store_bench.proofs.Shows.{on_true, may_begin_joined, idle_joined}
use Rattle.store_bench.proofs.showing.may_begin.Goals as goal

pub returns-clause-idle : goal.returns-clause-idle
returns-clause-idle c = idle_joined c.args.writer.now.state _ c.are_current.ensures.same c.requires.idle

pub returns-clause-begins : goal.returns-clause-begins
returns-clause-begins c =
    let phase = c.requires.phase in
    let less = c.if-phase-ge-MAX_PHASE.false in
    on_true c.are_current.result
    (may_begin_joined c.args.n c.args.writer.now.state _ c.args.plan.now c.are_current.ensures.same c.requires.vertices.1 c.requires.idle
    (c.if-plan-phase.false ∙ ap (λ (k : ℕ). k + 1) (sym phase))
    (omega (arith, phase, less)) c.requires.formed)
    c.are_current.ensures.current
