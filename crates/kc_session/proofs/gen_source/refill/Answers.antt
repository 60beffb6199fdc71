use Rattle.std.proofs.Common.{arith}
use Rattle.kc_session.proofs.LoadLemmas.{refilled, nothing_left, same_vertices}
use Rattle.kc_session.proofs.gen_source.refill.Goals as goal

pub returns-clause-same : goal.returns-clause-same
returns-clause-same c = refilled c.args.generator.now _ c.args.line.now.items _ c.args.at c.make_line.result (omega (arith, c.if-at-len.false, c.len.ensures.value)) c.make_line.ensures

pub returns-clause-end : goal.returns-clause-end
returns-clause-end c = nothing_left c.args.generator.now _ _ c.make_line.result c.make_line.ensures

pub returns-clause-vertices : goal.returns-clause-vertices
returns-clause-vertices c = same_vertices c.args.generator.now _ _ c.make_line.result c.make_line.ensures
