use Rattle.std.proofs.Common.{◌≢◌, arith, ◌∙◌}
use Rattle.kc_graph.specs.Shape.{Pair}
use Rattle.kc_insert.proofs.Filled.{can_file_on, counted_all, counted_both, counted_next}
use Rattle.kc_insert.proofs.filing.file_each_end.Goals as goal

pub file_end-requires-clause-can : goal.file_end-requires-clause-can
file_end-requires-clause-can c = can_file_on c.args.fresh.now.profile c.args.fresh.now.vertices c.args.fresh.now.levels c.args.fresh.now.counts c.args.ranges.now c.loop-e.ranges c.requires.can c.loop-e.invariant.same

pub file_end-requires-in-loop-e-clause-can : goal.file_end-requires-in-loop-e-clause-can
file_end-requires-in-loop-e-clause-can c = can_file_on c.args.fresh.now.profile c.args.fresh.now.vertices c.args.fresh.now.levels c.args.fresh.now.counts c.loop-e.ranges c.file_end.new.ranges
    (can_file_on c.args.fresh.now.profile c.args.fresh.now.vertices c.args.fresh.now.levels c.args.fresh.now.counts c.args.ranges.now c.loop-e.ranges c.requires.can c.loop-e.invariant.same) c.in_ok-file_end.ensures.same

pub loop-e-preserved : goal.loop-e-preserved
loop-e-preserved c = counted_next c.args.fresh.now.profile c.args.fresh.now.vertices c.args.fresh.now.levels c.args.fresh.now.counts (λ v (e : Pair). (v ≢ e.0) × (v ≢ e.1)) c.args.edges.now c.loop-e.e-index _ (c.e.inside.a, c.e.inside.b) c.args.ranges.now c.loop-e.ranges c.file_end-in-loop-e.new.ranges c.loop-e-test.true (c.e.view_is ∙ c.e-item.is) c.loop-e.invariant
    (counted_both c.args.fresh.now.profile c.args.fresh.now.vertices c.args.fresh.now.levels c.args.fresh.now.counts (λ v. v ≢ c.e.inside.a) (λ v. v ≢ c.e.inside.b) c.loop-e.ranges c.file_end.new.ranges c.file_end-in-loop-e.new.ranges c.in_ok-file_end.ensures c.in_ok-file_end-2.ensures)

pub returns : goal.returns
returns c = counted_all c.args.fresh.now.profile c.args.fresh.now.vertices c.args.fresh.now.levels c.args.fresh.now.counts (λ v (e : Pair). (v ≢ e.0) × (v ≢ e.1)) c.args.edges.now c.loop-e.e-index c.args.ranges.now c.loop-e.ranges (omega (arith, c.loop-e-test.false)) c.loop-e.invariant
